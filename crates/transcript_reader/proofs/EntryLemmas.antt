-- The line of an entry is read from left to right.
use Rattle.std.proofs.Common.{◌≡◌, ◌≢◌, ℕ, ◌<◌, ◌^◌, List, ◌++◌, Option, Some, None, codes, decimal, Result, Ok, Err, refl, sym, ap, ◌∙◌, ◌⊎◌, inl, inr}
use Rattle.std.proofs.lemmas.Option.{none-some, some_pair_parts, same_Some}
use Rattle.text_parts.specs.declared.unread.Unread.{Unread}
use Rattle.text_parts.specs.declared.unread.Unread.TheVariants.{Refused, Memory as NoRoom}
use Rattle.admission_model.specs.declared.ask.Call.{Call}
use Rattle.admission_model.specs.declared.reply.Reply.{Reply}
use Rattle.merge_core.specs.declared.layout.RecordSpec.{RecordSpec}
use Rattle.desk_log.specs.declared.entry.Entry.{Entry}
use Rattle.script_text.specs.Replies.{reply_text}
use Rattle.text_parts.specs.Readers.{◌>>=◌, Fails, after, short_at}
use Rattle.text_parts.proofs.LiteralLaws.{bind_some, after_takes, after_again}
use Rattle.text_parts.proofs.NumberLaws.{short_takes, short_again}
use Rattle.transcript_text.specs.Texts.{call_text, entry_text}
use Rattle.transcript_reader.specs.Fits.{FitsCall, FitsReply}
use Rattle.transcript_reader.specs.Quoted.{quoted, Refuses}
use Rattle.transcript_reader.specs.Readers.{pass_behind}
use Rattle.transcript_reader.specs.Reading.{IsNoEntry}
use Rattle.transcript_reader.proofs.EscapedLemmas.{quoted_once}

abbrev Read : Type 0
Read = ℕ × List ℕ

-- ---- the pass

-- the pass of an entry, and what follows it
abbrev pub pass_text : ℕ → List ℕ → List ℕ
pass_text pass rest = codes ",\"pass\":" ++ (decimal pass ++ (codes ",\"reply\":\"" ++ rest))

-- the reading from each of its parts on
abbrev with_pass : Read → Option Read
with_pass pass = after (codes ",\"reply\":\"") pass.1 >>= λ rest. Some (pass.0, rest)

abbrev with_front : List ℕ → Option Read
with_front front = short_at front >>= with_pass

pub pass_again : (pass : ℕ) (rest : List ℕ) → pass < 2 ^ 16 → pass_behind (pass_text pass rest) ≡ Some (pass, rest)
unfolding pass_behind
pass_again pass rest fits =
    let t1 = codes ",\"reply\":\"" ++ rest in
    ap (λ (o : Option (List ℕ)). o >>= with_front) (after_again (codes ",\"pass\":") (decimal pass ++ t1))
    ∙ (ap (λ (o : Option Read). o >>= with_pass) (short_again pass t1 fits refl)
    ∙ ap (λ (o : Option (List ℕ)). o >>= λ (t : List ℕ). Some (pass, t)) (after_again (codes ",\"reply\":\"") rest))

pass_takes : (bytes : List ℕ) (pass : ℕ) (rest : List ℕ) → pass_behind bytes ≡ Some (pass, rest) → bytes ≡ pass_text pass rest
unfolding pass_behind
pass_takes bytes pass rest e =
    let front = bind_some (after (codes ",\"pass\":") bytes) with_front (pass, rest) e in
    let read = bind_some (short_at front.0) with_pass (pass, rest) front.2 in
    let last = bind_some (after (codes ",\"reply\":\"") read.0.1) (λ (t : List ℕ). Some (read.0.0, t)) (pass, rest) read.2 in
    let same = some_pair_parts read.0.0 pass last.0 rest last.2 in
    after_takes (codes ",\"pass\":") bytes front.0 front.1
    ∙ (ap (λ (t : List ℕ). codes ",\"pass\":" ++ t)
    (short_takes front.0 read.0.0 read.0.1 read.1 ∙ ap (λ (t : List ℕ). decimal read.0.0 ++ t) (after_takes (codes ",\"reply\":\"") read.0.1 last.0 last.1))
    ∙ (ap (λ (n : ℕ). pass_text n last.0) same.0 ∙ ap (pass_text pass) same.1))

pub passes_same : (pass other : ℕ) (rest behind : List ℕ) → pass < 2 ^ 16 → other < 2 ^ 16 → pass_text pass rest ≡ pass_text other behind → (pass ≡ other) × (rest ≡ behind)
passes_same pass other rest behind fits fits2 same =
    some_pair_parts pass other rest behind (sym (pass_again pass rest fits) ∙ (ap pass_behind same ∙ pass_again other behind fits2))

-- ---- the line

-- what stands behind the call of an entry
abbrev pub tail_text : Entry → List ℕ
tail_text e = pass_text e.pass (quoted (reply_text e.reply) (codes "}"))

line_is : (records : List RecordSpec) (e : Entry) → entry_text records e ≡ codes "{\"call\":\"" ++ quoted (call_text records e.call) (tail_text e)
unfolding entry_text
line_is records e = refl

-- what stands behind its first quote
front_is : (records : List RecordSpec) (line bytes : List ℕ) (e : Entry) → after (codes "{\"call\":\"") line ≡ Some bytes → line ≡ entry_text records e
    → bytes ≡ quoted (call_text records e.call) (tail_text e)
front_is records line bytes e taken same =
    same_Some bytes (quoted (call_text records e.call) (tail_text e))
    (sym taken ∙ (ap (after (codes "{\"call\":\"")) (same ∙ line_is records e) ∙ after_again (codes "{\"call\":\"") (quoted (call_text records e.call) (tail_text e))))

pub front_same : (records : List RecordSpec) (e f : Entry) → entry_text records e ≡ entry_text records f
    → quoted (call_text records e.call) (tail_text e) ≡ quoted (call_text records f.call) (tail_text f)
front_same records e f same =
    front_is records (entry_text records e) (quoted (call_text records e.call) (tail_text e)) f
    (ap (after (codes "{\"call\":\"")) (line_is records e) ∙ after_again (codes "{\"call\":\"") (quoted (call_text records e.call) (tail_text e))) same

pub entry_same : (e : Entry) (pass : ℕ) (call : Call) (reply : Reply) → pass ≡ e.pass → call ≡ e.call → reply ≡ e.reply → record { pass = pass; call = call; reply = reply } ≡ e
entry_same e pass call reply p c r = λ k. record { pass = p k; call = c k; reply = r k }

-- the line of what was read
pub entry_sound : (records : List RecordSpec) (line bytes : List ℕ) (call : Call) (front : List ℕ) (pass : ℕ) (behind : List ℕ) (reply : Reply) (rest : List ℕ)
    → after (codes "{\"call\":\"") line ≡ Some bytes → bytes ≡ quoted (call_text records call) front → pass_behind front ≡ Some (pass, behind)
    → behind ≡ quoted (reply_text reply) rest → rest ≡ codes "}" → line ≡ entry_text records (record { pass = pass; call = call; reply = reply })
entry_sound records line bytes call front pass behind reply rest head is_call is_pass is_reply end =
    let tail : front ≡ pass_text pass (quoted (reply_text reply) (codes "}")) =
    pass_takes front pass behind is_pass ∙ ap (pass_text pass) (is_reply ∙ ap (quoted (reply_text reply)) end) in
    after_takes (codes "{\"call\":\"") line bytes head
    ∙ (ap (λ (t : List ℕ). codes "{\"call\":\"" ++ t) (is_call ∙ ap (quoted (call_text records call)) tail)
    ∙ sym (line_is records (record { pass = pass; call = call; reply = reply })))

-- ---- where a line is refused

refuses_so : (e : Unread) (N : Type 0) → Refuses e N → e ≡ Refused → N
refuses_so Refused N none same = none
refuses_so NoRoom N none same = absurd cc

fails_so : {Y : Type 0} (e : Unread) (read : Option Y) → Fails e read → e ≡ Refused → read ≡ None
fails_so Refused read none same = none
fails_so NoRoom read none same = absurd cc

pub no_head : (records : List RecordSpec) (e : Unread) (line : List ℕ) → Fails e (after (codes "{\"call\":\"") line) → e ≡ Refused → IsNoEntry records line
no_head records e line fails refused = λ entry fits same.
    let front = quoted (call_text records entry.call) (tail_text entry) in
    none-some front (sym (fails_so e (after (codes "{\"call\":\"") line) fails refused) ∙ (ap (after (codes "{\"call\":\"")) (same ∙ line_is records entry) ∙ after_again (codes "{\"call\":\"") front))

abbrev NoCall : List RecordSpec → List ℕ → Type 0
NoCall records bytes = (call : Call) → (rest : List ℕ) → FitsCall call → bytes ≢ quoted (call_text records call) rest

abbrev NoReply : List ℕ → Type 0
NoReply bytes = (reply : Reply) → (rest : List ℕ) → FitsReply reply → bytes ≢ quoted (reply_text reply) rest

pub no_call : (records : List RecordSpec) (e : Unread) (line bytes : List ℕ) → after (codes "{\"call\":\"") line ≡ Some bytes → Refuses e (NoCall records bytes) → e ≡ Refused → IsNoEntry records line
no_call records e line bytes head none refused = λ entry fits same.
    refuses_so e (NoCall records bytes) none refused entry.call (tail_text entry) fits.call (front_is records line bytes entry head same)

-- what stands behind the call
behind_call : (records : List RecordSpec) (line bytes : List ℕ) (call : Call) (front : List ℕ) (entry : Entry) → after (codes "{\"call\":\"") line ≡ Some bytes
    → bytes ≡ quoted (call_text records call) front → line ≡ entry_text records entry → front ≡ tail_text entry
behind_call records line bytes call front entry head is_call same =
    (quoted_once (call_text records call) front (call_text records entry.call) (tail_text entry) (sym is_call ∙ front_is records line bytes entry head same)).1

pub no_pass : (records : List RecordSpec) (e : Unread) (line bytes : List ℕ) (call : Call) (front : List ℕ) → after (codes "{\"call\":\"") line ≡ Some bytes
    → bytes ≡ quoted (call_text records call) front → Fails e (pass_behind front) → e ≡ Refused → IsNoEntry records line
no_pass records e line bytes call front head is_call fails refused = λ entry fits same.
    let behind = quoted (reply_text entry.reply) (codes "}") in
    none-some (entry.pass, behind)
    (sym (fails_so e (pass_behind front) fails refused) ∙ (ap pass_behind (behind_call records line bytes call front entry head is_call same) ∙ pass_again entry.pass behind fits.pass))

-- what stands behind the pass
behind_pass : (front : List ℕ) (pass : ℕ) (behind : List ℕ) (entry : Entry) → pass_behind front ≡ Some (pass, behind) → front ≡ tail_text entry → entry.pass < 2 ^ 16
    → behind ≡ quoted (reply_text entry.reply) (codes "}")
behind_pass front pass behind entry is_pass tail fits =
    let last = quoted (reply_text entry.reply) (codes "}") in
    (some_pair_parts pass entry.pass behind last (sym is_pass ∙ (ap pass_behind tail ∙ pass_again entry.pass last fits))).1

pub no_reply : (records : List RecordSpec) (e : Unread) (line bytes : List ℕ) (call : Call) (front : List ℕ) (pass : ℕ) (behind : List ℕ) → after (codes "{\"call\":\"") line ≡ Some bytes
    → bytes ≡ quoted (call_text records call) front → pass_behind front ≡ Some (pass, behind) → Refuses e (NoReply behind) → e ≡ Refused → IsNoEntry records line
no_reply records e line bytes call front pass behind head is_call is_pass none refused = λ entry fits same.
    refuses_so e (NoReply behind) none refused entry.reply (codes "}") fits.reply
    (behind_pass front pass behind entry is_pass (behind_call records line bytes call front entry head is_call same) fits.pass)

pub no_end : (records : List RecordSpec) (line bytes : List ℕ) (call : Call) (front : List ℕ) (pass : ℕ) (behind : List ℕ) (reply : Reply) (rest : List ℕ) → after (codes "{\"call\":\"") line ≡ Some bytes
    → bytes ≡ quoted (call_text records call) front → pass_behind front ≡ Some (pass, behind) → behind ≡ quoted (reply_text reply) rest → (rest ≡ codes "}" → ⊥) → IsNoEntry records line
no_end records line bytes call front pass behind reply rest head is_call is_pass is_reply other = λ entry fits same.
    let last = behind_pass front pass behind entry is_pass (behind_call records line bytes call front entry head is_call same) fits.pass in
    other (quoted_once (reply_text reply) rest (reply_text entry.reply) (codes "}") (sym is_reply ∙ last)).1

-- ---- what a reader may answer

-- a reader that gives up where there is a reading is out of memory
pub only_memory : {Y : Type 0} (e : Unread) (read : Option Y) (y : Y) → Fails e read → read ≡ Some y → e ≡ NoRoom
only_memory Refused read y none some = absurd (none-some y (sym none ∙ some))
only_memory NoRoom read y fails some = refl

pub memory_of : {A : Type 0} (e : Unread) (x : A) → (◌≡◌ {A = Result A Unread} (Err e) (Ok x)) ⊎ (◌≡◌ {A = Result A Unread} (Err e) (Err NoRoom)) → e ≡ NoRoom
memory_of e x (inl same) = absurd cc
memory_of e x (inr same) = cc

pub value_of : {A : Type 0} (x y : A) → (◌≡◌ {A = Result A Unread} (Ok x) (Ok y)) ⊎ (◌≡◌ {A = Result A Unread} (Ok x) (Err NoRoom)) → x ≡ y
value_of x y (inl same) = cc
value_of x y (inr same) = absurd cc
