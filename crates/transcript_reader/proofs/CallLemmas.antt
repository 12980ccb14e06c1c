-- A call is read from its text, and from no other.
use Rattle.std.proofs.Common.{◌≡◌, ◌≢◌, ℕ, ◌<◌, ◌^◌, true, List, [], ◌∷◌, ◌++◌, get_or, drop, Option, Some, None, codes, decimal, refl, sym, ap, ◌∙◌, append_assoc, Result, Ok, Err, arith}
use Rattle.std.proofs.lemmas.Option.{none-some}
use Rattle.merge_core.specs.declared.layout.RecordSpec.{RecordSpec}
use Rattle.merge_core.specs.Layout.{LayoutState, IsLayout}
use Rattle.merge_core.specs.Delta.{DeltaState, IsDelta}
use Rattle.text_parts.specs.declared.unread.Unread.{Unread}
use Rattle.text_parts.specs.declared.unread.Unread.TheVariants.{Refused, Memory as NoRoom}
use Rattle.delta_codec.specs.DeltaText.{delta_text}
use Rattle.admission_model.specs.declared.ask.Call.{Call}
use Rattle.admission_model.specs.declared.ask.Call.TheVariants.{Ask as AskCall, Merge, Snapshot}
use Rattle.admission_model.specs.declared.ask.Ask.{Ask}
use Rattle.admission_model.specs.declared.ask.Ask.TheVariants.{Read as ReadAsk, Announce as AnnounceAsk, Quill as QuillAsk, Leave as LeaveAsk, Give as GiveAsk, Help as HelpAsk}
use Rattle.text_parts.specs.Readers.{◌>>=◌, Gives, after}
use Rattle.transcript_text.specs.Texts.{record_text, ask_text, call_text}
use Rattle.transcript_reader.specs.declared.asks.Held.{Held}
use Rattle.transcript_reader.specs.declared.asks.Held.TheVariants.{Read, Announce, Write, Leave}
use Rattle.transcript_reader.specs.declared.asks.Verb.{Verb}
use Rattle.transcript_reader.specs.declared.asks.Verb.TheVariants.{Held as HeldVerb, Give, Help}
use Rattle.transcript_reader.specs.Fits.{FitsAsk, FitsCall}
use Rattle.transcript_reader.specs.Quoted.{quoted, Refuses, ReadsQuoted}
use Rattle.transcript_reader.specs.Words.{ends_word, record_at, last_number, gift_at}
use Rattle.transcript_reader.specs.CallReaders.{verb_behind, verb_at, held_ask, ask_behind, ask_at, snapshot_call, ask_call, worded_call}
use Rattle.transcript_reader.proofs.EscapedLemmas.{is_plain, plain_append, number_plain, plain_quoted}
use Rattle.transcript_reader.proofs.HoldLemmas.{Holds, held_by, letter_holds, still_holds, then_holds, literal_holds}
use Rattle.transcript_reader.proofs.RecordLemmas.{record_again, record_says, record_at_again}
use Rattle.transcript_reader.proofs.WordLemmas.{SaysLast, SaysPair, last_text, spaced, last_number_says, last_number_again, gift_says, gift_again}

-- ---- what is read is what stands there

abbrev verb_text : Verb → List ℕ
verb_text (HeldVerb Read) = codes "read "
verb_text (HeldVerb Announce) = codes "announce "
verb_text (HeldVerb Write) = codes "write "
verb_text (HeldVerb Leave) = codes "leave "
verb_text Give = codes "give "
verb_text Help = codes "help "

abbrev SaysVerb : List ℕ → Verb × List ℕ → Type 0
SaysVerb bytes x = bytes ≡ verb_text x.0 ++ x.1

-- a verb behind its first letter
letter_says : (k : ℕ) (bs literal : List ℕ) (verb : Verb) → ((rest : List ℕ) → k ∷ (literal ++ rest) ≡ verb_text verb ++ rest) → Holds (SaysVerb (k ∷ bs)) (verb_behind literal verb bs)
letter_says k bs literal verb whole =
    then_holds (λ (rest : List ℕ). bs ≡ literal ++ rest) (SaysVerb (k ∷ bs)) (after literal bs) (λ rest. Some (verb, rest)) (literal_holds literal bs)
    (λ rest e. ap (λ (t : List ℕ). k ∷ t) e ∙ whole rest)

verb_says : (bytes : List ℕ) → Holds (SaysVerb bytes) (verb_at bytes)
unfolding verb_at
verb_says [] = tt
verb_says (b ∷ bs) =
    letter_holds SaysVerb 114 b bs _ _ (letter_says 114 bs (codes "ead ") (HeldVerb Read) (λ rest. refl))
    (letter_holds SaysVerb 108 b bs _ _ (letter_says 108 bs (codes "eave ") (HeldVerb Leave) (λ rest. refl))
    (letter_holds SaysVerb 97 b bs _ _ (letter_says 97 bs (codes "nnounce ") (HeldVerb Announce) (λ rest. refl))
    (letter_holds SaysVerb 119 b bs _ _ (letter_says 119 bs (codes "rite ") (HeldVerb Write) (λ rest. refl))
    (letter_holds SaysVerb 104 b bs _ _ (letter_says 104 bs (codes "elp ") Help (λ rest. refl))
    (letter_holds SaysVerb 103 b bs _ None (letter_says 103 bs (codes "ive ") Give (λ rest. refl)) tt)))))

held_text : (records : List RecordSpec) (held : Held) (r h : ℕ) → ask_text records (held_ask held r h) ≡ verb_text (HeldVerb held) ++ (record_text records r ++ 32 ∷ last_text h)
held_text records Read r h = refl
held_text records Announce r h = refl
held_text records Write r h = refl
held_text records Leave r h = refl

held_fits : (held : Held) (r h : ℕ) → r < 2 ^ 16 → h < 2 ^ 64 → FitsAsk (held_ask held r h)
held_fits Read r h low low2 = (low, low2)
held_fits Announce r h low low2 = (low, low2)
held_fits Write r h low low2 = (low, low2)
held_fits Leave r h low low2 = (low, low2)

-- a verb, a record, and what is read behind them are the text of an ask up to the closing quote, and what stands behind it
abbrev SaysBehind : List RecordSpec → Verb → ℕ → List ℕ → Ask × List ℕ → Type 0
SaysBehind records verb r bytes x = FitsAsk x.0 × (verb_text verb ++ (record_text records r ++ bytes) ≡ ask_text records x.0 ++ 34 ∷ x.1)

behind_says : (records : List RecordSpec) (verb : Verb) (r : ℕ) (bytes : List ℕ) → r < 2 ^ 16 → Holds (SaysBehind records verb r bytes) (ask_behind verb r bytes)
behind_says records (HeldVerb held) r bytes low =
    let Says = SaysBehind records (HeldVerb held) r bytes in
    let name = record_text records r in
    let verb = verb_text (HeldVerb held) in
    then_holds (λ (rest : List ℕ). bytes ≡ 32 ∷ rest) Says (after (codes " ") bytes) (λ rest. last_number rest >>= λ h. Some (held_ask held r h.0, h.1)) (literal_holds (codes " ") bytes)
    (λ rest e. then_holds (SaysLast (2 ^ 64) rest) Says (last_number rest) (λ h. Some (held_ask held r h.0, h.1)) (last_number_says rest)
    (λ h it. (
      held_fits held r h.0 low it.0,
      ap (λ (t : List ℕ). verb ++ t) (spaced name (last_text h.0) (name ++ bytes) bytes rest h.1 refl e it.1)
          ∙ (sym (append_assoc verb (name ++ 32 ∷ last_text h.0) (34 ∷ h.1)) ∙ ap (λ (t : List ℕ). t ++ 34 ∷ h.1) (sym (held_text records held r h.0))),
    )))
behind_says records Give r bytes low =
    let Says = SaysBehind records Give r bytes in
    let name = record_text records r in
    then_holds (λ (rest : List ℕ). bytes ≡ 32 ∷ rest) Says (after (codes " ") bytes) (λ rest. gift_at rest >>= λ gift. Some (GiveAsk r gift.0 gift.1, gift.2)) (literal_holds (codes " ") bytes)
    (λ rest e. then_holds (SaysPair decimal (2 ^ 16) (2 ^ 64) rest) Says (gift_at rest) (λ gift. Some (GiveAsk r gift.0 gift.1, gift.2)) (gift_says rest)
    (λ gift it. (
      (low, (it.0, it.1.0)),
      ap (λ (t : List ℕ). codes "give " ++ t) (spaced name (decimal gift.0 ++ 32 ∷ last_text gift.1) (name ++ bytes) bytes rest gift.2 refl e it.1.1),
    )))
behind_says records Help r bytes low =
    then_holds (λ (rest : List ℕ). bytes ≡ 34 ∷ rest) (SaysBehind records Help r bytes) (after (codes "\"") bytes) (λ rest. Some (HelpAsk r, rest)) (literal_holds (codes "\"") bytes)
    (λ rest e. (low, ap (λ (t : List ℕ). codes "help " ++ (record_text records r ++ t)) e))

abbrev SaysAsk : LayoutState → List ℕ → Ask × List ℕ → Type 0
SaysAsk layout bytes x = FitsAsk x.0 × (bytes ≡ ask_text layout.records x.0 ++ 34 ∷ x.1)

ask_says : (layout : LayoutState) → IsLayout layout → (bytes : List ℕ) → Holds (SaysAsk layout bytes) (ask_at layout.records bytes)
unfolding ask_at
ask_says layout is bytes =
    let records = layout.records in
    let Says = SaysAsk layout bytes in
    then_holds (SaysVerb bytes) Says (verb_at bytes) (λ verb. record_at records verb.1 >>= λ r. ask_behind verb.0 r.0 r.1) (verb_says bytes)
    (λ verb same. then_holds (λ (r : ℕ × List ℕ). (r.0 < 2 ^ 16) × (verb.1 ≡ record_text records r.0 ++ r.1)) Says (record_at records verb.1) (λ r. ask_behind verb.0 r.0 r.1) (record_says layout is verb.1)
    (λ r it. still_holds (SaysBehind records verb.0 r.0 r.1) Says (ask_behind verb.0 r.0 r.1)
    (λ x at. (at.0, same ∙ (ap (λ (t : List ℕ). verb_text verb.0 ++ t) it.1 ∙ at.1))) (behind_says records verb.0 r.0 r.1 it.0)))

-- ---- what stands there is read

verb_again : (verb : Verb) (rest : List ℕ) → verb_at (verb_text verb ++ rest) ≡ Some (verb, rest)
unfolding verb_at
verb_again (HeldVerb Read) rest = refl
verb_again (HeldVerb Announce) rest = refl
verb_again (HeldVerb Write) rest = refl
verb_again (HeldVerb Leave) rest = refl
verb_again Give rest = refl
verb_again Help rest = refl

front_again : (layout : LayoutState) → IsLayout layout → (verb : Verb) (r b : ℕ) (rest : List ℕ) → r < 2 ^ 16 → ends_word b ≡ true
    → ask_at layout.records (verb_text verb ++ (record_text layout.records r ++ b ∷ rest)) ≡ ask_behind verb r (b ∷ rest)
unfolding ask_at
front_again layout is verb r b rest fits ends =
    let records = layout.records in
    ap (λ (o : Option (Verb × List ℕ)). o >>= λ v. record_at records v.1 >>= λ x. ask_behind v.0 x.0 x.1) (verb_again verb (record_text records r ++ b ∷ rest))
    ∙ ap (λ (o : Option (ℕ × List ℕ)). o >>= λ x. ask_behind verb x.0 x.1) (record_at_again layout is r b rest fits ends)

held_again : (layout : LayoutState) → IsLayout layout → (held : Held) (r h : ℕ) (rest : List ℕ) → r < 2 ^ 16 → h < 2 ^ 64
    → ask_at layout.records (ask_text layout.records (held_ask held r h) ++ 34 ∷ rest) ≡ Some (held_ask held r h, rest)
held_again layout is held r h rest fits fits2 =
    let records = layout.records in
    let name = record_text records r in
    let verb = verb_text (HeldVerb held) in
    ap (λ (t : List ℕ). ask_at records (t ++ 34 ∷ rest)) (held_text records held r h)
    ∙ (ap (ask_at records) (append_assoc verb (name ++ 32 ∷ last_text h) (34 ∷ rest) ∙ ap (λ (t : List ℕ). verb ++ t) (append_assoc name (32 ∷ last_text h) (34 ∷ rest)))
    ∙ (front_again layout is (HeldVerb held) r 32 (last_text h ++ 34 ∷ rest) fits refl
    ∙ ap (λ (o : Option (ℕ × List ℕ)). o >>= λ x. Some (held_ask held r x.0, x.1)) (last_number_again h rest fits2)))

give_again : (layout : LayoutState) → IsLayout layout → (r to seats : ℕ) (rest : List ℕ) → r < 2 ^ 16 → to < 2 ^ 16 → seats < 2 ^ 64
    → ask_at layout.records (ask_text layout.records (GiveAsk r to seats) ++ 34 ∷ rest) ≡ Some (GiveAsk r to seats, rest)
give_again layout is r to seats rest fits fits2 fits3 =
    let records = layout.records in
    let gift = decimal to ++ 32 ∷ last_text seats in
    ap (λ (t : List ℕ). ask_at records (codes "give " ++ t)) (append_assoc (record_text records r) (32 ∷ gift) (34 ∷ rest))
    ∙ (front_again layout is Give r 32 (gift ++ 34 ∷ rest) fits refl
    ∙ ap (λ (o : Option (ℕ × ℕ × List ℕ)). o >>= λ y. Some (GiveAsk r y.0 y.1, y.2)) (gift_again to seats rest fits2 fits3))

ask_again : (layout : LayoutState) → IsLayout layout → (ask : Ask) (rest : List ℕ) → FitsAsk ask → ask_at layout.records (ask_text layout.records ask ++ 34 ∷ rest) ≡ Some (ask, rest)
ask_again layout is (ReadAsk r h) rest fits = held_again layout is Read r h rest fits.0 fits.1
ask_again layout is (AnnounceAsk r h) rest fits = held_again layout is Announce r h rest fits.0 fits.1
ask_again layout is (QuillAsk r h) rest fits = held_again layout is Write r h rest fits.0 fits.1
ask_again layout is (LeaveAsk r h) rest fits = held_again layout is Leave r h rest fits.0 fits.1
ask_again layout is (GiveAsk r to seats) rest fits = give_again layout is r to seats rest fits.0 fits.1.0 fits.1.1
ask_again layout is (HelpAsk r) rest fits = front_again layout is Help r 34 rest fits refl

-- ---- between quotes

-- the text of an ask needs no backslash
ask_plain : (layout : LayoutState) → IsLayout layout → (ask : Ask) → FitsAsk ask → is_plain (ask_text layout.records ask) ≡ true
ask_plain layout is (ReadAsk r h) fits = plain_append (record_text layout.records r) _ (record_again layout is r fits.0).plain (number_plain h [] fits.1 refl)
ask_plain layout is (AnnounceAsk r h) fits = plain_append (record_text layout.records r) _ (record_again layout is r fits.0).plain (number_plain h [] fits.1 refl)
ask_plain layout is (QuillAsk r h) fits = plain_append (record_text layout.records r) _ (record_again layout is r fits.0).plain (number_plain h [] fits.1 refl)
ask_plain layout is (LeaveAsk r h) fits = plain_append (record_text layout.records r) _ (record_again layout is r fits.0).plain (number_plain h [] fits.1 refl)
ask_plain layout is (GiveAsk r to seats) fits =
    plain_append (record_text layout.records r) _ (record_again layout is r fits.0).plain
    (number_plain to (32 ∷ (decimal seats ++ [])) (omega (arith, fits.1.0)) (number_plain seats [] fits.1.1 refl))
ask_plain layout is (HelpAsk r) fits = (record_again layout is r fits).plain

abbrev SaysCall : LayoutState → List ℕ → Call × List ℕ → Type 0
SaysCall layout bytes x = FitsCall x.0 × (bytes ≡ quoted (call_text layout.records x.0) x.1)

ask_call_says : (layout : LayoutState) → IsLayout layout → (bytes : List ℕ) → Holds (SaysCall layout bytes) (ask_call layout.records bytes)
ask_call_says layout is bytes =
    then_holds (SaysAsk layout bytes) (SaysCall layout bytes) (ask_at layout.records bytes) (λ ask. Some (AskCall ask.0, ask.1)) (ask_says layout is bytes)
    (λ x it. (it.0, it.1 ∙ sym (plain_quoted (ask_text layout.records x.0) x.1 (ask_plain layout is x.0 it.0))))

call_says : (layout : LayoutState) → IsLayout layout → (bytes : List ℕ) → Holds (SaysCall layout bytes) (worded_call layout.records bytes)
unfolding worded_call
call_says layout is [] = ask_call_says layout is []
call_says layout is (b ∷ bs) =
    letter_holds (SaysCall layout) 115 b bs (snapshot_call bs) (ask_call layout.records (b ∷ bs))
    (then_holds (λ (rest : List ℕ). bs ≡ codes "end\"" ++ rest) (SaysCall layout (115 ∷ bs)) (after (codes "end\"") bs) (λ rest. Some (Snapshot, rest)) (literal_holds (codes "end\"") bs)
    (λ rest e. (tt, ap (λ (t : List ℕ). 115 ∷ t) e))) (ask_call_says layout is (b ∷ bs))

-- no ask begins as a snapshot does
not_sent : (records : List RecordSpec) (ask : Ask) (rest : List ℕ) → worded_call records (ask_text records ask ++ 34 ∷ rest) ≡ ask_call records (ask_text records ask ++ 34 ∷ rest)
unfolding worded_call
not_sent records (ReadAsk r h) rest = refl
not_sent records (AnnounceAsk r h) rest = refl
not_sent records (QuillAsk r h) rest = refl
not_sent records (LeaveAsk r h) rest = refl
not_sent records (GiveAsk r to seats) rest = refl
not_sent records (HelpAsk r) rest = refl

pub asked_again : (layout : LayoutState) → IsLayout layout → (ask : Ask) (rest : List ℕ) → FitsAsk ask
    → worded_call layout.records (quoted (ask_text layout.records ask) rest) ≡ Some (AskCall ask, rest)
asked_again layout is ask rest fits =
    ap (worded_call layout.records) (plain_quoted (ask_text layout.records ask) rest (ask_plain layout is ask fits))
    ∙ (not_sent layout.records ask rest ∙ ap (λ (o : Option (Ask × List ℕ)). o >>= λ x. Some (AskCall x.0, x.1)) (ask_again layout is ask rest fits))

pub sent_again : (records : List RecordSpec) (rest : List ℕ) → worded_call records (quoted (codes "send") rest) ≡ Some (Snapshot, rest)
unfolding worded_call
sent_again records rest = refl

-- what begins with the verb that takes a delta is none of these
pub take_asks_nothing : (records : List RecordSpec) (text : List ℕ) → worded_call records (codes "take " ++ text) ≡ None
unfolding worded_call ask_at verb_at
take_asks_nothing records text = refl

abbrev NoCall : LayoutState → List ℕ → Type 0
NoCall layout bytes = (call : Call) → (rest : List ℕ) → FitsCall call → bytes ≢ quoted (call_text layout.records call) rest

no_call : (layout : LayoutState) → IsLayout layout → (bytes : List ℕ) → worded_call layout.records bytes ≡ None → ((t : List ℕ) → bytes ≢ codes "take " ++ t) → NoCall layout bytes
no_call layout is bytes none takes_none (AskCall a) rest fits same =
    none-some (AskCall a, rest) (sym none ∙ (ap (worded_call layout.records) same ∙ asked_again layout is a rest fits))
no_call layout is bytes none takes_none (Merge d) rest fits same = takes_none (quoted (delta_text d) rest) same
no_call layout is bytes none takes_none Snapshot rest fits same =
    none-some (Snapshot, rest) (sym none ∙ (ap (worded_call layout.records) same ∙ sent_again layout.records rest))

-- what a reader of calls without a delta answers
pub call_so : {X : Type 0} (view : X → Call × List ℕ) (layout : LayoutState) → IsLayout layout → (bytes : List ℕ) (result : Result X Unread)
    → Gives view result (worded_call layout.records bytes) → ((t : List ℕ) → bytes ≢ codes "take " ++ t) → ReadsQuoted view FitsCall (call_text layout.records) bytes result
call_so view layout is bytes (Ok x) gives takes_none = held_by (SaysCall layout bytes) (worded_call layout.records bytes) (view x) (call_says layout is bytes) gives
call_so view layout is bytes (Err Refused) gives takes_none = no_call layout is bytes gives takes_none
call_so view layout is bytes (Err NoRoom) gives takes_none = tt

-- the bytes behind its verb are those of no delta
pub no_merge : (e : Unread) (records : List RecordSpec) (bytes : List ℕ) → Refuses e ((d : DeltaState) → (rest : List ℕ) → IsDelta d → bytes ≢ quoted (delta_text d) rest)
    → Refuses e ((call : Call) → (rest : List ℕ) → FitsCall call → codes "take " ++ bytes ≢ quoted (call_text records call) rest)
no_merge NoRoom records bytes none = tt
no_merge Refused records bytes none = λ call rest fits same. at call rest fits same
  where
    first : (x y : ℕ) (xs ys : List ℕ) → x ∷ xs ≡ y ∷ ys → x ≡ y
    first x y xs ys e = ap (λ (t : List ℕ). get_or t 0 x) e

    at : (call : Call) → (rest : List ℕ) → FitsCall call → codes "take " ++ bytes ≡ quoted (call_text records call) rest → ⊥
    at (AskCall (ReadAsk r h)) rest fits same = let clash : ◌≡◌ {A = ℕ} 116 114 = first 116 114 _ _ same in absurd (omega arith)
    at (AskCall (AnnounceAsk r h)) rest fits same = let clash : ◌≡◌ {A = ℕ} 116 97 = first 116 97 _ _ same in absurd (omega arith)
    at (AskCall (QuillAsk r h)) rest fits same = let clash : ◌≡◌ {A = ℕ} 116 119 = first 116 119 _ _ same in absurd (omega arith)
    at (AskCall (LeaveAsk r h)) rest fits same = let clash : ◌≡◌ {A = ℕ} 116 108 = first 116 108 _ _ same in absurd (omega arith)
    at (AskCall (GiveAsk r to seats)) rest fits same = let clash : ◌≡◌ {A = ℕ} 116 103 = first 116 103 _ _ same in absurd (omega arith)
    at (AskCall (HelpAsk r)) rest fits same = let clash : ◌≡◌ {A = ℕ} 116 104 = first 116 104 _ _ same in absurd (omega arith)
    at (Merge d) rest fits same = none d rest fits (ap (λ (t : List ℕ). drop 5 t) same)
    at Snapshot rest fits same = let clash : ◌≡◌ {A = ℕ} 116 115 = first 116 115 _ _ same in absurd (omega arith)
