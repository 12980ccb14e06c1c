-- Turns of a conversation with a reader and a writer.
use Rattle.std.proofs.Common.{◌≡◌, ℕ, ◌+◌, ◌≤◌, ◌⊎◌, inl, inr, Bool, true, false, suc, List, [], ◌∷◌, ◌++◌, length, refl, sym, ap, subst, ◌∙◌, append_assoc, append-nil, length-append, arith}
use Rattle.std.specs.Io.KnownBytes.{Appends, Consumes}
use Rattle.std.specs.Prelude.{IsTrue, MatchBool, is_some}
use Rattle.std.proofs.KnownBytes.{Appends-trans, Consumes-trans}
use Rattle.text_input.specs.Lines.{HasNoLf}
use Rattle.text_input.specs.Source.{HasFault}
use Rattle.text_input.specs.Sink.{SinkState, Writes}
use denote.Enum.Bare.{sameb}
use Rattle.line_conversation.specs.contracts.conversation.Next.{the_type}
use Rattle.line_conversation.specs.declared.conversation.Next.{Next}
use Rattle.line_conversation.specs.declared.conversation.Next.TheVariants as next
use Rattle.line_conversation.specs.Begins.{nothing_lost}
use Rattle.line_conversation.specs.Turns.{IsLine, Line, Whole, TooLong, NoRoom, Torn, Turn, Heard, Told, told_in, heard_by}
use Rattle.line_conversation.specs.Stream.{CutsLine, Cuts, CutsTurns, HeldState, Hears, MayFail, IsReady, ReadsLine, StreamState, TookPlace}

-- bytes with an LF
lf_there : (line rest : List ℕ) → HasNoLf (line ++ 10 ∷ rest) → ⊥
lf_there [] rest none = none 0 (omega arith) refl
lf_there (b ∷ line) rest none = lf_there line rest (λ i low at. none (suc i) (omega (arith, low)) at)

-- a line was read, where its LF was
pub ready_by : (found : Bool) (s : StreamState) → s.broken ≡ false
    → MatchBool found ((line : List ℕ) × (rest : List ℕ) × (s.ahead ≡ line ++ 10 ∷ rest) × HasNoLf line) (HasNoLf s.ahead)
    → (IsTrue found → IsReady s) × (IsReady s → IsTrue found)
ready_by true s open_so (line, rest, cut, plain) = (λ yes. record { line = line; rest = rest; cut = (plain, cut); open_so = open_so }, λ ready. cc)
ready_by false s open_so none = (λ no. absurd (cc), λ ready. absurd (lf_there ready.line ready.rest (subst HasNoLf ready.cut.1 none)))

-- what was heard, where more bytes come behind it, and the input had not ended
line_longer : (bytes line behind more : List ℕ) → CutsLine bytes line behind → CutsLine (bytes ++ more) line (behind ++ more)
line_longer bytes line behind more cut = (cut.0, ap (λ (xs : List ℕ). xs ++ more) cut.1 ∙ append_assoc line (10 ∷ behind) more)

heard_longer : (limit : ℕ) (ended : Bool) (bytes : List ℕ) (heard : Line) (behind more : List ℕ) → Hears limit false bytes heard behind
    → Hears limit ended (bytes ++ more) heard (behind ++ more)
heard_longer limit ended bytes (Whole line) behind more (cut, within) = (line_longer bytes line behind more cut, within)
heard_longer limit ended bytes TooLong behind more (line, cut, long) = (line, line_longer bytes line behind more cut, long)
heard_longer limit ended bytes NoRoom behind more (line, cut) = (line, line_longer bytes line behind more cut)
heard_longer limit ended bytes Torn behind more (torn, none) = let never : false ≡ true = torn.at_end in absurd (cc)

-- bytes that come behind what is left, where the input had not ended
more_left : (limit : ℕ) (ended : Bool) (bytes : List ℕ) (turns : List Turn) (rest more : List ℕ) → CutsTurns limit false bytes turns rest
    → CutsTurns limit ended (bytes ++ more) turns (rest ++ more)
more_left limit ended bytes [] rest more same = ap (λ (xs : List ℕ). xs ++ more) same
more_left limit ended bytes (Told text ∷ turns) rest more cut = more_left limit ended bytes turns rest more cut
more_left limit ended bytes (Heard heard ∷ turns) rest more (behind, hears, later) =
    (behind ++ more, heard_longer limit ended bytes heard behind more hears, more_left limit ended behind turns rest more later)

-- one more is heard
cut_more : (limit : ℕ) (ended : Bool) (bytes : List ℕ) (turns : List Turn) (rest more : List ℕ) (heard : Line) → CutsTurns limit ended bytes turns rest
    → Hears limit ended rest heard more → CutsTurns limit ended bytes (turns ++ Heard heard ∷ []) more
cut_more limit ended bytes [] rest more heard same hears =
    (more, subst (λ (xs : List ℕ). Hears limit ended xs heard more) (sym same) hears, refl)
cut_more limit ended bytes (Told text ∷ turns) rest more heard before hears = cut_more limit ended bytes turns rest more heard before hears
cut_more limit ended bytes (Heard first ∷ turns) rest more heard (behind, h, later) hears =
    (behind, h, cut_more limit ended behind turns rest more heard later hears)

-- a text that was told cuts nothing off
still_cut : (limit : ℕ) (ended : Bool) (bytes : List ℕ) (turns : List Turn) (rest : List ℕ) (text : List ℕ) → CutsTurns limit ended bytes turns rest
    → CutsTurns limit ended bytes (turns ++ Told text ∷ []) rest
still_cut limit ended bytes [] rest text same = same
still_cut limit ended bytes (Told first ∷ turns) rest text cut = still_cut limit ended bytes turns rest text cut
still_cut limit ended bytes (Heard heard ∷ turns) rest text (more, h, later) = (more, h, still_cut limit ended more turns rest text later)

-- what is told behind the turns
pub told_more : (turns : List Turn) (text : List ℕ) → told_in (turns ++ Told text ∷ []) ≡ told_in turns ++ text
told_more [] text = append-nil text
told_more (Told first ∷ turns) text = ap (λ (xs : List ℕ). first ++ xs) (told_more turns text) ∙ sym (append_assoc first (told_in turns) text)
told_more (Heard line ∷ turns) text = told_more turns text

pub told_same : (turns : List Turn) (next : Next) (kept : List ℕ) → told_in (turns ++ heard_by next kept) ≡ told_in turns
told_same [] next.Line kept = refl
told_same [] next.TooLong kept = refl
told_same [] next.Memory kept = refl
told_same [] next.Torn kept = refl
told_same [] next.End kept = refl
told_same [] next.Failed kept = refl
told_same (Told first ∷ turns) told kept = ap (λ (xs : List ℕ). first ++ xs) (told_same turns told kept)
told_same (Heard line ∷ turns) told kept = told_same turns told kept

-- what was cut, where the source lost more bytes, and none if the input had ended
cut_along : (limit : ℕ) (ended ended_now : Bool) (ahead lost read : List ℕ) (turns : List Turn) (rest : List ℕ) → CutsTurns limit ended (ahead ++ lost) turns rest
    → (ended ≡ true → (read ≡ []) × (ended_now ≡ true)) → CutsTurns limit ended_now (ahead ++ (lost ++ read)) turns (rest ++ read)
cut_along limit true ended_now ahead lost read turns rest cut closed =
    let both = closed refl in
    subst (λ (xs : List ℕ). CutsTurns limit ended_now (ahead ++ (lost ++ xs)) turns (rest ++ xs)) (sym both.0)
    (subst (λ (xs : List ℕ). CutsTurns limit ended_now (ahead ++ xs) turns (rest ++ [])) (sym (append-nil lost))
    (subst (λ (xs : List ℕ). CutsTurns limit ended_now (ahead ++ lost) turns xs) (sym (append-nil rest))
    (subst (λ (b : Bool). CutsTurns limit b (ahead ++ lost) turns rest) (sym both.1) cut)))
cut_along limit false ended_now ahead lost read turns rest cut closed =
    subst (λ (xs : List ℕ). CutsTurns limit ended_now xs turns (rest ++ read)) (append_assoc ahead lost read)
    (more_left limit ended_now (ahead ++ lost) turns rest read cut)

-- what is left behind what came next: all that was there where nothing did
left_by : Next → List ℕ → List ℕ → List ℕ
left_by next.Line all rest = rest
left_by next.TooLong all rest = rest
left_by next.Memory all rest = rest
left_by next.Torn all rest = rest
left_by next.End all rest = rest
left_by next.Failed all rest = all

left_whole : (told : Next) (all rest : List ℕ) → (told ≡ next.Failed → ⊥) → left_by told all rest ≡ rest
unfolding left_by
left_whole next.Line all rest whole = refl
left_whole next.TooLong all rest whole = refl
left_whole next.Memory all rest whole = refl
left_whole next.Torn all rest whole = refl
left_whole next.End all rest whole = refl
left_whole next.Failed all rest whole = absurd (whole refl)

-- with what came next
cut_next : (told : Next) (limit : ℕ) (ended : Bool) (bytes : List ℕ) (turns : List Turn) (ahead kept rest : List ℕ) → CutsTurns limit ended bytes turns ahead
    → Cuts told ended ahead kept limit rest → CutsTurns limit ended bytes (turns ++ heard_by told kept) (left_by told ahead rest)
unfolding left_by
cut_next next.Line limit ended bytes turns ahead kept rest before cut = cut_more limit ended bytes turns ahead rest (Whole kept) before cut
cut_next next.TooLong limit ended bytes turns ahead kept rest before cut = cut_more limit ended bytes turns ahead rest TooLong before cut
cut_next next.Memory limit ended bytes turns ahead kept rest before cut = cut_more limit ended bytes turns ahead rest NoRoom before cut
cut_next next.Torn limit ended bytes turns ahead kept rest before cut = cut_more limit ended bytes turns ahead rest Torn before cut.0
cut_next next.End limit ended bytes turns ahead kept rest before (closed, none, nothing) =
    subst (λ (ts : List Turn). CutsTurns limit ended bytes ts rest) (sym (append-nil turns))
    (subst (λ (xs : List ℕ). CutsTurns limit ended bytes turns xs) (none ∙ sym nothing) before)
cut_next next.Failed limit ended bytes turns ahead kept rest before cut =
    subst (λ (ts : List Turn). CutsTurns limit ended bytes ts ahead) (sym (append-nil turns)) before

-- a reading that is noted as failed has
pub is_failed : (told : Next) → sameb the_type told next.Failed ≡ true → told ≡ next.Failed
is_failed next.Line e = absurd (cc)
is_failed next.TooLong e = absurd (cc)
is_failed next.Memory e = absurd (cc)
is_failed next.Torn e = absurd (cc)
is_failed next.End e = absurd (cc)
is_failed next.Failed e = refl

-- a conversation after one more reading
pub heard_more : (first old new : StreamState) (held : HeldState) (told : Next) → old.broken ≡ false
    → ReadsLine old.source new.source old.ahead new.ahead held old.ended new.ended new.reads told → held.limit ≡ old.limit
    → new.kept ≡ held.bytes → new.limit ≡ held.limit → new.sink ≡ old.sink → (told ≡ next.Failed → new.broken ≡ true) → (new.broken ≡ true → told ≡ next.Failed)
    → (before : List Turn) → TookPlace first before old → TookPlace first (before ++ heard_by told new.kept) new
heard_more first old new held told open_so read limit kept limit_now sink broken fails before was = record {
  lost = was.lost ++ read.lost;
  consumed = Consumes-trans first.source.remaining old.source.remaining new.source.remaining was.lost read.lost was.consumed read.consumed;
  limit = limit_now ∙ (limit ∙ was.limit);
  rest = left_by told (old.ahead ++ read.lost) new.ahead;
  heard = cut_next told first.limit new.ended (first.ahead ++ (was.lost ++ read.lost)) before (old.ahead ++ read.lost) new.kept new.ahead
      (cut_along first.limit old.ended new.ended first.ahead was.lost read.lost before old.ahead
      (subst (λ (xs : List ℕ). CutsTurns first.limit old.ended (first.ahead ++ was.lost) before xs) (was.left open_so) was.heard) read.closed)
      (subst (λ (n : ℕ). Cuts told new.ended (old.ahead ++ read.lost) new.kept n new.ahead) (limit ∙ was.limit)
      (subst (λ (xs : List ℕ). Cuts told new.ended (old.ahead ++ read.lost) xs held.limit new.ahead) (sym kept) read.cut));
  left = λ whole. left_whole told (old.ahead ++ read.lost) new.ahead (λ failed. let clash : true ≡ false = sym (broken failed) ∙ whole in cc);
  told = λ whole.
      subst (λ (xs : List ℕ). Appends first.sink.contents new.sink.contents xs) (sym (told_same before told new.kept))
      (subst (λ (s : SinkState). Appends first.sink.contents s.contents (told_in before)) (sym sink)
      (was.told (sym (ap (λ (s : SinkState). s.fault) sink) ∙ whole)));
  failed = λ first_open now_broken. why (read.failed (fails now_broken));
}
  where
    why : MayFail new.source new.reads → HasFault new.source.fault ⊎ (18446744073709551615 ≤ length (was.lost ++ read.lost) + 1)
    why (inl fault) = inl fault
    why (inr many) = inr (omega (arith, many, read.few, length-append was.lost read.lost))

no_failure : (told : Next) → IsLine told → told ≡ next.Failed → ⊥
no_failure next.Line line e = cc
no_failure next.TooLong line e = cc
no_failure next.Memory line e = cc
no_failure next.Torn line e = line
no_failure next.End line e = line
no_failure next.Failed line e = line

-- a conversation after a line that was read ahead
pub held_more : (first old : StreamState) (rest : List ℕ) (held : HeldState) (told : Next) → old.broken ≡ false → IsLine told
    → ((ended : Bool) → Cuts told ended old.ahead held.bytes held.limit rest) → held.limit ≡ old.limit
    → (before : List Turn) → TookPlace first before old
    → TookPlace first (before ++ heard_by told held.bytes) (record old { ahead = rest; kept = held.bytes; limit = held.limit; reads = 0 })
held_more first old rest held told open_so line cut limit before was =
    heard_more first old (record old { ahead = rest; kept = held.bytes; limit = held.limit; reads = 0 }) held told open_so
    (record {
      lost = [];
      consumed = nothing_lost old.source.remaining;
      closed = λ closed. (refl, closed);
      at_end = λ at_end now. at_end now;
      cut = subst (λ (xs : List ℕ). Cuts told old.ended xs held.bytes held.limit rest) (sym (append-nil old.ahead)) (cut old.ended);
      failed = λ e. absurd (no_failure told line e);
      few = omega arith;
    }) limit refl refl refl (λ e. absurd (no_failure told line e))
    (λ broken. let clash : true ≡ false = sym broken ∙ open_so in absurd (cc)) before was

-- one that had failed
pub still_broken : (first old : StreamState) (before : List Turn) (kept : List ℕ) → TookPlace first before old → TookPlace first (before ++ heard_by next.Failed kept) old
still_broken first old before kept was = subst (λ (ts : List Turn). TookPlace first ts old) (sym (append-nil before)) was

-- after one more text
pub told_text : (first old new : StreamState) (text : List ℕ) → new ≡ record old { sink = new.sink } → Writes old.sink new.sink text
    → (before : List Turn) → TookPlace first before old → TookPlace first (before ++ Told text ∷ []) new
told_text first old new text same writes before was = record {
  lost = was.lost;
  consumed = subst (λ (s : StreamState). Consumes first.source.remaining s.source.remaining was.lost) (sym same) was.consumed;
  limit = ap (λ (s : StreamState). s.limit) same ∙ was.limit;
  rest = was.rest;
  heard = still_cut first.limit new.ended (first.ahead ++ was.lost) before was.rest text
      (subst (λ (s : StreamState). CutsTurns first.limit s.ended (first.ahead ++ was.lost) before was.rest) (sym same) was.heard);
  left = λ whole. was.left (sym (ap (λ (s : StreamState). s.broken) same) ∙ whole) ∙ sym (ap (λ (s : StreamState). s.ahead) same);
  told = λ whole.
      subst (λ (xs : List ℕ). Appends first.sink.contents new.sink.contents xs) (sym (told_more before text))
      (Appends-trans first.sink.contents old.sink.contents new.sink.contents (told_in before) text (was.told (sym writes.kept ∙ whole)) writes.appended);
  failed = λ first_open broken. subst (λ (s : StreamState). HasFault s.source.fault ⊎ (18446744073709551615 ≤ length was.lost + 1)) (sym same)
      (was.failed first_open (sym (ap (λ (s : StreamState). s.broken) same) ∙ broken));
}

-- or where it failed
pub untold_text : (first old new : StreamState) → new ≡ record old { sink = new.sink } → HasFault new.sink.fault
    → (before : List Turn) → TookPlace first before old → TookPlace first before new
untold_text first old new same fault before was = record {
  lost = was.lost;
  consumed = subst (λ (s : StreamState). Consumes first.source.remaining s.source.remaining was.lost) (sym same) was.consumed;
  limit = ap (λ (s : StreamState). s.limit) same ∙ was.limit;
  rest = was.rest;
  heard = subst (λ (s : StreamState). CutsTurns first.limit s.ended (first.ahead ++ was.lost) before was.rest) (sym same) was.heard;
  left = λ whole. was.left (sym (ap (λ (s : StreamState). s.broken) same) ∙ whole) ∙ sym (ap (λ (s : StreamState). s.ahead) same);
  told = λ whole. let clash : false ≡ true = sym (ap is_some whole) ∙ fault in absurd (cc);
  failed = λ first_open broken. subst (λ (s : StreamState). HasFault s.source.fault ⊎ (18446744073709551615 ≤ length was.lost + 1)) (sym same)
      (was.failed first_open (sym (ap (λ (s : StreamState). s.broken) same) ∙ broken));
}
