-- Turns that are noted, and turns of a conversation of one line.
use Rattle.std.proofs.Common.{◌≡◌, ℕ, Bool, true, false, List, [], ◌∷◌, ◌++◌, refl, sym, ap, subst, ◌∙◌, ◌==◌, suc, append-nil, arith}
use Rattle.std.proofs.lemmas.Bool.{false_from_ne_true}
use Rattle.std.specs.Io.KnownBytes.{Appends}
use Rattle.std.proofs.KnownBytes.{Appends-trans}
use Rattle.std.specs.Prelude.{Option, Some, None, IfSome, is_some}
use Rattle.text_input.specs.Source.{HasFault}
use Rattle.text_input.specs.Sink.{SinkState, Writes}
use Rattle.line_conversation.specs.declared.conversation.Next.{Next}
use Rattle.line_conversation.specs.declared.conversation.Next.TheVariants as next
use Rattle.line_conversation.specs.declared.conversation.Conversation.{Ghosts}
use Rattle.line_conversation.specs.Turns.{Line, Whole, Turn, Heard, Told, told_in, heard_by}
use Rattle.line_conversation.proofs.StreamLemmas.{told_more, told_same}
use Rattle.text_input.specs.Lines.{lines_of, onto_first, HasNoLf}
use Rattle.program_shell.specs.Notes.{NotedState, TookPlace, any_outdated, ends_refused, last_refused, some_outdated}
use Rattle.program_shell.specs.OneLine.{OneLineState, heard_between, heard_in}
use Rattle.program_shell.specs.OneLine.{TookPlace as TookPlaceOnce}

-- a line that is heard changes no note
refused_heard : (known : Bool) (turns : List Turn) (told : Next) (line : List ℕ) → last_refused known (turns ++ heard_by told line) ≡ last_refused known turns
refused_heard known [] next.Line line = refl
refused_heard known [] next.TooLong line = refl
refused_heard known [] next.Memory line = refl
refused_heard known [] next.Torn line = refl
refused_heard known [] next.End line = refl
refused_heard known [] next.Failed line = refl
refused_heard known (Heard first ∷ turns) told line = refused_heard known turns told line
refused_heard known (Told text ∷ turns) told line = refused_heard (ends_refused known (lines_of text)) turns told line

outdated_heard : (known : Bool) (turns : List Turn) (told : Next) (line : List ℕ) → any_outdated known (turns ++ heard_by told line) ≡ any_outdated known turns
outdated_heard known [] next.Line line = refl
outdated_heard known [] next.TooLong line = refl
outdated_heard known [] next.Memory line = refl
outdated_heard known [] next.Torn line = refl
outdated_heard known [] next.End line = refl
outdated_heard known [] next.Failed line = refl
outdated_heard known (Heard first ∷ turns) told line = outdated_heard known turns told line
outdated_heard known (Told text ∷ turns) told line = outdated_heard (some_outdated known (lines_of text)) turns told line

-- a text that is told does
refused_told : (known : Bool) (turns : List Turn) (text : List ℕ) → last_refused known (turns ++ Told text ∷ []) ≡ ends_refused (last_refused known turns) (lines_of text)
refused_told known [] text = refl
refused_told known (Heard line ∷ turns) text = refused_told known turns text
refused_told known (Told first ∷ turns) text = refused_told (ends_refused known (lines_of first)) turns text

outdated_told : (known : Bool) (turns : List Turn) (text : List ℕ) → any_outdated known (turns ++ Told text ∷ []) ≡ some_outdated (any_outdated known turns) (lines_of text)
outdated_told known [] text = refl
outdated_told known (Heard line ∷ turns) text = outdated_told known turns text
outdated_told known (Told first ∷ turns) text = outdated_told (some_outdated known (lines_of first)) turns text

module _ {C : Type 0} (t : Ghosts C) (first old new : NotedState C) (before : List Turn) (was : TookPlace t first before old) where
  -- one more line
  pub noted_heard : (told : Next) (line : List ℕ) → new.refused ≡ old.refused → new.outdated ≡ old.outdated
      → t.took_place first.talk (before ++ heard_by told line) new.talk → TookPlace t first (before ++ heard_by told line) new
  noted_heard told line refused outdated talk = record {
    talk = talk;
    refused = refused ∙ (was.refused ∙ sym (refused_heard first.refused before told line));
    outdated = outdated ∙ (was.outdated ∙ sym (outdated_heard first.outdated before told line));
  }

  -- the same where a line was perhaps read already
  pub noted_held : (answer : Option Next) (line : List ℕ) → new.refused ≡ old.refused → new.outdated ≡ old.outdated
      → IfSome answer (λ told. t.took_place first.talk (before ++ heard_by told line) new.talk) → IfSome answer (λ told. TookPlace t first (before ++ heard_by told line) new)
  noted_held None line refused outdated talk = tt
  noted_held (Some told) line refused outdated talk = noted_heard told line refused outdated talk

  -- one more text
  pub noted_told : (text : List ℕ) → new.refused ≡ ends_refused old.refused (lines_of text) → new.outdated ≡ some_outdated old.outdated (lines_of text)
      → t.took_place first.talk (before ++ Told text ∷ []) new.talk → TookPlace t first (before ++ Told text ∷ []) new
  noted_told text refused outdated talk = record {
    talk = talk;
    refused = refused ∙ (ap (λ (b : Bool). ends_refused b (lines_of text)) was.refused ∙ sym (refused_told first.refused before text));
    outdated = outdated ∙ (ap (λ (b : Bool). some_outdated b (lines_of text)) was.outdated ∙ sym (outdated_told first.outdated before text));
  }

  -- none
  pub noted_untold : new.refused ≡ old.refused → new.outdated ≡ old.outdated → t.took_place first.talk before new.talk → TookPlace t first before new
  noted_untold refused outdated talk = record { talk = talk; refused = refused ∙ was.refused; outdated = outdated ∙ was.outdated }

-- one answer and its LF are one line
pub one_line : (answer : List ℕ) → HasNoLf answer → lines_of (answer ++ 10 ∷ []) ≡ answer ∷ []
one_line [] none = refl
one_line (b ∷ bs) none =
    let ordinary = false_from_ne_true (b == 10) (none 0 (omega arith)) in
    let rest = one_line bs (λ i within. none (suc i) (omega (arith, within))) in
    rw ordinary (ap (onto_first b) rest)

-- lines that are heard, and texts that are told, one behind the other
lines_more : (turns : List Turn) (line : Line) → heard_in (turns ++ Heard line ∷ []) ≡ heard_in turns ++ line ∷ []
lines_more [] line = refl
lines_more (Heard first ∷ turns) line = ap (λ (ls : List Line). first ∷ ls) (lines_more turns line)
lines_more (Told text ∷ turns) line = lines_more turns line

lines_same : (turns : List Turn) (text : List ℕ) → heard_in (turns ++ Told text ∷ []) ≡ heard_in turns
lines_same [] text = refl
lines_same (Heard line ∷ turns) text = ap (λ (ls : List Line). line ∷ ls) (lines_same turns text)
lines_same (Told first ∷ turns) text = lines_same turns text

none_yet : (line : List ℕ) (first old : Bool) → (first ≡ true → old ≡ true) → old ≡ false
    → heard_between line first old ++ Whole line ∷ [] ≡ heard_between line first true
none_yet line true old stays not = let clash : true ≡ false = sym (stays refl) ∙ not in absurd (cc)
none_yet line false true stays not = absurd (cc)
none_yet line false false stays not = refl

module _ (first old new : OneLineState) (before : List Turn) (was : TookPlaceOnce first before old) where
  -- the line was heard
  pub once_heard : old.taken ≡ false → new.taken ≡ true → new.line ≡ old.line → new.sink ≡ old.sink
      → TookPlaceOnce first (before ++ heard_by next.Line new.line) new
  once_heard not now line sink = record {
    line = line ∙ was.line;
    stays = λ taken. now;
    heard =
        subst (λ (b : Bool). heard_in (before ++ Heard (Whole new.line) ∷ []) ≡ heard_between first.line first.taken b) (sym now)
        (subst (λ (xs : List ℕ). heard_in (before ++ Heard (Whole xs) ∷ []) ≡ heard_between first.line first.taken true) (sym (line ∙ was.line))
        (lines_more before (Whole first.line) ∙ (ap (λ (ls : List Line). ls ++ Whole first.line ∷ []) was.heard ∙ none_yet first.line first.taken old.taken was.stays not)));
    told = λ whole.
        subst (λ (xs : List ℕ). Appends first.sink.contents new.sink.contents xs) (sym (told_same before next.Line new.line))
        (subst (λ (s : SinkState). Appends first.sink.contents s.contents (told_in before)) (sym sink)
        (was.told (sym (ap (λ (s : SinkState). s.fault) sink) ∙ whole)));
  }

  -- no line comes any more
  pub once_ended : new ≡ old → TookPlaceOnce first (before ++ heard_by next.End new.line) new
  once_ended same =
      subst (λ (ts : List Turn). TookPlaceOnce first ts new) (sym (append-nil before))
      (subst (λ (s : OneLineState). TookPlaceOnce first before s) (sym same) was)

  -- one more text
  pub once_told : (text : List ℕ) → new.taken ≡ old.taken → new.line ≡ old.line → Writes old.sink new.sink text → TookPlaceOnce first (before ++ Told text ∷ []) new
  once_told text taken line writes = record {
    line = line ∙ was.line;
    stays = λ b. taken ∙ was.stays b;
    heard = lines_same before text ∙ (was.heard ∙ ap (λ (b : Bool). heard_between first.line first.taken b) (sym taken));
    told = λ whole.
        subst (λ (xs : List ℕ). Appends first.sink.contents new.sink.contents xs) (sym (told_more before text))
        (Appends-trans first.sink.contents old.sink.contents new.sink.contents (told_in before) text (was.told (sym writes.kept ∙ whole)) writes.appended);
  }

  -- or where it failed
  pub once_untold : new.taken ≡ old.taken → new.line ≡ old.line → HasFault new.sink.fault → TookPlaceOnce first before new
  once_untold taken line fault = record {
    line = line ∙ was.line;
    stays = λ b. taken ∙ was.stays b;
    heard = was.heard ∙ ap (λ (b : Bool). heard_between first.line first.taken b) (sym taken);
    told = λ whole. let clash : false ≡ true = sym (ap is_some whole) ∙ fault in absurd (cc);
  }
