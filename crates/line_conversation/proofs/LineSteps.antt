-- Reading one line, part by part.
use Rattle.std.proofs.Common.{◌≡◌, ℕ, ◌+◌, ◌≤◌, ◌<◌, inl, inr, Bool, true, false, List, [], ◌∷◌, ◌++◌, length, refl, sym, ap, subst, ◌∙◌, append_assoc, append-nil, drop, length-append, arith}
use Rattle.std.specs.Prelude.{MatchBool, not}
use Rattle.std.specs.Io.KnownBytes.{Consumes, IsAtEnd, Keeps}
use Rattle.std.proofs.KnownBytes.{Consumes-kept, Consumes-trans}
use Rattle.text_input.specs.Lines.{HasNoLf}
use Rattle.text_input.specs.Source.{HasFault, SourceState}
use Rattle.text_input.proofs.LineLemmas.{no_lf_behind}
use Rattle.line_conversation.specs.declared.conversation.Next.{Next}
use Rattle.line_conversation.specs.declared.conversation.Next.TheVariants as next
use Rattle.line_conversation.specs.declared.held.Fate.{Fate}
use Rattle.line_conversation.specs.declared.held.Fate.TheVariants as fate
use Rattle.line_conversation.specs.Turns.{IsLine}
use Rattle.line_conversation.specs.Stream.{HeldState, Holds, HoldsAs, Takes, last_of, next_of, CutsLine, Cuts, ReadsLine, ReadsSoFar}
use Rattle.line_conversation.specs.Begins.{nothing_lost}
use Rattle.line_conversation.proofs.AheadLemmas.{case_true, taken_with_lf}

-- a line begins
pub line_begins : (source : SourceState) (ahead : List ℕ) (limit : ℕ) (ended : Bool)
    → ReadsSoFar source source ahead ahead (record { bytes = []; limit = limit; fate = fate.Kept }) ended ended 0
line_begins source ahead limit ended = record {
  lost = [];
  line = [];
  consumed = nothing_lost source.remaining;
  split = append-nil ahead;
  plain = λ i within. absurd (omega (arith, within));
  holds = (refl, omega arith);
  closed = λ closed. (refl, closed);
  at_end = λ was now. was now;
  fewer = λ going. omega arith;
  few = omega arith;
}

-- a line that an LF ended is told by what became of it
cuts_by : (f : Fate) (limit : ℕ) (line bytes kept rest : List ℕ) (ended : Bool) → HoldsAs f limit line kept → CutsLine bytes line rest
    → Cuts (next_of f) ended bytes kept limit rest
cuts_by fate.Kept limit line bytes kept rest ended holds cut =
    (subst (λ (xs : List ℕ). CutsLine bytes xs rest) (sym holds.0) cut, subst (λ (xs : List ℕ). length xs ≤ limit) (sym holds.0) holds.1)
cuts_by fate.TooLong limit line bytes kept rest ended holds cut = (line, cut, holds.1)
cuts_by fate.NoRoom limit line bytes kept rest ended holds cut = (line, cut)

never_fails : (f : Fate) → next_of f ≡ next.Failed → ⊥
never_fails fate.Kept e = cc
never_fails fate.TooLong e = cc
never_fails fate.NoRoom e = cc

-- so it is told as a line
is_line : (f : Fate) → IsLine (next_of f)
is_line fate.Kept = tt
is_line fate.TooLong = tt
is_line fate.NoRoom = tt

-- a line whose LF was read ahead
pub line_there : (ends : Bool) (bytes part rest : List ℕ) (cleared after : HeldState) (told : Next) → ends ≡ true
    → MatchBool ends ((more : List ℕ) × (bytes ≡ part ++ 10 ∷ more) × HasNoLf part) ((bytes ≡ part) × HasNoLf part)
    → rest ≡ drop (length part + 1) bytes → Holds [] cleared → Takes part cleared after → told ≡ next_of after.fate
    → IsLine told × ((ended : Bool) → Cuts told ended bytes after.bytes after.limit rest)
line_there ends bytes part rest cleared after told is split left none takes tells =
    let taken = case_true _ _ _ is (taken_with_lf ends bytes part rest cleared after is split left takes) in (
      subst IsLine (sym tells) (is_line after.fate),
      λ ended. subst (λ (n : Next). Cuts n ended bytes after.bytes after.limit rest) (sym tells)
          (cuts_by after.fate after.limit taken.0 bytes after.bytes rest ended (taken.3 [] none) (taken.2, taken.1)),
    )

-- bytes that no LF ended are told by whether there are any
cuts_last : (line bytes kept rest : List ℕ) (limit : ℕ) (ended : Bool) → ended ≡ true → bytes ≡ line → HasNoLf line → kept ≡ [] → rest ≡ []
    → Cuts (last_of line) ended bytes kept limit rest
cuts_last [] bytes kept rest limit ended closed all plain dropped none = (closed, all, none)
cuts_last (b ∷ bs) bytes kept rest limit ended closed all plain dropped none =
    let some : 0 < length (b ∷ bs) = omega arith in (
      (
        record {
          at_end = closed;
          some = subst (λ (xs : List ℕ). 0 < length xs) (sym all) some;
          plain = subst HasNoLf (sym all) plain;
        },
        none,
      ),
      dropped,
    )

last_never_fails : (line : List ℕ) → last_of line ≡ next.Failed → ⊥
last_never_fails [] e = cc
last_never_fails (b ∷ bs) e = cc

-- how an input ends, by whether a byte of a line came
pub some_came : (line : List ℕ) → (line ≡ [] → ⊥) → next.Torn ≡ last_of line
some_came [] some = absurd (some refl)
some_came (b ∷ bs) some = refl

-- a line on the way
module _ (source now : SourceState) (ahead ahead_now : List ℕ) (held : HeldState) (ended ended_now : Bool) (reads : ℕ) (so_far : ReadsSoFar source now ahead ahead_now held ended ended_now reads) where
  -- its LF came
  pub line_ends : (part rest : List ℕ) (after : HeldState) (told : Next) → ahead_now ≡ part ++ 10 ∷ rest → HasNoLf part → Takes part held after → told ≡ next_of after.fate
      → ReadsLine source now ahead rest after ended ended_now reads told
  line_ends part rest after told split plain takes is = record {
    lost = so_far.lost;
    consumed = so_far.consumed;
    closed = so_far.closed;
    at_end = so_far.at_end;
    cut = subst (λ (n : Next). Cuts n ended_now (ahead ++ so_far.lost) after.bytes after.limit rest) (sym is)
        (cuts_by after.fate after.limit (so_far.line ++ part) (ahead ++ so_far.lost) after.bytes rest ended_now (takes so_far.line so_far.holds)
        (no_lf_behind so_far.line part so_far.plain plain, so_far.split ∙ (ap (λ (xs : List ℕ). so_far.line ++ xs) split ∙ sym (append_assoc so_far.line part (10 ∷ rest)))));
    failed = λ e. absurd (never_fails after.fate (sym is ∙ e));
    few = so_far.few;
  }

  -- all that was read ahead came
  pub more_came : (rest : List ℕ) (after : HeldState) → HasNoLf ahead_now → rest ≡ [] → Takes ahead_now held after
      → ReadsSoFar source now ahead rest after ended ended_now reads
  more_came rest after plain none takes = record {
    lost = so_far.lost;
    line = so_far.line ++ ahead_now;
    consumed = so_far.consumed;
    split = so_far.split ∙ (sym (append-nil (so_far.line ++ ahead_now)) ∙ ap (λ (xs : List ℕ). (so_far.line ++ ahead_now) ++ xs) (sym none));
    plain = no_lf_behind so_far.line ahead_now so_far.plain plain;
    holds = takes so_far.line so_far.holds;
    closed = so_far.closed;
    at_end = so_far.at_end;
    fewer = so_far.fewer;
    few = so_far.few;
  }

-- nothing is ahead
module _ (source now : SourceState) (ahead ahead_now : List ℕ) (held : HeldState) (ended ended_now : Bool) (reads : ℕ) (so_far : ReadsSoFar source now ahead ahead_now held ended ended_now reads) (none : ahead_now ≡ []) where
  all_came : ahead ++ so_far.lost ≡ so_far.line
  all_came = so_far.split ∙ (ap (λ (xs : List ℕ). so_far.line ++ xs) none ∙ append-nil so_far.line)

  -- the source had told its end
  pub input_ends : (after : HeldState) (told : Next) → ended_now ≡ true → after.bytes ≡ [] → told ≡ last_of so_far.line
      → ReadsLine source now ahead ahead_now after ended ended_now reads told
  input_ends after told closed dropped is = record {
    lost = so_far.lost;
    consumed = so_far.consumed;
    closed = so_far.closed;
    at_end = so_far.at_end;
    cut = subst (λ (n : Next). Cuts n ended_now (ahead ++ so_far.lost) after.bytes after.limit ahead_now) (sym is)
        (cuts_last so_far.line (ahead ++ so_far.lost) after.bytes ahead_now after.limit ended_now closed all_came so_far.plain dropped none);
    failed = λ e. absurd (last_never_fails so_far.line (sym is ∙ e));
    few = so_far.few;
  }

  -- the source is read once more
  pub read_more : (later : SourceState) (read : List ℕ) (came ended_then : Bool) → ended_now ≡ false → Consumes now.remaining later.remaining read → (came ≡ false → IsAtEnd later.remaining) → (came ≡ true → 0 < length read)
      → ended_then ≡ not came → ReadsSoFar source later ahead read held ended ended_then (reads + 1)
  read_more later read came ended_then going consumed at_end some is = record {
    lost = so_far.lost ++ read;
    line = so_far.line;
    consumed = Consumes-trans source.remaining now.remaining later.remaining so_far.lost read so_far.consumed consumed;
    split = sym (append_assoc ahead so_far.lost read) ∙ ap (λ (xs : List ℕ). xs ++ read) all_came;
    plain = so_far.plain;
    holds = so_far.holds;
    closed = λ closed. absurd (both closed);
    at_end = λ was end. at_end (not_came came (sym is ∙ end));
    fewer = λ more.
        let came_so : 0 < length read = some (was_there came (sym is ∙ more)) in
        let before : reads ≤ length so_far.lost = so_far.fewer going in
        omega (arith, came_so, before, length-append so_far.lost read);
    few =
        let before : reads ≤ length so_far.lost = so_far.fewer going in
        omega (arith, before, length-append so_far.lost read);
  }
    where
      both : ended ≡ true → ⊥
      both closed = let clash : true ≡ false = sym (so_far.closed closed).1 ∙ going in cc

      not_came : (b : Bool) → not b ≡ true → b ≡ false
      not_came true e = absurd (cc)
      not_came false e = refl

      was_there : (b : Bool) → not b ≡ false → b ≡ true
      was_there true e = refl
      was_there false e = absurd (cc)

  -- the source fails
  pub read_fails : (later : SourceState) (left : List ℕ) → ended_now ≡ false → Keeps now.remaining later.remaining → HasFault later.fault
      → ReadsLine source later ahead left held ended ended_now reads next.Failed
  read_fails later left going keeps fault = record {
    lost = so_far.lost;
    consumed = Consumes-kept source.remaining now.remaining later.remaining so_far.lost so_far.consumed keeps;
    closed = so_far.closed;
    at_end = λ was end. let clash : false ≡ true = sym going ∙ end in absurd (cc);
    cut = tt;
    failed = λ e. inl fault;
    few = so_far.few;
  }

-- no more reads are counted
pub uncounted : (source now : SourceState) (ahead ahead_now : List ℕ) (held : HeldState) (ended ended_now : Bool) (reads : ℕ)
    → ReadsSoFar source now ahead ahead_now held ended ended_now reads → 18446744073709551615 ≤ reads
    → ReadsLine source now ahead ahead_now held ended ended_now reads next.Failed
uncounted source now ahead ahead_now held ended ended_now reads so_far is = record {
  lost = so_far.lost;
  consumed = so_far.consumed;
  closed = so_far.closed;
  at_end = so_far.at_end;
  cut = tt;
  failed = λ e. inr is;
  few = so_far.few;
}
