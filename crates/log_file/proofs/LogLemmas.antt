-- One entry more in a log, and one less.
use Rattle.std.proofs.Common.{◌≡◌, ℕ, ◌+◌, List, [], ◌∷◌, ◌++◌, length, take, None, Some, refl, sym, ap, ◌∙◌, append_assoc, append-nil, length-append, arith}
use Rattle.std.proofs.lemmas.Grind.{flat_map-append}
use Rattle.std.proofs.Math.Seq.{take-append_seam}
use Rattle.merge_core.specs.Layout.{LayoutState}
use Rattle.desk_log.specs.declared.entry.Entry.{Entry}
use Rattle.transcript_text.specs.Texts.{entries_text}
use Rattle.log_file.specs.declared.file.LogFile.{Ghosts}
use Rattle.log_file.specs.Mending.{entry_line}
use Rattle.log_file.specs.Steps.{FileStep, Append, Cut}
use Rattle.log_file.specs.Logged.{LogState, HasLogged}
use Rattle.log_file.proofs.StepLemmas.{after_append, after_cut}

-- the lines of entries and of one more
texts_more : (layout : LayoutState) (entries : List Entry) (e : Entry)
    → entries_text layout.records (entries ++ e ∷ []) ≡ entries_text layout.records entries ++ entry_line layout e
texts_more layout entries e =
    flat_map-append (λ (x : Entry). entry_line layout x) entries (e ∷ [])
    ∙ ap (λ (xs : List ℕ). entries_text layout.records entries ++ xs) (append-nil (entry_line layout e))

-- the last of entries is one alone
same_last : (xs ys : List Entry) (x y : Entry) → xs ++ x ∷ [] ≡ ys ++ y ∷ [] → xs ≡ ys
same_last [] [] x y e = refl
same_last [] (b ∷ []) x y e = absurd (cc)
same_last [] (b ∷ c ∷ ys) x y e = absurd (cc)
same_last (a ∷ []) [] x y e = absurd (cc)
same_last (a ∷ c ∷ xs) [] x y e = absurd (cc)
same_last (a ∷ xs) (b ∷ ys) x y e =
    let heads : a ≡ b = cc in
    let rest : xs ++ x ∷ [] ≡ ys ++ y ∷ [] = cc in
    let tails : xs ≡ ys = same_last xs ys x y rest in
    cc

-- behind bytes and a text, the first ones with a part of it
taken : (bytes text more : List ℕ) (n : ℕ) → n ≡ length bytes + length text → take n (bytes ++ (text ++ more)) ≡ bytes ++ text
taken bytes text more n is =
    ap (λ (xs : List ℕ). take n xs) (sym (append_assoc bytes text more))
    ∙ (ap (λ (k : ℕ). take k ((bytes ++ text) ++ more)) (is ∙ sym (length-append bytes text)) ∙ take-append_seam (bytes ++ text) more)

module _ {F : Type 0} (g : Ghosts F) (first old new : LogState F) where
  -- an entry was written
  pub logged_more : (before : List Entry) (e : Entry) (line : List ℕ) → HasLogged g first before old → line ≡ entry_line old.layout e
      → ((start : F) (steps : List FileStep) → g.did start steps old.file → g.did start (steps ++ Append line ∷ []) new.file)
      → new.layout ≡ old.layout → new.length ≡ old.length + length line → new.last ≡ Some old.length
      → HasLogged g first (before ++ e ∷ []) new
  logged_more before e line logged is did layout size last =
      let named : line ≡ entry_line first.layout e = is ∙ ap (λ (l : LayoutState). entry_line l e) logged.layout in
      record {
        steps = logged.steps ++ Append line ∷ [];
        did = did first.file logged.steps logged.did;
        leaves = λ bytes few.
            after_append bytes logged.steps line
            ∙ (ap (λ (xs : List ℕ). xs ++ line) (logged.leaves bytes few)
            ∙ (append_assoc bytes (entries_text first.layout.records before) line
            ∙ ap (λ (xs : List ℕ). bytes ++ xs)
            (ap (λ (xs : List ℕ). entries_text first.layout.records before ++ xs) named ∙ sym (texts_more first.layout before e))));
        layout = layout ∙ logged.layout;
        length_is = omega (
          arith,
          size,
          logged.length_is,
          ap (λ (xs : List ℕ). length xs) named,
          ap (λ (xs : List ℕ). length xs) (texts_more first.layout before e),
          length-append (entries_text first.layout.records before) (entry_line first.layout e),
        );
        last_is = λ earlier x split n at.
            let mark : n ≡ old.length = cc in
            let same : before ≡ earlier = same_last before earlier e x split in
            mark ∙ (logged.length_is ∙ ap (λ (es : List Entry). first.length + length (entries_text first.layout.records es)) same);
      }

  -- the last entry was cut off
  pub logged_less : (before : List Entry) (e : Entry) (n : ℕ) → HasLogged g first (before ++ e ∷ []) old → old.last ≡ Some n
      → ((start : F) (steps : List FileStep) → g.did start steps old.file → g.did start (steps ++ Cut n ∷ []) new.file)
      → new.layout ≡ old.layout → new.length ≡ n → new.last ≡ None
      → HasLogged g first before new
  logged_less before e n logged was did layout size last =
      let mark : n ≡ first.length + length (entries_text first.layout.records before) = logged.last_is before e refl n was in
      record {
        steps = logged.steps ++ Cut n ∷ [];
        did = did first.file logged.steps logged.did;
        leaves = λ bytes few.
            after_cut bytes logged.steps n
            ∙ (ap (λ (xs : List ℕ). take n xs)
            (logged.leaves bytes few ∙ ap (λ (xs : List ℕ). bytes ++ xs) (texts_more first.layout before e))
            ∙ taken bytes (entries_text first.layout.records before) (entry_line first.layout e) n (omega (arith, mark, few)));
        layout = layout ∙ logged.layout;
        length_is = size ∙ mark;
        last_is = λ earlier x split m at. absurd (cc);
      }
