-- One line more of an input.
use Rattle.std.proofs.Common.{◌≡◌, ℕ, ◌+◌, Bool, true, false, eqb, List, [], ◌∷◌, ◌++◌, length, refl, sym, ap, ◌∙◌, subst, append_assoc, arith}
use Rattle.std.specs.Prelude.{◌||◌}
use Rattle.std.specs.List.{list_any}
use Rattle.std.proofs.lemmas.List.{length-append}
use Rattle.std.proofs.lemmas.List.Folds.{list_any-append}
use Rattle.merge_core.specs.declared.layout.RecordSpec.{RecordSpec}
use Rattle.merge_core.specs.Delta.{DeltaState}
use Rattle.merge_core.proofs.SumLemmas.{eqb_comm}
use Rattle.text_input.specs.Lines.{lines_of}
use Rattle.rebuild_engine.specs.declared.lines.LineFault.{LineFault}
use Rattle.rebuild_engine.specs.Lines.{AreLinesOf, AreOnce, AreRead, IsFirstRefused, IsLineFault, IsLineOf, is_from_one_of}
use Rattle.rebuild_engine.specs.Steps.{ReadsSoFar}

-- neither of two is so
neither : (x y : Bool) → (x || y) ≡ false → (x ≡ false) × (y ≡ false)
neither true y is = (is, absurd (let clash : true ≡ false = is in cc))
neither false y is = (refl, is)

both_not : (x y : Bool) → x ≡ false → y ≡ false → (x || y) ≡ false
both_not true y one two = one
both_not false y one two = two

-- one delta more, of another site
pub once_more : (ds : List DeltaState) (d : DeltaState) → AreOnce ds → is_from_one_of ds d ≡ false → AreOnce (ds ++ d ∷ [])
once_more [] d once none = (refl, tt)
once_more (e ∷ es) d once none =
    let parts = neither (eqb e.from d.from) (is_from_one_of es d) none in
    let apart : eqb d.from e.from ≡ false = eqb_comm d.from e.from ∙ parts.0 in
    let behind = list_any-append (λ (x : DeltaState). eqb x.from e.from) es (d ∷ []) in
    (behind ∙ both_not (is_from_one_of es e) (eqb d.from e.from || false) once.0 (both_not (eqb d.from e.from) false apart refl), once_more es d once.1 parts.1)

module _ (records : List RecordSpec) (name : List ℕ) (alone : Bool) where
  pub lines_more : (ls : List (List ℕ)) (ds : List DeltaState) (l : List ℕ) (d : DeltaState) → AreLinesOf records name alone ls ds → IsLineOf records name alone l d
      → AreLinesOf records name alone (ls ++ l ∷ []) (ds ++ d ∷ [])
  lines_more [] [] l d are is = (is, tt)
  lines_more [] (e ∷ es) l d are is = absurd are
  lines_more (k ∷ ks) [] l d are is = absurd are
  lines_more (k ∷ ks) (e ∷ es) l d are is = (are.0, lines_more ks es l d are.1 is)

  -- before the first line
  pub read_none : (lines : List (List ℕ)) → ReadsSoFar records name alone lines lines 0 []
  read_none lines = record { before = []; split = refl; read = (tt, tt); counted = refl }

  -- the next line is that of a delta of another site
  pub read_more : (lines rest later : List (List ℕ)) (line : List ℕ) (number : ℕ) (ds new : List DeltaState) (d : DeltaState)
      → ReadsSoFar records name alone lines rest number ds → rest ≡ line ∷ later → IsLineOf records name alone line d → is_from_one_of ds d ≡ false → new ≡ ds ++ d ∷ []
      → ReadsSoFar records name alone lines later (number + 1) new
  read_more lines rest later line number ds new d so_far next is other same = subst (λ (xs : List DeltaState). ReadsSoFar records name alone lines later (number + 1) xs) (sym same) (record {
    before = so_far.before ++ line ∷ [];
    split = so_far.split ∙ ap (λ (ls : List (List ℕ)). so_far.before ++ ls) next ∙ sym (append_assoc so_far.before (line ∷ []) later);
    read = (lines_more so_far.before ds line d so_far.read.0 is, once_more ds d so_far.read.1 other);
    counted = length-append so_far.before (line ∷ []) ∙ ap (λ (n : ℕ). n + 1) so_far.counted;
  })

  -- the next line is refused
  pub refused_next : (lines rest later : List (List ℕ)) (line : List ℕ) (number : ℕ) (ds : List DeltaState) (fault : LineFault)
      → ReadsSoFar records name alone lines rest number ds → rest ≡ line ∷ later → IsLineFault records name alone ds line fault
      → IsFirstRefused records name alone lines (number + 1) fault
  refused_next lines rest later line number ds fault so_far next refused = record {
    deltas = ds;
    before = so_far.before;
    line = line;
    after = later;
    split = so_far.split ∙ ap (λ (ls : List (List ℕ)). so_far.before ++ ls) next;
    read = so_far.read;
    counted = ap (λ (n : ℕ). n + 1) (sym so_far.counted);
    refused = refused;
  }

  no_bytes : (rest : List ℕ) → length rest ≡ 0 → lines_of rest ≡ []
  no_bytes [] none = refl
  no_bytes (b ∷ bs) none = absurd (omega arith)

  append_nil : (ls : List (List ℕ)) → ls ++ [] ≡ ls
  append_nil [] = refl
  append_nil (l ∷ ls) = ap (λ (ks : List (List ℕ)). l ∷ ks) (append_nil ls)

  -- behind the last line
  pub read_all : (lines : List (List ℕ)) (rest : List ℕ) (number : ℕ) (ds : List DeltaState) → ReadsSoFar records name alone lines (lines_of rest) number ds
      → length rest ≡ 0 → AreRead records name alone lines ds
  read_all lines rest number ds so_far none =
      let same : so_far.before ≡ lines =
      sym (append_nil so_far.before) ∙ ap (λ (ls : List (List ℕ)). so_far.before ++ ls) (sym (no_bytes rest none)) ∙ sym so_far.split in
      subst (λ (ls : List (List ℕ)). AreRead records name alone ls ds) same so_far.read
