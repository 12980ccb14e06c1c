-- Two rising lists of cells merged, step by step.
use Rattle.std.proofs.Common.{◌≡◌, ℕ, zero, suc, ◌+◌, ◌-◌, ◌<◌, ◌≤◌, true, false, List, [], ◌∷◌, ◌++◌, length, take, drop, get_or, IsTrue, refl, sym, ap, subst, ◌∙◌, arith, add-one, append_assoc, append-nil, length-drop}
use Rattle.std.specs.List.{AllByRecursion}
use Rattle.std.proofs.Math.Seq.{drop-cons}
use Rattle.std.proofs.lemmas.Bool.Decides.{nat_tests}
use Rattle.admission_core.specs.DurableCell.{DurableCell}
use Rattle.admission_core.specs.Durable.{AreRising, is_before, is_same_place, put_cell, put_cells}
use Rattle.durable_keeper.proofs.CellLists.{later_all, all_put}

-- more than all is all
pub take_past : (n : ℕ) (cs : List DurableCell) → length cs ≤ n → take n cs ≡ cs
take_past zero [] h = refl
take_past zero (c ∷ cs) h = absurd (omega arith)
take_past (suc n) [] h = refl
take_past (suc n) (c ∷ cs) h = ap (λ l. c ∷ l) (take_past n cs (omega arith))

-- a cell before all others is put first
put_first : (c : DurableCell) (ds : List DurableCell) → AllByRecursion (λ d. IsTrue (is_before c d)) ds → put_cell c ds ≡ c ∷ ds
put_first c [] all = refl
put_first c (d ∷ ds) all = rw all.0 refl

not_behind : (c d : DurableCell) → is_before d c ≡ true → is_before c d ≡ false
not_behind c d p = grind (arith, nat_tests)

pub behind_apart : (c d : DurableCell) → is_before d c ≡ true → is_same_place c d ≡ false
behind_apart c d p = grind (arith, nat_tests)

-- cells behind the first one leave it first
put_behind : (cs : List DurableCell) (d : DurableCell) (ds : List DurableCell) → AllByRecursion (λ c. IsTrue (is_before d c)) cs → put_cells cs (d ∷ ds) ≡ d ∷ put_cells cs ds
put_behind [] d ds all = refl
put_behind (c ∷ cs) d ds all = rw (put_behind cs d ds all.1, not_behind c d all.0, behind_apart c d all.0) refl

all_puts : (P : DurableCell → Type 0) (cs ds : List DurableCell) → AllByRecursion P cs → AllByRecursion P ds → AllByRecursion P (put_cells cs ds)
all_puts P [] ds all more = more
all_puts P (c ∷ cs) ds all more = all_put P c (put_cells cs ds) all.0 (all_puts P cs ds all.1 more)

put_none : (cs : List DurableCell) → AreRising cs → put_cells cs [] ≡ cs
put_none [] up = refl
put_none (c ∷ cs) up = ap (put_cell c) (put_none cs up.1) ∙ put_first c cs up.0

take_kept : (c d : DurableCell) (cs ds : List DurableCell) → AreRising (c ∷ cs) → is_before d c ≡ true → put_cells (c ∷ cs) (d ∷ ds) ≡ d ∷ put_cells (c ∷ cs) ds
take_kept c d cs ds up p = put_behind (c ∷ cs) d ds (p, later_all d c cs p up.0)

take_put : (c d : DurableCell) (cs ds : List DurableCell) → AreRising (c ∷ cs) → AreRising (d ∷ ds) → is_before c d ≡ true → put_cells (c ∷ cs) (d ∷ ds) ≡ c ∷ put_cells cs (d ∷ ds)
take_put c d cs ds up vp p = put_first c (put_cells cs (d ∷ ds)) (all_puts (λ e. IsTrue (is_before c e)) cs (d ∷ ds) up.0 (p, later_all c d ds p vp.0))

pub level : (c d : DurableCell) → is_before d c ≡ false → is_before c d ≡ false → is_same_place c d ≡ true
level c d p q = grind (arith, nat_tests)

level_before : (c d e : DurableCell) → is_same_place c d ≡ true → is_before c e ≡ true → is_before d e ≡ true
level_before c d e p q = grind (arith, nat_tests)

level_all : (c d : DurableCell) (es : List DurableCell) → is_same_place c d ≡ true → AllByRecursion (λ e. IsTrue (is_before c e)) es → AllByRecursion (λ e. IsTrue (is_before d e)) es
level_all c d [] p all = tt
level_all c d (e ∷ es) p all = (level_before c d e p all.0, level_all c d es p all.1)

take_both : (c d : DurableCell) (cs ds : List DurableCell) → AreRising (c ∷ cs) → is_before d c ≡ false → is_before c d ≡ false → put_cells (c ∷ cs) (d ∷ ds) ≡ c ∷ put_cells cs ds
take_both c d cs ds up p q = rw (put_behind cs d ds (level_all c d cs (level c d p q) up.0), q, level c d p q) refl

rising_drop : (i : ℕ) (cs : List DurableCell) → AreRising cs → AreRising (drop i cs)
rising_drop zero cs up = up
rising_drop (suc i) [] up = tt
rising_drop (suc i) (c ∷ cs) up = rising_drop i cs up.1

-- the cell at an index, with which the rest begins
abbrev at : List DurableCell → ℕ → DurableCell → DurableCell
at cs i o = get_or cs i o

shown : (cs : List DurableCell) (i : ℕ) (o : DurableCell) → i < length cs → drop i cs ≡ at cs i o ∷ drop (i + 1) cs
shown cs i o below = drop-cons cs i o below ∙ ap (λ n. at cs i o ∷ drop n cs) (sym (add-one i))

moved : (done now rest : List DurableCell) (x : DurableCell) → now ≡ done ++ x ∷ [] → now ++ rest ≡ done ++ x ∷ rest
moved done now rest x e = ap (λ l. l ++ rest) e ∙ append_assoc done (x ∷ []) rest

module _ (cs ds done now : List DurableCell) (i j : ℕ) (o : DurableCell) (i_below : i < length cs) (j_below : j < length ds) (up : AreRising cs) (vp : AreRising ds) where
  left_up : AreRising (at cs i o ∷ drop (i + 1) cs)
  left_up = subst AreRising (shown cs i o i_below) (rising_drop i cs up)

  right_up : AreRising (at ds j o ∷ drop (j + 1) ds)
  right_up = subst AreRising (shown ds j o j_below) (rising_drop j ds vp)

  both : put_cells (drop i cs) (drop j ds) ≡ put_cells (at cs i o ∷ drop (i + 1) cs) (at ds j o ∷ drop (j + 1) ds)
  both = ap (λ l. put_cells l (drop j ds)) (shown cs i o i_below) ∙ ap (put_cells (at cs i o ∷ drop (i + 1) cs)) (shown ds j o j_below)

  pub merge_kept : now ≡ done ++ at ds j o ∷ [] → is_before (at ds j o) (at cs i o) ≡ true → now ++ put_cells (drop i cs) (drop (j + 1) ds) ≡ done ++ put_cells (drop i cs) (drop j ds)
  merge_kept e p =
      moved done now (put_cells (drop i cs) (drop (j + 1) ds)) (at ds j o) e
      ∙ ap (λ l. done ++ l) (ap (λ l. at ds j o ∷ put_cells l (drop (j + 1) ds)) (shown cs i o i_below) ∙ sym (both ∙ take_kept (at cs i o) (at ds j o) (drop (i + 1) cs) (drop (j + 1) ds) left_up p))

  pub merge_put : now ≡ done ++ at cs i o ∷ [] → is_before (at cs i o) (at ds j o) ≡ true → now ++ put_cells (drop (i + 1) cs) (drop j ds) ≡ done ++ put_cells (drop i cs) (drop j ds)
  merge_put e p =
      moved done now (put_cells (drop (i + 1) cs) (drop j ds)) (at cs i o) e
      ∙ ap (λ l. done ++ l) (ap (λ l. at cs i o ∷ put_cells (drop (i + 1) cs) l) (shown ds j o j_below) ∙ sym (both ∙ take_put (at cs i o) (at ds j o) (drop (i + 1) cs) (drop (j + 1) ds) left_up right_up p))

  pub merge_both : now ≡ done ++ at cs i o ∷ [] → is_before (at ds j o) (at cs i o) ≡ false → is_before (at cs i o) (at ds j o) ≡ false
      → now ++ put_cells (drop (i + 1) cs) (drop (j + 1) ds) ≡ done ++ put_cells (drop i cs) (drop j ds)
  merge_both e p q =
      moved done now (put_cells (drop (i + 1) cs) (drop (j + 1) ds)) (at cs i o) e
      ∙ ap (λ l. done ++ l) (sym (both ∙ take_both (at cs i o) (at ds j o) (drop (i + 1) cs) (drop (j + 1) ds) left_up p q))

-- where one of the two has ended, the rest of both is what is left
past : (i : ℕ) (cs : List DurableCell) → length cs ≤ i → drop i cs ≡ []
past zero [] h = refl
past zero (c ∷ cs) h = absurd (omega arith)
past (suc i) [] h = refl
past (suc i) (c ∷ cs) h = past i cs (omega arith)

pub left_over : (cs ds : List DurableCell) (i j : ℕ) → AreRising cs → length cs ≤ i → put_cells (drop i cs) (drop j ds) ≡ drop i cs ++ drop j ds
left_over cs ds i j up h = rw (past i cs h) refl

pub right_over : (cs ds : List DurableCell) (i j : ℕ) → AreRising cs → length ds ≤ j → put_cells (drop i cs) (drop j ds) ≡ drop i cs ++ drop j ds
right_over cs ds i j up h = rw (past j ds h) (put_none (drop i cs) (rising_drop i cs up) ∙ sym (append-nil (drop i cs)))

whole_rest : (cs : List DurableCell) (i : ℕ) → take (length cs - i) (drop i cs) ≡ drop i cs
whole_rest cs i = take_past (length cs - i) (drop i cs) (rw length-drop (omega arith))

-- what is left of both is added, one after the other
pub finish : (cs ds done mid now : List DurableCell) (i j : ℕ) → mid ≡ done ++ take (length cs - i) (drop i cs) → now ≡ mid ++ take (length ds - j) (drop j ds)
    → put_cells (drop i cs) (drop j ds) ≡ drop i cs ++ drop j ds → done ++ put_cells (drop i cs) (drop j ds) ≡ put_cells cs ds → now ≡ put_cells cs ds
finish cs ds done mid now i j p q over same =
    q ∙ ap (λ l. mid ++ l) (whole_rest ds j) ∙ ap (λ l. l ++ drop j ds) (p ∙ ap (λ l. done ++ l) (whole_rest cs i))
    ∙ append_assoc done (drop i cs) (drop j ds) ∙ ap (λ l. done ++ l) (sym over) ∙ same
