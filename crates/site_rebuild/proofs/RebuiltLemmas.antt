-- Deltas of each other site, and the cells that a site begins with that is built of them.
use Rattle.std.proofs.Common.{◌≡◌, ℕ, ◌+◌, ◌<◌, ◌⊎◌, inl, inr, Bool, true, false, ◌||◌, eqb, List, [], ◌∷◌, length, get_or, Option, Some, None, Result, Ok, Err, is_err, refl, sym, ap, subst, ◌∙◌, arith}
use Rattle.std.specs.List.{list_any}
use Rattle.std.proofs.lemmas.List.{get_or_default}
use Rattle.std.proofs.lemmas.Bool.{cases_eq, eq-eqb, eqb-true, or_left, or_right}
use Rattle.merge_core.specs.Delta.{DeltaState}
use Rattle.merge_core.specs.declared.cell.Cell.{Cell}
use Rattle.merge_core.specs.declared.delta.Row.{Row}
use Rattle.merge_core.specs.declared.check.CheckError.{CheckError}
use Rattle.merge_core.specs.declared.check.CheckError.TheVariants.{OtherLayout, BadRow}
use Rattle.merge_core.specs.Check.{IsChecked, IsCheckOf}
use Rattle.merge_core.specs.Naming.{greatest_shown}
use Rattle.merge_core.specs.Layout.{LayoutState, Shape, shape_of}
use Rattle.merge_core.specs.Rows.{start_counter}
use Rattle.merge_core.specs.Book.{BookState, counter_of, book_shape}
use Rattle.merge_core.specs.Changes.{keeps_counter, JoinsAll}
use Rattle.session_list.specs.declared.session.Session.{Session}
use Rattle.admission_model.specs.declared.durable.DurableCell.{DurableCell}
use Rattle.admission_model.specs.Account.{Account, begin}
use Rattle.admission_model.specs.Knowledge.{known}
use Rattle.admission_model.specs.Reached.{IsReached}
use Rattle.admission_model.specs.Sound.{IsOrigin}
use Rattle.admission_model.specs.Durable.{named, at_slot, places, kept_cells, durable_cells}
use Rattle.admission_model.proofs.CounterLemmas.{known_own, known_other}
use Rattle.admission_model.proofs.HeardLemmas.{kept_yes}
use Rattle.admission_model.proofs.CellLemmas.{named_kept, named_below}
use Rattle.admission_core.specs.declared.restoring.RestoreError.{RestoreError}
use Rattle.admission_core.specs.Kept.{DurableState, durable_of}
use Rattle.admission_core.specs.declared.restoring.RestoreError.TheVariants.{WrongCounters, WrongSessions}
use Rattle.admission_core.specs.Restored.{IsOwn, IsRestored}
use Rattle.rebuild_laws.specs.Groups.{IsTeller, told_most}
use Rattle.admission_core.specs.Core.{Core}
use Rattle.site_rebuild.specs.declared.rebuilding.RebuildError.{RebuildError}
use Rattle.site_rebuild.specs.declared.rebuilding.RebuildError.TheVariants.{BadSite, NoDelta, BadDelta, CounterFull, Acted, Apart, Memory}
use Rattle.site_rebuild.specs.Rebuilt.{gone_of, IsLost, AreTellers, AreFit, IsWithin, IsUnused, counters_by, part_by, IsPart, origin_of, TellsMost, IsCoreOf, IsRebuilt}

or_cases : (a b : Bool) → (a || b) ≡ true → (a ≡ true) ⊎ (b ≡ true)
or_cases true b e = inl refl
or_cases false b e = inr e

pub teller_from : (i : ℕ) (ds : List DeltaState) → list_any (λ d. eqb d.from i) ds ≡ true → IsTeller i ds
teller_from i [] e = cc
teller_from i (d ∷ ds) e = at (or_cases (eqb d.from i) (list_any (λ x. eqb x.from i) ds) e) (teller_from i ds)
  where
    at : (eqb d.from i ≡ true) ⊎ (list_any (λ x. eqb x.from i) ds ≡ true) → (list_any (λ x. eqb x.from i) ds ≡ true → IsTeller i ds) → IsTeller i (d ∷ ds)
    at (inl here) rest = inl (eqb-true d.from i here)
    at (inr later) rest = inr (rest later)

pub teller_to : (i : ℕ) (ds : List DeltaState) → IsTeller i ds → list_any (λ d. eqb d.from i) ds ≡ true
teller_to i [] out = elim out [ ]
teller_to i (d ∷ ds) (inl here) = or_left (eqb d.from i) (list_any (λ x. eqb x.from i) ds) (eq-eqb d.from i here)
teller_to i (d ∷ ds) (inr later) = or_right (eqb d.from i) (list_any (λ x. eqb x.from i) ds) (teller_to i ds later)

-- one site more has a delta
pub tellers_turn : (i : ℕ) (gone : ℕ → Bool) (ds : List DeltaState) → AreTellers i gone ds → (gone i ≡ false → IsTeller i ds) → AreTellers (i + 1) gone ds
tellers_turn i gone ds before here k below left = at (cases_eq k i)
  where
    at : (k ≡ i) ⊎ (k ≡ i → ⊥) → IsTeller k ds
    at (inl e) = subst (λ (x : ℕ). IsTeller x ds) (sym e) (here (sym (ap gone e) ∙ left))
    at (inr ne) = before k (omega arith) left

-- an answer to an account's own durable part, its error read
pub own_refused : (a : Account) (e x : RestoreError) → e ≡ x → IsOwn a (Err e) → IsOwn a (Err x)
own_refused a e x same own = subst (λ (y : RestoreError). IsOwn a (Err y)) same own

-- a durable part that is refused is none that a site can have
pub no_cells : (layout : LayoutState) (d : ℕ) (part told : DurableState) (e : RestoreError) → part ≡ told → e ≡ WrongCounters → IsRestored layout d part (Err e) → ¬ IsPart layout d told
no_cells layout d part told e same is answer = λ it.
    (subst (λ (x : RestoreError). IsRestored layout d part (Err x)) is answer).1 (subst (λ (x : DurableState). IsPart layout d x) (sym same) it).0

pub no_sessions : (layout : LayoutState) (d : ℕ) (part told : DurableState) (e : RestoreError) → part ≡ told → e ≡ WrongSessions → IsRestored layout d part (Err e) → ¬ IsPart layout d told
no_sessions layout d part told e same is answer = λ it.
    (subst (λ (x : RestoreError). IsRestored layout d part (Err x)) is answer).1.1 (subst (λ (x : DurableState). IsPart layout d x) (sym same) it).1

-- the account that begins of what deltas tell and was settled
module _ (layout : LayoutState) (gone : ℕ → Bool) (d : ℕ) (ds : List DeltaState) where
  pub built : Account
  built = begin (origin_of layout gone d ds)

  abbrev counters : ℕ → ℕ → Cell → ℕ
  counters = counters_by layout gone d (told_most (shape_of layout) ds)

  -- what it knows of what a restart keeps
  known_built : (r s : ℕ) (cell : Cell) → keeps_counter d s cell ≡ true → known (begin (origin_of layout gone d ds)) r s cell ≡ counters r s cell
  unfolding counters_by
  known_built r s cell keeps = at (cases_eq s d)
    where
      at : (s ≡ d) ⊎ (s ≡ d → ⊥) → known (begin (origin_of layout gone d ds)) r s cell ≡ counters r s cell
      at (inl e) =
          subst (λ (x : ℕ). known (begin (origin_of layout gone d ds)) r x cell ≡ counters r x cell) (sym e)
          (known_own (begin (origin_of layout gone d ds)) r cell)
      at (inr ne) =
          known_other (begin (origin_of layout gone d ds)) r s cell ne
          ∙ kept_yes (origin_of layout gone d ds) counters r s cell keeps

  slot_built : (r slot : ℕ) → at_slot layout.sites d counters r slot ≡ at_slot layout.sites d (known (begin (origin_of layout gone d ds))) r slot
  slot_built r slot =
      let a = begin (origin_of layout gone d ds) in
      let it = named_kept layout.sites d slot in
      omega (
        arith,
        named_below d r counters (known a) (named layout.sites d slot) it (λ s cell keeps. omega (arith, known_built r s cell keeps)),
        named_below d r (known a) counters (named layout.sites d slot) it (λ s cell keeps. omega (arith, known_built r s cell keeps)),
      )

  pub cells_built : (b : BookState) → TellsMost layout ds b → kept_cells (at_slot layout.sites d (start_counter (shape_of layout))) (at_slot layout.sites d (counters_by layout gone d (counter_of b))) (places layout) ≡ durable_cells (begin (origin_of layout gone d ds))
  cells_built b same =
      let told : counter_of b ≡ told_most (shape_of layout) ds = λ k r s cell. same r s cell k in
      let slots : at_slot layout.sites d counters ≡ at_slot layout.sites d (known (begin (origin_of layout gone d ds))) = λ k r slot. slot_built r slot k in
      ap (λ (f : ℕ → ℕ → Cell → ℕ). kept_cells (at_slot layout.sites d (start_counter (shape_of layout))) (at_slot layout.sites d (counters_by layout gone d f)) (places layout)) told
      ∙ ap (λ (f : ℕ → ℕ → ℕ). kept_cells (at_slot layout.sites d (start_counter (shape_of layout))) f (places layout)) slots

  pub reached_built : IsOrigin (origin_of layout gone d ds) → IsReached (begin (origin_of layout gone d ds))
  reached_built may = record { from = origin_of layout gone d ds; may_begin = may; steps = []; reached = refl }

  -- the durable part by a book
  pub part_told : (b : BookState) → TellsMost layout ds b → (cells : List DurableCell) (ss : List Session) → cells ≡ kept_cells (at_slot layout.sites d (start_counter (shape_of layout))) (at_slot layout.sites d (counters_by layout gone d (counter_of b))) (places layout) → ss ≡ [] → ◌≡◌ {A = DurableState} (record { cells = cells; sessions = ss }) (part_by layout gone d (told_most (shape_of layout) ds))
  part_told b same cells ss are none =
      let told : counter_of b ≡ told_most (shape_of layout) ds = λ k r s cell. same r s cell k in
      ap (λ (cs : List DurableCell). record { cells = cs; sessions = ss }) are
      ∙ (ap (λ (xs : List Session). record { cells = kept_cells (at_slot layout.sites d (start_counter (shape_of layout))) (at_slot layout.sites d (counters_by layout gone d (counter_of b))) (places layout); sessions = xs }) none
      ∙ ap (λ (f : ℕ → ℕ → Cell → ℕ). part_by layout gone d f) told)

  pub part_built : (b : BookState) → TellsMost layout ds b → (cells : List DurableCell) (ss : List Session) → cells ≡ kept_cells (at_slot layout.sites d (start_counter (shape_of layout))) (at_slot layout.sites d (counters_by layout gone d (counter_of b))) (places layout) → ss ≡ [] → ◌≡◌ {A = DurableState} (record { cells = cells; sessions = ss }) (durable_of (begin (origin_of layout gone d ds)))
  part_built b same cells ss are none =
      ap (λ (cs : List DurableCell). record { cells = cs; sessions = ss }) (are ∙ cells_built b same)
      ∙ ap (λ (xs : List Session). record { cells = durable_cells (begin (origin_of layout gone d ds)); sessions = xs }) none

-- a delta that a book does not take is none of the shape's
pub unfit : (shape : Shape) (rows : List Row) (result : Result (Unit {0}) CheckError) → IsCheckOf shape rows result → is_err result ≡ true → ¬ IsChecked shape rows
unfit shape rows (Ok x) is e = cc
unfit shape rows (Err (OtherLayout i)) is e = λ checked. let clash : ◌≡◌ {A = Option ℕ} None (Some i) = sym checked.placed ∙ is in cc
unfit shape rows (Err (BadRow i)) is e = λ checked. let clash : ◌≡◌ {A = Option ℕ} None (Some i) = sym checked.valid ∙ is.1 in cc

pub fit : (shape : Shape) (rows : List Row) (result : Result (Unit {0}) CheckError) → IsCheckOf shape rows result → is_err result ≡ false → IsChecked shape rows
fit shape rows (Ok x) is e = is
fit shape rows (Err x) is e = cc

-- what holds of each element before the i-th and of that one
pub each_turn : {X : Type 0} (P : X → Type 0) (xs : List X) (i : ℕ) (here : X) → i < length xs → here ≡ get_or xs i here → ((k : ℕ) (x : X) → k < i → P (get_or xs k x)) → P here → (k : ℕ) (x : X) → k < i + 1 → P (get_or xs k x)
each_turn {X} P xs i here there is before now k x below = at (cases_eq k i)
  where
    at : (k ≡ i) ⊎ (k ≡ i → ⊥) → P (get_or xs k x)
    at (inl e) = subst (λ (n : ℕ). P (get_or xs n x)) (sym e) (subst P (is ∙ get_or_default xs i here x there) now)
    at (inr ne) = before k x (omega arith)

-- the book that has joined all deltas tells what they tell
pub told_joined : (layout : LayoutState) (old new : BookState) (ds : List DeltaState) → book_shape old ≡ shape_of layout → ((r s : ℕ) (cell : Cell) → counter_of old r s cell ≡ start_counter (shape_of layout) r s cell) → JoinsAll old new ds → (r s : ℕ) (cell : Cell) → counter_of new r s cell ≡ told_most (shape_of layout) ds r s cell
told_joined layout old new ds shape start joins r s cell =
    joins.counters r s cell
    ∙ (ap (λ (x : Shape). greatest_shown x (counter_of old r s cell) ds r s cell) shape
    ∙ ap (λ (n : ℕ). greatest_shown (shape_of layout) n ds r s cell) (start r s cell))

-- .. as one function
pub told_as : (layout : LayoutState) (b : BookState) (ds : List DeltaState) → TellsMost layout ds b → counter_of b ≡ told_most (shape_of layout) ds
told_as layout b ds tells = λ k r s cell. tells r s cell k

-- what is answered to a book of the deltas is answered to the deltas
pub rebuilt_answer : (layout : LayoutState) (lost : List ℕ) (d : ℕ) (ds : List DeltaState) (result : Result Core RebuildError) → IsLost layout.sites lost d → AreTellers layout.sites (gone_of lost) ds → AreFit (shape_of layout) ds → IsWithin layout (gone_of lost) (told_most (shape_of layout) ds) → IsUnused layout (gone_of lost) d ds (told_most (shape_of layout) ds) → IsCoreOf layout (gone_of lost) d ds result → IsRebuilt layout lost d ds result
rebuilt_answer layout lost d ds (Ok core) there tellers fits within unused made = (there, (tellers, (fits, (within, (unused, made)))))
rebuilt_answer layout lost d ds (Err BadSite) there tellers fits within unused made = absurd made
rebuilt_answer layout lost d ds (Err (NoDelta i)) there tellers fits within unused made = absurd made
rebuilt_answer layout lost d ds (Err (BadDelta k)) there tellers fits within unused made = absurd made
rebuilt_answer layout lost d ds (Err CounterFull) there tellers fits within unused made = absurd made
rebuilt_answer layout lost d ds (Err Acted) there tellers fits within unused made = absurd made
rebuilt_answer layout lost d ds (Err Apart) there tellers fits within unused made = (there, (tellers, (fits, (within, (unused, made)))))
rebuilt_answer layout lost d ds (Err Memory) there tellers fits within unused made = (there, tellers)
