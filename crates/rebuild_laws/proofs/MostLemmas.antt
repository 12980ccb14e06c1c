-- What deltas tell that were sent in a sound world.
use Rattle.std.proofs.Common.{◌≡◌, ℕ, ◌<◌, ◌≤◌, inl, inr, Bool, true, false, List, [], ◌∷◌, length, refl, ap, subst, ◌∙◌, arith}
use Rattle.std.specs.List.{AllByRecursion}
use Rattle.merge_core.specs.declared.cell.Cell.{Cell}
use Rattle.merge_core.specs.declared.cell.Cell.TheVariants.{Out}
use Rattle.merge_core.specs.declared.delta.Row.{Row}
use Rattle.merge_core.specs.Delta.{DeltaState}
use Rattle.merge_core.specs.Layout.{LayoutState, shape_of, at_sites}
use Rattle.merge_core.specs.Rows.{grant, start_counter}
use Rattle.merge_core.specs.Naming.{shown_by}
use Rattle.merge_core.specs.Changes.{keeps_counter}
use Rattle.merge_core.specs.Check.{IsChecked}
use Rattle.merge_core.specs.Tests.{is_placed, is_valid}
use Rattle.admission_model.specs.Account.{Account, own}
use Rattle.admission_model.specs.Knowledge.{known}
use Rattle.admission_model.specs.Sound.{FitsRow}
use Rattle.admission_model.proofs.RowLemmas.{AllPass, first_failing-none, FitsRow-start, FitsRow-max, start_below, start_past, shown_same, shown_past_records, shown_past_rows, shown_past_sites, records_number}
use Rattle.admission_model.proofs.MessageLemmas.{placed_from, valid_from}
use Rattle.multi_site_world.specs.World.{World, account_at}
use Rattle.rebuild_laws.specs.Groups.{told_most, IsSentDelta, IsTeller}
use Rattle.multi_site_world.proofs.FamilyLemmas.{row_fits}
use Rattle.multi_site_world.proofs.WorldLemmas.{IsSoundWorld, AreSentRows, IsMessage, shown_done}
use Rattle.multi_site_world.proofs.EventLemmas.{message_at}
use Rattle.rebuild_laws.proofs.TellingLemmas.{sent_start, IsWhole}

-- sent rows are placed
pub sent_placed : (layout : LayoutState) (accounts : ℕ → Account) (rows : List Row) → AreSentRows layout accounts rows → AllPass (is_placed (shape_of layout)) rows
sent_placed layout accounts [] sent = tt
sent_placed layout accounts (p ∷ ps) sent = (
  placed_from (shape_of layout) p (record { record_there = sent.0.record_there; site_there = sent.0.site_there; few_sites = sent.0.few_sites; fits = sent.0.fits }),
  sent_placed layout accounts ps sent.1,
)

-- sent rows are valid
pub sent_valid : (layout : LayoutState) (accounts : ℕ → Account) (rows : List Row) → AreSentRows layout accounts rows → AllPass (is_valid (shape_of layout)) rows
sent_valid layout accounts [] sent = tt
sent_valid layout accounts (p ∷ ps) sent = (valid_from (shape_of layout) p sent.0.fits, sent_valid layout accounts ps sent.1)

-- what deltas tell: at least what one of them shows
module _ (v : World) (sound : IsSoundWorld v) where
  -- each delta is a sent message
  pub messages : (ds : List DeltaState) → AllByRecursion (IsSentDelta v.sent) ds → AllByRecursion (IsMessage v.layout (account_at v)) ds
  messages [] all = tt
  messages (d ∷ ds) all = (message_at (IsMessage v.layout (account_at v)) v.sent all.0.0 d sound.sent all.0.1, messages ds all.1)

  pub most_done : (ds : List DeltaState) → AllByRecursion (IsMessage v.layout (account_at v)) ds → (s : ℕ) → s < v.layout.sites → (r : ℕ) (cell : Cell) → told_most (shape_of v.layout) ds r s cell ≤ own (account_at v s) r cell
  most_done [] all s below r cell =
      start_below (shape_of v.layout) r s (own (account_at v s) r) (row_fits v.layout (account_at v) sound.family s below r) cell
  most_done (d ∷ ds) all s below r cell = omega (arith, shown_done v d.rows sound all.0.rows s below r cell, most_done ds all.1 s below r cell)

  pub most_fits : (ds : List DeltaState) → AllByRecursion (IsMessage v.layout (account_at v)) ds → (r s : ℕ) → FitsRow (grant (shape_of v.layout) r s) s (told_most (shape_of v.layout) ds r s)
  most_fits [] all r s = FitsRow-start (shape_of v.layout) r s
  most_fits (d ∷ ds) all r s =
      FitsRow-max (grant (shape_of v.layout) r s) s (shown_by (shape_of v.layout) d.rows r s) (told_most (shape_of v.layout) ds r s)
      (sent_start v.layout (account_at v) d.rows all.0.rows r s) (most_fits ds all.1 r s)

  pub most_past_records : (ds : List DeltaState) → AllByRecursion (IsMessage v.layout (account_at v)) ds → (r s : ℕ) (cell : Cell) → length v.layout.records ≤ r → told_most (shape_of v.layout) ds r s cell ≡ 0
  most_past_records [] all r s cell past = start_past v.layout r s cell past
  most_past_records (d ∷ ds) all r s cell past =
      omega (
        arith,
        shown_past_records (shape_of v.layout) d.rows (sent_placed v.layout (account_at v) d.rows all.0.rows) r s cell (omega (arith, records_number v.layout)),
        start_past v.layout r s cell past,
        most_past_records ds all.1 r s cell past,
      )

  pub most_past_rows : (ds : List DeltaState) → AllByRecursion (IsMessage v.layout (account_at v)) ds → (r s : ℕ) (cell : Cell) → v.layout.sites ≤ s → told_most (shape_of v.layout) ds r s cell ≤ start_counter (shape_of v.layout) r s cell
  most_past_rows [] all r s cell past = omega arith
  most_past_rows (d ∷ ds) all r s cell past =
      omega (
        arith,
        shown_past_rows (shape_of v.layout) d.rows (sent_placed v.layout (account_at v) d.rows all.0.rows) r s cell past,
        most_past_rows ds all.1 r s cell past,
      )

  pub most_past_sites : (ds : List DeltaState) → AllByRecursion (IsMessage v.layout (account_at v)) ds → (r s j : ℕ) → v.layout.sites ≤ j → told_most (shape_of v.layout) ds r s (Out j) ≤ start_counter (shape_of v.layout) r s (Out j)
  most_past_sites [] all r s j past = omega arith
  most_past_sites (d ∷ ds) all r s j past =
      omega (
        arith,
        shown_past_sites (shape_of v.layout) d.rows (sent_placed v.layout (account_at v) d.rows all.0.rows) r s j past,
        most_past_sites ds all.1 r s j past,
      )

-- what deltas tell depends on the records of a layout alone
pub told_same : (layout : LayoutState) (n : ℕ) (ds : List DeltaState) (r s : ℕ) (cell : Cell) → told_most (shape_of (at_sites n layout)) ds r s cell ≡ told_most (shape_of layout) ds r s cell
told_same layout n [] r s cell = refl
told_same layout n (d ∷ ds) r s cell =
    omega (arith, shown_same (shape_of (at_sites n layout)) (shape_of layout) refl d.rows r s cell, told_same layout n ds r s cell)

-- sent rows that are narrow enough are placed in a layout of fewer sites
pub narrow_placed : (layout : LayoutState) (accounts : ℕ → Account) (n : ℕ) (rows : List Row) → AreSentRows layout accounts rows → AllByRecursion (λ p. length p.out ≤ n) rows → AllPass (is_placed (shape_of (at_sites n layout))) rows
narrow_placed layout accounts n [] sent narrow = tt
narrow_placed layout accounts n (p ∷ ps) sent narrow = (
  placed_from (shape_of (at_sites n layout)) p (record { record_there = sent.0.record_there; site_there = sent.0.site_there; few_sites = narrow.0; fits = sent.0.fits }),
  narrow_placed layout accounts n ps sent.1 narrow.1,
)

-- a sent message whose rows are narrow enough is one that every site of a layout of so many sites takes
pub sent_checked : (layout : LayoutState) (accounts : ℕ → Account) (n : ℕ) (m : DeltaState) → IsMessage layout accounts m → AllByRecursion (λ p. length p.out ≤ n) m.rows → IsChecked (shape_of (at_sites n layout)) m.rows
sent_checked layout accounts n m is narrow = record {
  placed = first_failing-none (is_placed (shape_of (at_sites n layout))) m.rows (narrow_placed layout accounts n m.rows is.rows narrow);
  valid = first_failing-none (is_valid (shape_of (at_sites n layout))) m.rows (sent_valid layout accounts m.rows is.rows);
}

-- a site's delta tells what it kept
pub most_kept : (gone : ℕ → Bool) (u v : World) (ds : List DeltaState) → v.layout ≡ u.layout → AllByRecursion (λ m. gone m.from ≡ false → IsWhole u m) v.sent → AllByRecursion (IsSentDelta v.sent) ds → (i : ℕ) → gone i ≡ false → IsTeller i ds → (r s : ℕ) (cell : Cell) → keeps_counter i s cell ≡ true → known (account_at u i) r s cell ≤ told_most (shape_of v.layout) ds r s cell
most_kept gone u v [] same whole sent i left out r s cell keeps = elim out [ ]
most_kept gone u v (d ∷ ds) same whole sent i left (inl e) r s cell keeps =
    let it = message_at (λ m. gone m.from ≡ false → IsWhole u m) v.sent sent.0.0 d whole sent.0.1 (ap gone e ∙ left) in
    let shown : known (account_at u i) r s cell ≤ shown_by (shape_of u.layout) d.rows r s cell =
    subst (λ (x : ℕ). keeps_counter x s cell ≡ true → known (account_at u x) r s cell ≤ shown_by (shape_of u.layout) d.rows r s cell) e (it.tells r s cell) keeps in
    omega (arith, shown, ap (λ (l : LayoutState). shown_by (shape_of l) d.rows r s cell) same)
most_kept gone u v (d ∷ ds) same whole sent i left (inr later) r s cell keeps =
    omega (arith, most_kept gone u v ds same whole sent.1 i left later r s cell keeps)
