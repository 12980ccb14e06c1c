-- The durable part of a site that is built again is a change of nothing.
use Rattle.std.proofs.Common.{◌≡◌, ℕ, ◌+◌, ◌<◌, ◌≤◌, ◌≢◌, ◌⊎◌, inl, inr, Bool, true, false, cond, eqb, List, [], ◌∷◌, length, get_or, Option, Some, None, IsSome, Err, refl, sym, ap, subst, ◌∙◌, arith}
use Rattle.std.specs.Prelude.{All, ◌==◌, not}
use Rattle.std.specs.List.{AllByRecursion}
use Rattle.std.proofs.lemmas.Bool.{cases_Bool, cases_eq, cond-true, cond-false}
use Rattle.std.proofs.lemmas.List.Elements.{All-from_recursion, recursion_from_All}
use Rattle.merge_core.specs.declared.cell.Cell.{Cell}
use Rattle.merge_core.specs.declared.cell.Cell.TheVariants.{Out, Taken, Ann, Fin}
use Rattle.merge_core.specs.Delta.{DeltaState}
use Rattle.merge_core.specs.Layout.{LayoutState, IsLayout, RecordShape, shape_of}
use Rattle.merge_core.specs.Rows.{grant, start_counter, no_record}
use Rattle.admission_model.specs.declared.durable.DurableCell.{DurableCell}
use Rattle.admission_model.specs.Account.{Account}
use Rattle.admission_model.specs.Durable.{Named, Place, at_slot, counter_named, named, pick, places, slots_of, start_slots}
use Rattle.admission_model.specs.Knowledge.{known}
use Rattle.admission_model.specs.Reached.{IsReached}
use Rattle.admission_model.specs.Sound.{FitsRow}
use Rattle.admission_model.proofs.HeardLemmas.{known_fits}
use Rattle.admission_model.proofs.LawLemmas.{sound_reached}
use Rattle.admission_core.specs.Core.{Core, Stands}
use Rattle.admission_core.specs.Kept.{ChangeState, DurableState, durable_of}
use Rattle.admission_core.specs.Restored.{IsCoreFrom, IsListed}
use Rattle.admission_core.proofs.LimitLemmas.{seats_few}
use Rattle.durable_keeper.specs.Keeping.{IsChange, most_kept}
use Rattle.desk_log.specs.Log.{begun}
use Rattle.desk_log.proofs.KeptLemmas.{durable_begun}
use Rattle.rebuild_laws.specs.Groups.{told_most}
use Rattle.site_rebuild.specs.declared.rebuilding.RebuildError.{RebuildError}
use Rattle.site_rebuild.specs.declared.rebuilding.RebuildError.TheVariants as site
use Rattle.site_rebuild.specs.Rebuilt.{IsRebuilt, gone_of, part_by}
use Rattle.text_input.specs.Lines.{lines_of}
use Rattle.rebuild_engine.specs.Lines.{AreRead}
use Rattle.rebuild_engine.specs.Stops.{stop_of}
use Rattle.rebuild_engine.specs.Parts.{IsBuiltOf, IsCoreOf, IsUnbuiltIn, is_alone, is_moved_name}
use Rattle.rebuild_engine.specs.Shown.{shown_text}

abbrev counters_alone : List DurableCell → ChangeState
counters_alone cells = record { cells = cells; session = None }

-- a site has at most 65,535 seats of a record at the start
grant_few : (layout : LayoutState) → IsLayout layout → (r s : ℕ) → grant (shape_of layout) r s ≤ 65535
grant_few layout is r s = at (cases_Bool (eqb s it.home))
  where
    it : RecordShape
    it = get_or (shape_of layout).records r no_record

    at : (eqb s it.home ≡ true) ⊎ (eqb s it.home ≡ false) → grant (shape_of layout) r s ≤ 65535
    at (inl e) = omega (arith, cond-true (eqb s it.home) it.seats 0 e, seats_few layout is r)
    at (inr e) = omega (arith, cond-false (eqb s it.home) it.seats 0 e)

-- a row that fits has no counter past what is kept at most
fits_few : (granted s : ℕ) (f : Cell → ℕ) → granted ≤ 65535 → FitsRow granted s f → (cell : Cell) → f cell ≤ most_kept
fits_few granted s f few fits (Out j) = at (cases_eq j s)
  where
    at : (j ≡ s) ⊎ (j ≡ s → ⊥) → f (Out j) ≤ most_kept
    at (inl e) = omega (arith, ap (λ (x : ℕ). f (Out x)) e, fits.returned_after_taken, fits.few_taken)
    at (inr ne) = omega (arith, fits.few_moved j ne)
fits_few granted s f few fits Taken = omega (arith, fits.few_taken)
fits_few granted s f few fits Ann = omega (arith, fits.few_announced)
fits_few granted s f few fits Fin = omega (arith, fits.finished_after_announced, fits.few_announced)

named_few : (f : ℕ → ℕ → Cell → ℕ) (r : ℕ) (o : Option Named) → ((s : ℕ) (cell : Cell) → f r s cell ≤ most_kept) → counter_named f r o ≤ most_kept
named_few f r None few = omega arith
named_few f r (Some it) few = few it.s it.cell

-- values that are picked are no greater than all are
picked_few : (test : ℕ → ℕ → Bool) (value : ℕ → ℕ → ℕ) (n : ℕ) (ps : List Place) → ((r slot : ℕ) → value r slot ≤ n) → AllByRecursion (λ c. c.value ≤ n) (pick test value ps)
picked_few test value n [] few = tt
picked_few test value n (p ∷ ps) few = by (test p.r p.slot) (picked_few test value n ps few)
  where
    cell : DurableCell
    cell = record { r = p.r; slot = p.slot; value = value p.r p.slot }

    by : (b : Bool) → AllByRecursion (λ c. c.value ≤ n) (pick test value ps) → AllByRecursion (λ c. c.value ≤ n) (cond b (cell ∷ pick test value ps) (pick test value ps))
    by true rest = (few p.r p.slot, rest)
    by false rest = rest

small_cells : (a : Account) → IsReached a → IsLayout a.origin.layout → All (λ c. c.value ≤ most_kept) (durable_of a).cells
small_cells a reached is = All-from_recursion (λ (c : DurableCell). c.value ≤ most_kept) (durable_of a).cells
    (picked_few (λ (r slot : ℕ). not (slots_of a r slot == start_slots a r slot)) (slots_of a) most_kept (places a.origin.layout) at_place)
  where
    at_place : (r slot : ℕ) → slots_of a r slot ≤ most_kept
    at_place r slot =
        named_few (known a) r (named a.sites a.origin.site slot)
        (λ s cell. fits_few (grant (shape_of a.origin.layout) r s) s (known a r s) (grant_few a.origin.layout is r s) (known_fits a (sound_reached a reached) r s) cell)

listed_all : (layout : LayoutState) (i : ℕ) (cs : List DurableCell) → AllByRecursion (λ c. c.r < length layout.records) cs
    → AllByRecursion (λ c. IsSome (named layout.sites i c.slot)) cs
    → AllByRecursion (λ c. c.value ≢ at_slot layout.sites i (start_counter (shape_of layout)) c.r c.slot) cs
    → AllByRecursion (IsListed layout i) cs
listed_all layout i [] rs slots moved = tt
listed_all layout i (c ∷ cs) rs slots moved = (record { record_there = rs.0; slot_there = slots.0; moved = moved.0 }, listed_all layout i cs rs.1 slots.1 moved.1)

-- the cells of a core that was made of a durable part are that part's
pub same_part : (layout : LayoutState) → IsLayout layout → (i : ℕ) (part : DurableState) (core : Core) → IsCoreFrom layout i part core → durable_of (begun layout i part) ≡ part
same_part layout is i part core from = durable_begun layout i part from.site_there is.few_sites from.cells from.sessions

pub is_change : (layout : LayoutState) → IsLayout layout → (i : ℕ) (part : DurableState) (core : Core) → IsCoreFrom layout i part core → IsChange layout i (counters_alone part.cells)
is_change layout is i part core from =
    let a : Account = begun layout i part in
    let small : All (λ c. c.value ≤ most_kept) part.cells =
    subst (λ (d : DurableState). All (λ c. c.value ≤ most_kept) d.cells) (same_part layout is i part core from) (small_cells a from.stands.reached is) in
    record {
      rising = from.cells.rising;
      listed = All-from_recursion (IsListed layout i) part.cells (listed_all layout i part.cells
          (recursion_from_All _ part.cells from.cells.records) (recursion_from_All _ part.cells from.cells.slots) (recursion_from_All _ part.cells from.cells.moved));
      small = small;
      session = tt;
    }

-- a core that was built again, and its counters
pub has_built : (layout : LayoutState) → IsLayout layout → (i : ℕ) (lost name bytes : List ℕ) (core : Core) (deltas : List DeltaState) (cells : List DurableCell)
    (shown : List ℕ) → is_moved_name name ≡ true → IsCoreOf layout i lost name bytes core deltas → ((a : Account) → Stands a core → cells ≡ (durable_of a).cells)
    → ((a : Account) → Stands a core → shown ≡ shown_text a core.layout (is_alone lost) deltas) → IsBuiltOf layout i lost name bytes core cells shown
has_built layout is i lost name bytes core deltas cells shown moved of tell show =
    let part : DurableState = part_by layout (gone_of lost) i (told_most (shape_of layout) deltas) in
    let from : IsCoreFrom layout i part core = of.rebuilt.1.1.1.1.1.0 in
    let same : cells ≡ part.cells = tell (begun layout i part) from.stands ∙ ap (λ (d : DurableState). d.cells) (same_part layout is i part core from) in
    record {
      moved = moved;
      deltas = deltas;
      read = of.read;
      rebuilt = of.rebuilt;
      same_layout = from.stands.shows.layout;
      told = same;
      is_change = subst (λ (l : LayoutState). IsChange l i (counters_alone cells)) (sym from.stands.shows.layout)
          (subst (λ (cs : List DurableCell). IsChange layout i (counters_alone cs)) (sym same) (is_change layout is i part core from));
      is_shown = λ a stands. show a stands ∙ ap (λ (l : LayoutState). shown_text a l (is_alone lost) deltas) from.stands.shows.layout;
    }

-- why there is none, where the deltas are refused
module _ (layout : LayoutState) (i : ℕ) (lost name bytes : List ℕ) (deltas : List DeltaState) (read : AreRead layout.records name (is_alone lost) (lines_of bytes) deltas) where
  pub unbuilt_by : (error : RebuildError) → IsRebuilt layout lost i deltas (Err error) → IsUnbuiltIn layout i lost name bytes (stop_of error)
  unbuilt_by site.Memory is = tt
  unbuilt_by site.BadSite is = ((λ same. cc), (deltas, read, is))
  unbuilt_by (site.NoDelta j) is = ((λ same. cc), (deltas, read, is))
  unbuilt_by (site.BadDelta k) is = ((λ same. cc), (deltas, read, is))
  unbuilt_by site.CounterFull is = ((λ same. cc), (deltas, read, is))
  unbuilt_by site.Acted is = ((λ same. cc), (deltas, read, is))
  unbuilt_by site.Apart is = ((λ same. cc), (deltas, read, is))
