-- What a call changes of the durable part.
use Rattle.std.proofs.Common.{◌≡◌, ℕ, ◌≤◌, true, not, List, [], ◌∷◌, length, Option, is_none, refl, sym, ap, ◌∙◌, arith}
use Rattle.std.specs.List.{AllByRecursion, filter}
use Rattle.std.proofs.lemmas.Bool.{cond-false}
use Rattle.merge_core.specs.declared.cell.Cell.{Cell}
use Rattle.merge_core.specs.Layout.{shape_of}
use Rattle.merge_core.specs.Rows.{start_counter}
use Rattle.merge_core.specs.Changes.{keeps_counter}
use Rattle.admission_model.specs.declared.ask.Call.{Call}
use Rattle.session_list.specs.declared.session.Phase.{Phase}
use Rattle.session_list.specs.declared.session.Phase.TheVariants.{Reader, Waiting, Writer}
use Rattle.admission_model.specs.Account.{Account, Origin, sessions_of}
use Rattle.session_list.specs.Sessions.{phase_in}
use Rattle.session_list.specs.declared.session.Session.{Session}
use Rattle.admission_model.specs.Knowledge.{known, durable_part}
use Rattle.admission_model.specs.Serving.{after}
use Rattle.admission_model.specs.Reached.{IsReached}
use Rattle.admission_model.specs.Laws.{KeepTheSame}
use Rattle.admission_model.specs.Durable.{named, at_slot, places, kept_cells, risen_cells, slots_of, start_slots, durable_cells, AreRising, put_cells, is_same_phase, is_phase, change_between, IsEmpty}
use Rattle.admission_model.proofs.RowLemmas.{start_below}
use Rattle.admission_model.proofs.HeardLemmas.{kept_yes, known_fits}
use Rattle.admission_model.proofs.ServingLemmas.{origin_after, sites_after}
use Rattle.admission_model.proofs.NoticeLemmas.{known_after}
use Rattle.admission_model.proofs.OrderLemmas.{IsStored, all_stored}
use Rattle.admission_model.proofs.DurableLemmas.{sound_resumed}
use Rattle.admission_model.proofs.LawLemmas.{sound_reached}
use Rattle.admission_model.proofs.CellLemmas.{cells_put, pick_rises, none_risen, places_placed, named_kept, named_below}

pub durable_rises : (a : Account) → AreRising (durable_cells a)
durable_rises a = pick_rises _ (slots_of a) (places a.origin.layout) (places_placed 0 (length a.origin.layout.records))

pub change_rises : (a b : Account) → AreRising (change_between a b).cells
change_rises a b = pick_rises _ (slots_of b) (places b.origin.layout) (places_placed 0 (length b.origin.layout.records))

pub same_phase_true : (p : Phase) → is_same_phase p p ≡ true
same_phase_true Reader = refl
same_phase_true Waiting = refl
same_phase_true Writer = refl

-- stored sessions do not come, and do not go
pub none_put : (phase : ℕ → ℕ → Option Phase) (ss : List Session) → AllByRecursion (IsStored phase) ss → filter (λ s. not (is_phase s.phase (phase s.r s.h))) ss ≡ []
none_put phase [] all = refl
none_put phase (s ∷ ss) all =
    cond-false (not (is_phase s.phase (phase s.r s.h))) (s ∷ filter (λ x. not (is_phase x.phase (phase x.r x.h))) ss) (filter (λ x. not (is_phase x.phase (phase x.r x.h))) ss)
    (ap (λ o. not (is_phase s.phase o)) all.0 ∙ ap not (same_phase_true s.phase))
    ∙ none_put phase ss all.1

pub none_gone : (phase : ℕ → ℕ → Option Phase) (ss : List Session) → AllByRecursion (IsStored phase) ss → filter (λ s. is_none (phase s.r s.h)) ss ≡ []
none_gone phase [] all = refl
none_gone phase (s ∷ ss) all =
    cond-false (is_none (phase s.r s.h)) (s ∷ filter (λ x. is_none (phase x.r x.h)) ss) (filter (λ x. is_none (phase x.r x.h)) ss) (ap is_none all.0)
    ∙ none_gone phase ss all.1

-- the new account's cells, at the old account's places
module _ (a : Account) (call : Call) where
  new_slots : ℕ → ℕ → ℕ
  new_slots = at_slot a.sites a.origin.site (known (after a call))

  cells_after : durable_cells (after a call) ≡ kept_cells (start_slots a) (at_slot a.sites a.origin.site (known (after a call))) (places a.origin.layout)
  cells_after =
      ap (λ n. kept_cells (at_slot n (after a call).origin.site (start_counter (shape_of (after a call).origin.layout))) (at_slot n (after a call).origin.site (known (after a call))) (places (after a call).origin.layout)) (sites_after a call)
      ∙ ap (λ (o : Origin). kept_cells (at_slot a.sites o.site (start_counter (shape_of o.layout))) (at_slot a.sites o.site (known (after a call))) (places o.layout)) (origin_after a call)

  risen_after : (change_between a (after a call)).cells ≡ risen_cells (slots_of a) (at_slot a.sites a.origin.site (known (after a call))) (places a.origin.layout)
  risen_after =
      ap (λ n. risen_cells (slots_of a) (at_slot n (after a call).origin.site (known (after a call))) (places (after a call).origin.layout)) (sites_after a call)
      ∙ ap (λ (o : Origin). risen_cells (slots_of a) (at_slot a.sites o.site (known (after a call))) (places o.layout)) (origin_after a call)

  -- the cells that a call's change puts make the old cells the new ones
  pub change_put : IsReached a → put_cells (change_between a (after a call)).cells (durable_cells a) ≡ durable_cells (after a call)
  change_put is =
      ap (λ cs. put_cells cs (durable_cells a)) risen_after
      ∙ (cells_put (start_slots a) (slots_of a) (at_slot a.sites a.origin.site (known (after a call)))
      (λ r slot. named_below a.origin.site r (start_counter (shape_of a.origin.layout)) (known a) (named a.sites a.origin.site slot) (named_kept a.sites a.origin.site slot)
      (λ s cell kept. start_below (shape_of a.origin.layout) r s (known a r s) (known_fits a (sound_reached a is) r s) cell))
      (λ r slot. named_below a.origin.site r (known a) (known (after a call)) (named a.sites a.origin.site slot) (named_kept a.sites a.origin.site slot)
      (λ s cell kept. known_after a call r s cell))
      (places a.origin.layout) (places_placed 0 (length a.origin.layout.records))
      ∙ sym cells_after)

  -- a change is empty where the durable part is the same
  pub change_empty : IsReached a → KeepTheSame (durable_part (after a call)) (durable_part a) → IsEmpty (change_between a (after a call))
  change_empty is same = record {
    no_cells = risen_after ∙ none_risen (slots_of a) (at_slot a.sites a.origin.site (known (after a call))) (λ r slot.
        named_below a.origin.site r (known (after a call)) (known a) (named a.sites a.origin.site slot) (named_kept a.sites a.origin.site slot) (λ s cell kept. level r s cell kept))
        (places a.origin.layout);
    no_put = ap (λ ss. filter (λ s. not (is_phase s.phase (phase_in (sessions_of a) s.r s.h))) ss) same.sessions ∙ none_put (phase_in (sessions_of a)) (sessions_of a) stored;
    none_removed = ap (λ ss. filter (λ s. is_none (phase_in ss s.r s.h)) (sessions_of a)) same.sessions ∙ none_gone (phase_in (sessions_of a)) (sessions_of a) stored;
  }
    where
      stored : AllByRecursion (IsStored (phase_in (sessions_of a))) (sessions_of a)
      stored = all_stored (sessions_of a) (sound_resumed a a.sites (omega arith) (sound_reached a is)).listed_once

      level : (r s : ℕ) (cell : Cell) → keeps_counter a.origin.site s cell ≡ true → known (after a call) r s cell ≤ known a r s cell
      level r s cell kept =
          let site : keeps_counter (after a call).origin.site s cell ≡ true = ap (λ (o : Origin). keeps_counter o.site s cell) (origin_after a call) ∙ kept in
          omega (
            arith,
            same.counters r s cell,
            kept_yes (after a call).origin (known (after a call)) r s cell site,
            kept_yes a.origin (known a) r s cell kept,
          )

pub put_law : (a : Account) → IsReached a → (call : Call) → put_cells (change_between a (after a call)).cells (durable_cells a) ≡ durable_cells (after a call)
put_law a is call = change_put a call is

pub empty_law : (a : Account) → IsReached a → (call : Call) → KeepTheSame (durable_part (after a call)) (durable_part a) → IsEmpty (change_between a (after a call))
empty_law a is call same = change_empty a call is same
