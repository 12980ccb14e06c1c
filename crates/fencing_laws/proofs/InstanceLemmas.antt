-- The premises of the laws are met, and where a thin message is not well told.
use Rattle.std.proofs.Common.{◌≡◌, ◌≢◌, ℕ, zero, suc, ◌+◌, ◌<◌, ◌≤◌, ◌⊎◌, inl, List, [], ◌∷◌, ◌++◌, Some, refl, subst, arith}
use Rattle.std.specs.Prelude.{IsTrue, slice_get, slice_index_or}
use Rattle.std.proofs.lemmas.Option.{same_Some}
use Rattle.merge_core.specs.Counts.{counter_limit}
use Rattle.merge_core.specs.declared.cell.Cell.TheVariants.{Out}
use Rattle.merge_core.specs.declared.layout.RecordSpec.{RecordSpec}
use Rattle.merge_core.specs.Delta.{DeltaState}
use Rattle.merge_core.specs.Layout.{IsLayout, has_good_name}
use Rattle.admission_model.specs.Account.{own}
use Rattle.multi_site_world.specs.declared.event.Event.{Event}
use Rattle.multi_site_world.specs.declared.event.Event.TheVariants.{Take}
use Rattle.multi_site_world.specs.World.{World, account_at}
use Rattle.multi_site_world.specs.Laws.{IsReachedWorld}
use Rattle.multi_site_world.specs.Examples.{small_layout}
use Rattle.rebuild_laws.proofs.RebuildLaw.{rebuilt_from}
use Rattle.fencing_laws.specs.Fences.{KnowsFinished, AreWellTold}
use Rattle.fencing_laws.specs.Resource.{IsTokenOf, WasTaken, IsTakenBeside}
use Rattle.fencing_laws.specs.Entering.{WaitsToEnter}
use Rattle.fencing_laws.specs.Examples.{first_writer, first_message, second_message_sent, taken_whole, taken_thin, both_taken, two_readers, writers_wait, after_events, reader_with}

-- what is true of the one element of a list is true of each
of_one : (P : RecordSpec → Type 0) (x : RecordSpec) → P x → (k : ℕ) (d : RecordSpec) → k < 1 → P (slice_index_or (x ∷ []) k d)
of_one P x here zero d below = here
of_one P x here (suc k) d below = absurd (omega arith)

abbrev only_record : ℕ → ℕ → RecordSpec
only_record seats problem = record { name = 97 ∷ []; seats = seats; home = 0; problem = problem }

pub layout_of_one : (sites seats problem : ℕ) → 1 ≤ sites → sites ≤ 16 → 1 ≤ seats → seats ≤ 65535 → (problem ≡ 1) ⊎ (problem ≡ 2) → IsLayout (small_layout sites seats problem)
layout_of_one sites seats problem some few least most which = record {
  some_sites = some;
  few_sites = few;
  some_records = omega arith;
  few_records = omega arith;
  names = of_one (λ p. IsTrue (has_good_name p)) (only_record seats problem) refl;
  apart = refl;
  seats = of_one (λ p. (1 ≤ p.seats) × (p.seats ≤ 65535)) (only_record seats problem) (least, most);
  homes = of_one (λ p. p.home < sites) (only_record seats problem) (omega (arith, some));
  problems = of_one (λ p. (p.problem ≡ 1) ⊎ (p.problem ≡ 2)) (only_record seats problem) which;
}

small_is_layout : IsLayout (small_layout 3 2 1)
small_is_layout = layout_of_one 3 2 1 (omega arith) (omega arith) (omega arith) (omega arith) (inl refl)

pub reached : (events : List Event) → IsReachedWorld (after_events events)
reached events = record { whole = small_layout 3 2 1; is_layout = small_is_layout; first = 3; events = events; reached = refl }

pub whole_well : AreWellTold taken_whole (after_events first_writer)
whole_well = (tt, (tt, (tt, (tt, (tt, (tt, (tt, (tt, (tt, tt)))))))))

-- site 2 took the first message
abbrev took_first : World
took_first = after_events (second_message_sent ++ Take 2 0 ∷ [])

pub both_well : AreWellTold both_taken (after_events first_writer)
both_well = (tt, (tt, (tt, (tt, (tt, (tt, (tt, (thin, (tt, (tt, tt))))))))))
  where
    thin : (earlier : DeltaState) → slice_get took_first.sent 0 ≡ Some earlier → KnowsFinished (account_at took_first 2) earlier.rows
    thin earlier e = subst (λ (d : DeltaState). KnowsFinished (account_at took_first 2) d.rows) (same_Some first_message earlier e) (omega arith, tt)

pub thin_not_well : ¬ AreWellTold taken_thin (after_events first_writer)
thin_not_well well = let fact : 1 ≤ 0 = (well.1.1.1.1.1.1.0 first_message refl).0 in absurd (omega (arith, fact))

pub token : IsTokenOf (after_events two_readers) 0 1 8 (reader_with 0)
token = record { there = omega arith; inside = refl; number = refl }

other_token : IsTokenOf (after_events two_readers) 0 0 7 (reader_with 1)
other_token = record { there = omega arith; inside = refl; number = refl }

pub beside : IsTakenBeside 0 1 8 (reader_with 0) (reader_with 1)
beside = record {
  world = after_events two_readers;
  reached = rebuilt_from (after_events two_readers) (reached two_readers);
  site = 0;
  holder = 7;
  taken = other_token;
  there = omega arith;
  inside = refl;
  other = λ same. absurd (omega (arith, same.0));
}

pub taken : WasTaken (after_events two_readers) 0 (reader_with 1)
taken = record { world = after_events two_readers; reached = rebuilt_from (after_events two_readers) (reached two_readers); site = 0; holder = 7; taken = other_token; events = []; well = tt; leads = refl }

pub waits : WaitsToEnter (after_events writers_wait) 0 2 6
waits = record { there = omega arith; waits = refl; room = omega arith; room_to_give = to_give }
  where
    to_give : (i : ℕ) → i < 3 → i ≢ 2 → own (account_at (after_events writers_wait) i) 0 (Out 2) + 2 ≤ counter_limit
    to_give zero below apart = omega arith
    to_give (suc zero) below apart = omega arith
    to_give (suc (suc zero)) below apart = absurd (apart refl)
    to_give (suc (suc (suc i))) below apart = absurd (omega arith)
