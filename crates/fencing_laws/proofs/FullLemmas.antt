-- A reached world in which a counter is too full: at the one site of a layout a reader came and left again and again.
use Rattle.std.proofs.Common.{◌≡◌, ℕ, zero, suc, ◌+◌, ◌<◌, ◌≤◌, List, [], ◌∷◌, ◌++◌, refl, sym, ap, ◌∙◌, arith, inl, None, is_some}
use Rattle.std.proofs.lemmas.Bool.{le-ltb, lt-leb, ne_eqb}
use Rattle.merge_core.specs.Counts.{counter_limit}
use Rattle.merge_core.specs.declared.cell.Cell.TheVariants.{Out, Taken, Ann, Fin}
use Rattle.merge_core.specs.Layout.{LayoutState, IsLayout}
use Rattle.admission_model.specs.declared.ask.Ask.TheVariants.{Read, Announce, Leave}
use Rattle.admission_model.specs.declared.ask.Call.TheVariants.{Ask as AskCall}
use Rattle.admission_model.specs.declared.operation.Operation.{Operation}
use Rattle.admission_model.specs.declared.operation.Operation.TheVariants.{EnteredRead, AnnouncedWriter, LeftRecord}
use Rattle.admission_model.specs.Account.{Account, start_origin, own, phase_of}
use Rattle.admission_model.specs.View.{view_of, rights_of}
use Rattle.admission_model.specs.Replies.{read_lines, announce_lines, leave_lines}
use Rattle.admission_model.specs.Serving.{advanced, unless_refused, after}
use Rattle.admission_model.proofs.CounterLemmas.{does}
use Rattle.admission_model.proofs.ServingLemmas.{first_reason-none}
use Rattle.multi_site_world.specs.declared.event.Event.{Event}
use Rattle.multi_site_world.specs.declared.event.Event.TheVariants.{Call}
use Rattle.multi_site_world.specs.World.{World, start_world, run}
use Rattle.multi_site_world.specs.Examples.{small_layout}
use Rattle.fencing_laws.specs.Examples.{IsFilled}
use Rattle.rebuild_laws.proofs.TellingLemmas.{run_append}
use Rattle.fencing_laws.proofs.InstanceLemmas.{layout_of_one}

abbrev one_site : LayoutState
one_site = small_layout 1 1 1

-- what the site did in so many rounds
abbrev done_in : ℕ → List Operation
done_in zero = []
done_in (suc n) = LeftRecord 0 1 ∷ (EnteredRead 0 1 ∷ done_in n)

abbrev used : ℕ → Account
used n = record { origin = start_origin one_site 0; sites = 1; done = done_in n; heard = [] }

abbrev with_site : Account → World
with_site a = record { layout = one_site; sites = a ∷ []; sent = [] }

abbrev one_round : List Event
one_round = Call 0 (Read 0 1) ∷ (Call 0 (Leave 0 1) ∷ [])

abbrev rounds : ℕ → List Event
rounds zero = []
rounds (suc n) = rounds n ++ one_round

taken_in : (n : ℕ) → own (used n) 0 Taken ≡ n
taken_in zero = refl
taken_in (suc n) = omega (arith, taken_in n)

given_back : (n : ℕ) → own (used n) 0 (Out 0) ≡ n + 1
given_back zero = refl
given_back (suc n) = omega (arith, given_back n)

announced_in : (n : ℕ) → own (used n) 0 Ann ≡ 0
announced_in zero = refl
announced_in (suc n) = omega (arith, announced_in n)

finished_in : (n : ℕ) → own (used n) 0 Fin ≡ 0
finished_in zero = refl
finished_in (suc n) = omega (arith, finished_in n)

no_reader : (n : ℕ) → phase_of (used n) 0 1 ≡ None
no_reader zero = refl
no_reader (suc n) = refl

no_writer : (n : ℕ) → phase_of (used n) 0 5 ≡ None
no_writer zero = refl
no_writer (suc n) = no_writer n

one_right : (n : ℕ) → rights_of (view_of (used n)) 0 ≡ 1
one_right n = omega (arith, taken_in n, given_back n)

reads : (n : ℕ) → n < counter_limit → after (used n) (AskCall (Read 0 1)) ≡ does (EnteredRead 0 1) (used n)
reads n less =
    ap (λ o. unless_refused o (used n) (advanced (used n) (AskCall (Read 0 1))))
    (first_reason-none (read_lines (view_of (used n)) 0 1)
    (refl, (refl, (ap is_some (no_reader n), (le-ltb counter_limit (own (used n) 0 Taken + 1) (omega (arith, taken_in n, less)), (refl, (ne_eqb (rights_of (view_of (used n)) 0) 0 (λ e. absurd (omega (arith, e, one_right n))), tt)))))))

leaves : (n : ℕ) → after (does (EnteredRead 0 1) (used n)) (AskCall (Leave 0 1)) ≡ used (suc n)
leaves n =
    ap (λ o. unless_refused o (does (EnteredRead 0 1) (used n)) (advanced (does (EnteredRead 0 1) (used n)) (AskCall (Leave 0 1))))
    (first_reason-none (leave_lines (view_of (does (EnteredRead 0 1) (used n))) 0 1) (refl, (refl, (refl, tt))))

announces : (n : ℕ) → after (used n) (AskCall (Announce 0 5)) ≡ does (AnnouncedWriter 0 5) (used n)
announces n =
    ap (λ o. unless_refused o (used n) (advanced (used n) (AskCall (Announce 0 5))))
    (first_reason-none (announce_lines (view_of (used n)) 0 5)
    (refl, (refl, (ap is_some (no_writer n), (le-ltb counter_limit (own (used n) 0 Ann + 1) (omega (arith, announced_in n)), (lt-leb (own (used n) 0 Fin + 64) (own (used n) 0 Ann) (omega (arith, announced_in n, finished_in n)), tt))))))

round : (n : ℕ) → n < counter_limit → run one_round (with_site (used n)) ≡ with_site (used (suc n))
round n less = ap (λ a. with_site (after a (AskCall (Leave 0 1)))) (reads n less) ∙ ap with_site (leaves n)

all_rounds : (n : ℕ) → n ≤ counter_limit → run (rounds n) (start_world 1 one_site) ≡ with_site (used n)
all_rounds zero few = refl
all_rounds (suc n) few =
    run_append (rounds n) one_round (start_world 1 one_site) ∙ (ap (run one_round) (all_rounds n (omega (arith, few))) ∙ round n (omega (arith, few)))

one_site_is_layout : IsLayout one_site
one_site_is_layout = layout_of_one 1 1 1 (omega arith) (omega arith) (omega arith) (omega arith) (inl refl)

filled_by : (n : ℕ) → n ≡ counter_limit → IsFilled
filled_by n most = record {
  world = with_site (does (AnnouncedWriter 0 5) (used n));
  reached = record {
    whole = one_site;
    is_layout = one_site_is_layout;
    first = 1;
    events = rounds n ++ Call 0 (Announce 0 5) ∷ [];
    reached = is_reached;
  };
  there = omega arith;
  waits = refl;
  full = omega (arith, most, taken_in n);
}
  where
    is_reached : with_site (does (AnnouncedWriter 0 5) (used n)) ≡ run (rounds n ++ Call 0 (Announce 0 5) ∷ []) (start_world 1 one_site)
    is_reached =
        sym (run_append (rounds n) (Call 0 (Announce 0 5) ∷ []) (start_world 1 one_site)
        ∙ (ap (run (Call 0 (Announce 0 5) ∷ [])) (all_rounds n (omega (arith, most))) ∙ ap with_site (announces n)))

pub filled : IsFilled
filled = filled_by counter_limit refl
