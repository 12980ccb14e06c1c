use Rattle.std.proofs.Common.{ℕ, List, [], ◌<◌, length, get_or}
use Rattle.merge_core.specs.declared.delta.Row.{Row}
use Rattle.admission_model.specs.Account.{Account}
use Rattle.log_judge.specs.Excess.{NoneAhead}
use Rattle.log_judge.specs.Stream.{AreNotAhead, AreTaken, TellAll}
use Rattle.log_judge.proofs.stream.first_taken.Given as goal

abbrev pub invariant-taken : goal.invariant-taken
invariant-taken l = record {
  none : AreNotAhead l.tables l.rest → AreNotAhead l.tables l.taken;
  found : (accounts : ℕ → Account) (lists : List (List Row)) (to : ℕ) → AreTaken accounts lists 0 to l.taken → TellAll l.tables accounts
      → (from : ℕ) × AreTaken accounts lists from to l.rest × ((k : ℕ) → k < from → NoneAhead l.tables (get_or lists k []));
}

abbrev pub decreases-taken : goal.decreases-taken
decreases-taken l = length l.rest
