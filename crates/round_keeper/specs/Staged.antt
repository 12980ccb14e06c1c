-- A keeper whose changes wait, as contracts see it (group commit; this project's own words).
use Rattle.std.specs.Prelude.{◌≡◌, Bool, List, All}
use Rattle.admission_core.specs.Kept.{DurableState, ChangeState}
use Rattle.durable_keeper.specs.Keeping.{IsChange}
use Rattle.durable_keeper.specs.declared.keeper.Keeper.{Ghosts}
use Rattle.round_keeper.specs.Rounds.{changed_all}

-- the keeper below, the changes that wait, the first one first, and whether a mark was refused
pub record StagedState (K : Type 0) : Type 0 where
  pub keeper : K
  pub changes : List ChangeState
  pub mark_due : Bool

module _ {K : Type 0} where
  -- each change that waits is one that the keeper below may be told
  abbrev pub AreChanges : Ghosts K → K → List ChangeState → Type 0
  AreChanges g k cs = All (IsChange (g.layout k) (g.site k)) cs

  -- what is kept once the changes are made: the base, which the keeper below keeps, with these changes; that keeper has told
  -- no fault
  pub record KeepsStaged (g : Ghosts K) (base : DurableState) (s : StagedState K) (d : DurableState) : Type 0 where
    pub sound : g.faults_of s.keeper ≡ 0
    pub kept : g.keeps s.keeper base
    pub made : d ≡ changed_all s.changes base
