-- The parts of one call. For private clauses.
use Rattle.std.specs.Prelude.{◌≡◌, ◌⊎◌, Bool, true, false, List, ◌∷◌, [], ◌++◌, Result, Ok, Err}
use Rattle.admission_model.specs.declared.reply.Reply.{Reply}
use Rattle.admission_model.specs.declared.reply.Reply.TheVariants.{Refused}
use Rattle.admission_core.specs.Kept.{DurableState, ChangeState}
use Rattle.durable_keeper.specs.declared.keeper.Keeper.{Ghosts as KeeperGhosts}
use Rattle.durable_keeper.specs.declared.error.KeeperError.{KeeperError}
use Rattle.durable_keeper.specs.declared.error.KeeperError.TheVariants as keeping
use Rattle.desk_log.specs.Desk.{KeepsChange}
use Rattle.desk_log.specs.declared.entry.Entry.{Entry}
use Rattle.live_site.specs.declared.call_log.CallLog.{Ghosts}
use Rattle.live_site.specs.declared.call_log.LogFault.{LogFault}
use Rattle.live_site.specs.declared.call_log.LogFault.TheVariants as fault
use Rattle.live_site.specs.declared.live_site.Outcome.{Outcome}
use Rattle.live_site.specs.declared.live_site.Outcome.TheVariants as outcome

-- the reply is a refusal
abbrev pub is_refused : Reply → Bool
is_refused (Refused x) = true
is_refused _ = false

-- how a log's fault is told
abbrev pub unlogged : LogFault → Outcome
unlogged fault.Memory = outcome.Memory
unlogged fault.Failed = outcome.LogFailed

module _ {L : Type 0} where
  -- the last entry was taken back
  abbrev pub TakesBack : Ghosts L → L → L → Type 0
  TakesBack h old new = (first : L) (before : List Entry) (last : Entry) → h.took first (before ++ last ∷ []) old → h.took first before new

  -- what is told where a change was not kept, and what the log did
  abbrev pub IsNotKept : Ghosts L → L → L → KeeperError → Outcome → Type 0
  IsNotKept h old new keeping.StoreFault told = (told ≡ outcome.StoreFault) × (new ≡ old)
  IsNotKept h old new keeping.Memory told = ((told ≡ outcome.Memory) × TakesBack h old new) ⊎ ((told ≡ outcome.LogFailed) × h.has_failed new)

-- what a keeper keeps behind the mark that its store is outdated: with it, without it after want of memory, and perhaps
-- with it after a fault; what else it kept stays
module _ {K : Type 0} where
  pub record HasMarked (g : KeeperGhosts K) (m : K → Type 0) (old new : K) : Type 0 where
    pub keeps : (d : DurableState) → g.keeps old d → g.keeps new d
    pub marked : (d : DurableState) → g.keeps old d → m new
    pub no_fault : g.faults_of new ≡ 0

  pub record HasNotMarked (g : KeeperGhosts K) (old new : K) : Type 0 where
    pub keeps : (d : DurableState) → g.keeps old d → g.keeps new d
    pub no_fault : g.faults_of new ≡ 0

  pub record MayHaveMarked (g : KeeperGhosts K) (old new : K) : Type 0 where
    pub keeps : (d : DurableState) → g.keeps old d → g.keeps new d
    pub told : g.faults_of new ≡ 1

  abbrev pub KeepsMark : KeeperGhosts K → (K → Type 0) → K → K → Result (Unit {0}) KeeperError → Type 0
  KeepsMark g m old new (Ok _) = HasMarked g m old new
  KeepsMark g m old new (Err keeping.Memory) = HasNotMarked g old new
  KeepsMark g m old new (Err keeping.StoreFault) = MayHaveMarked g old new

  -- what is kept of a call: the mark where its reply shows that the store is outdated, and else its change
  abbrev pub KeepsCall : KeeperGhosts K → (K → Type 0) → Bool → K → K → ChangeState → Result (Unit {0}) KeeperError → Type 0
  KeepsCall g m true old new change result = KeepsMark g m old new result
  KeepsCall g m false old new change result = KeepsChange g old new change result
