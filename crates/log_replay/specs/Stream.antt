-- Replaying a site's entries as they come, whatever comes behind them: of all runs of the site, these entries of the last
-- run that has begun, and these runs, are still to come (this project's own).
use Rattle.std.specs.Prelude.{◌≡◌, ◌≢◌, ◌↔◌, IsTrue, ℕ, ◌+◌, ◌<◌, ◌≤◌, Bool, List, [], ◌∷◌, ◌++◌, length, true, false, if◌then◌else◌, Option, None, Some, Vec}
use Rattle.std.specs.Global.{Global}
use Rattle.merge_core.specs.declared.delta.Row.{Row}
use Rattle.merge_core.specs.Layout.{LayoutState, at_sites}
use Rattle.admission_model.specs.declared.ask.Call.TheVariants.{Snapshot}
use Rattle.admission_model.specs.declared.reply.Reply.TheVariants.{Snapshot as SnapshotReply}
use Rattle.admission_model.specs.Account.{Account, start_origin}
use Rattle.admission_model.specs.Merging.{snapshot_of}
use Rattle.admission_model.specs.Serving.{after, reply_of}
use Rattle.admission_model.specs.View.{view_of}
use Rattle.admission_core.specs.Core.{Core, Stands, core_view}
use Rattle.desk_log.specs.declared.entry.Entry.{Entry}
use Rattle.desk_log.specs.declared.transcript.Run.{Run}
use Rattle.desk_log.specs.Log.{is_fault}
use Rattle.log_replay.specs.declared.stream.LogFault.{LogFault}
use Rattle.log_replay.specs.declared.stream.LogFault.TheVariants.{BadJoint, BadReply}
use Rattle.log_replay.specs.declared.stream.Stage.{Stage}
use Rattle.log_replay.specs.declared.stream.Stage.TheVariants.{Fresh, Open, Ended}
use Rattle.log_replay.specs.declared.stream.SiteReplay.{SiteReplay}
use Rattle.log_replay.specs.Legal.{started, was_kept, Begins, IsBadJoint, IsBadReply, first_sites, start_account, account_at}
use Rattle.log_replay.specs.Replay.{IsPath, IsWay, IsEnd, TellsOwn}

-- how many entries runs have together
abbrev pub count_of : List Run → ℕ
count_of [] = 0
count_of (run ∷ later) = length run.entries + count_of later

-- the first fault of runs
abbrev pub IsFaultOf : LayoutState → ℕ → List Run → LogFault → Type 0
IsFaultOf layout i runs BadJoint = IsBadJoint layout i (start_account layout i runs) runs
IsFaultOf layout i runs (BadReply at) = IsBadReply layout i (start_account layout i runs) runs at

-- A run has begun, behind so many entries: its first ones are answered as in the model, and then one may be in doubt.
pub record IsInRun (layout : LayoutState) (i : ℕ) (runs : List Run) (more : List Entry) (later : List Run) (core : Core) (left : List Entry) (at : ℕ) : Type 0 where
  pub account : Account
  pub run : Run
  pub flags : List Bool
  pub before : ℕ
  pub origin : account.origin ≡ start_origin (at_sites (first_sites layout runs) layout) i
  pub path : IsPath layout i (start_account layout i runs) runs flags before account (run ∷ later)
  pub begins : Begins layout i account run
  pub n : ℕ
  pub reached : Account
  pub way : IsWay (started account run) run.entries n reached (left ++ more)
  pub stands : Stands reached core
  pub ends : IsEnd reached left
  pub number : at ≡ (before + n) + length left

-- how far the replay has come
abbrev pub IsStage : LayoutState → ℕ → List Run → List Entry → List Run → ℕ → Stage → Type 0
IsStage layout i runs more later at Fresh = (more ≡ []) × ((later ≡ runs) × (at ≡ 0))
IsStage layout i runs more later at (Open core left) = IsInRun layout i runs more later core left.items at
IsStage layout i runs more later at (Ended fault) = IsFaultOf layout i runs fault

-- the entry in doubt, if the last one is
abbrev pub left_of : Stage → List Entry
left_of Fresh = []
left_of (Open core left) = left.items
left_of (Ended fault) = []

-- the stage behind an entry, which ends at a fault, if there is one
abbrev pub stage_or : Stage → Option LogFault → Stage
stage_or stage None = stage
stage_or stage (Some fault) = Ended fault

-- the same where a run is open
abbrev pub stage_behind : Core → Vec Entry Global → Option LogFault → Stage
stage_behind core left fault = stage_or (Open core left) fault

-- the replay has ended at a fault
abbrev pub HasEnded : Stage → Type 0
HasEnded Fresh = ⊥
HasEnded (Open core left) = ⊥
HasEnded (Ended fault) = Unit {0}

-- what an entry whose reply is not the model's makes of a run
abbrev pub IsDoubted : Account → Entry → Stage → Type 0
IsDoubted a e Fresh = ⊥
IsDoubted a e (Open core left) = IsEnd a (e ∷ []) × Stands a core
IsDoubted a e (Ended fault) = ¬ IsEnd a (e ∷ [])

-- it is kept, or the run ends there
abbrev pub IsDoubtKept : Entry → ℕ → Stage → Type 0
IsDoubtKept e at Fresh = ⊥
IsDoubtKept e at (Open core left) = left.items ≡ e ∷ []
IsDoubtKept e at (Ended fault) = fault ≡ BadReply at

-- an entry is handed back where its reply is the model's, and else kept as the one in doubt, or the run ends there
abbrev pub IsHandedBack : Entry → Stage → Option Entry → Type 0
IsHandedBack e (Open core left) (Some x) = (x ≡ e) × ((left.items ≡ []) × (is_fault e.reply ≡ false))
IsHandedBack e (Open core left) None = left.items ≡ e ∷ []
IsHandedBack e Fresh x = x ≡ None
IsHandedBack e (Ended fault) x = x ≡ None

-- a core has carried an entry out, and this tells whether its reply is the model's
pub record CarriesOut (old new : Core) (e : Entry) (ok : Bool) : Type 0 where
  pub tells : (a : Account) → Stands a old → IsTrue ok ↔ (e.reply ≡ reply_of (view_of a) e.call)
  pub plain : ok ≡ true → is_fault e.reply ≡ false
  pub stands : (a : Account) → Stands a old → Stands (if is_fault e.reply then a else after a e.call) new

-- a stage has tried an entry: its core has carried it out, unless a call is in doubt there or no run is open
abbrev pub IsTried : Stage → Entry → Bool → Stage → Type 0
IsTried Fresh e ok new = (ok ≡ false) × (new ≡ Fresh)
IsTried (Ended fault) e ok new = (ok ≡ false) × (new ≡ Ended fault)
IsTried (Open core left) e ok Fresh = ⊥
IsTried (Open core left) e ok (Ended fault) = ⊥
IsTried (Open core left) e ok (Open new after) =
    (after.items ≡ left.items) × ((left.items ≡ [] → CarriesOut core new e ok) × (left.items ≢ [] → (ok ≡ false) × (new ≡ core)))

-- a run has begun with this core, and no call is in doubt
abbrev pub IsClear : Core → Stage → Type 0
IsClear c Fresh = ⊥
IsClear c (Open core left) = (core ≡ c) × (left.items ≡ [])
IsClear c (Ended fault) = ⊥

-- an entry asks for a snapshot, and is answered by the one that the core makes
abbrev pub IsShownBy : Core → Entry → Type 0
IsShownBy core e = (e.call ≡ Snapshot) × (e.reply ≡ SnapshotReply (snapshot_of (core_view core)))

-- A run is followed by these. Its last entry is in doubt, is the one in front of so many, and is carried out where it is
-- among those that were kept.
pub record IsSettled (layout : LayoutState) (i : ℕ) (runs next : List Run) (at : ℕ) (d : Entry) (kept : List Entry) : Type 0 where
  pub account : Account
  pub run : Run
  pub flags : List Bool
  pub before : ℕ
  pub path : IsPath layout i (start_account layout i runs) runs flags before account (run ∷ next)
  pub n : ℕ
  pub reached : Account
  pub way : IsWay (started account run) run.entries n reached (d ∷ [])
  pub number : at ≡ (before + n) + 1
  pub fault : is_fault d.reply ≡ true
  pub is_kept : kept ≡ (if was_kept account run next then d ∷ [] else [])

-- The cut is not behind yet, or these are the own rows there.
abbrev pub IsMarkedAt : LayoutState → ℕ → List Run → Option ℕ → ℕ → Option (List Row) → Type 0
IsMarkedAt layout i runs None at None = Unit {0}
IsMarkedAt layout i runs (Some cut) at None = at ≤ cut
IsMarkedAt layout i runs None at (Some rows) = ⊥
IsMarkedAt layout i runs (Some cut) at (Some rows) =
    (cut < at) × TellsOwn (length layout.records) rows (account_at (start_account layout i runs) cut runs)

-- what is known of a site of which these entries and runs are still to come
pub record IsReplaying (layout : LayoutState) (i : ℕ) (runs : List Run) (more : List Entry) (later : List Run) (it : SiteReplay) : Type 0 where
  pub stage : IsStage layout i runs more later it.at it.stage
  pub mark : (¬ HasEnded it.stage) → IsMarkedAt layout i runs it.cut it.at it.own
  pub entries : it.at + (length more + count_of later) ≡ count_of runs
  pub run_number : it.runs + length later ≡ length runs

-- the length of a cut at runs: without one, all their entries
abbrev pub length_by : Option ℕ → ℕ → ℕ
length_by None all = all
length_by (Some cut) all = cut
