-- What is done with a service over a database.
use Rattle.std.specs.Prelude.{◌≡◌, ℕ, ◌⊎◌, Bool, false, List, Option, IsSome, Ok, Err}
use Rattle.sqlite_trees.specs.declared.store.Store.{Ghosts as Device}
use Rattle.sqlite.specs.Held.{Held}
use Rattle.merge_core.specs.Layout.{LayoutState}
use Rattle.admission_core.specs.Kept.{DurableState}
use Rattle.durable_keeper.specs.declared.error.KeeperError.{KeeperError}
use Rattle.durable_keeper.specs.declared.error.KeeperError.TheVariants as keeping
use Rattle.durable_keeper.specs.declared.keeper.Keeper.{Ghosts}
use Rattle.desk_log.specs.Desk.{Finds, KeepsOn}
use Rattle.log_file.specs.declared.file.SystemFile.{SystemFile}
use Rattle.log_file.specs.declared.hold.ExclusiveFile.{Ghosts as HoldGhosts}
use Rattle.log_file.specs.declared.refusal.LogError.{LogError}
use Rattle.log_file.specs.declared.refusal.LogError.TheVariants as logging
use Rattle.log_file.specs.Logged.{LogState}
use Rattle.log_file.specs.Opening.{IsOpenedLog}
use Rattle.site_store.specs.declared.error.ServedError.{ServedError}
use Rattle.site_store.specs.declared.sql.SqlKeeper.{SqlKeeper}
use Rattle.site_store.specs.Sql.{KeepsOutdated, below}
use Rattle.line_conversation.specs.declared.conversation.Conversation.{Ghosts as TalkGhosts}
use Rattle.live_site.specs.declared.call_log.CallLog.{Ghosts as LogGhosts}
use Rattle.exit_status.specs.declared.status.Status.{Status}
use Rattle.exit_status.specs.declared.status.Status.TheVariants.{Memory, NoStore}
use Rattle.exit_status.specs.declared.store_refusal.StoreRefusal.TheVariants.{StoreFault}
use Rattle.serve_engine.specs.Ending.{EndsServing}
use Rattle.live_databases.specs.declared.service_end.Absence.TheVariants as absence
use Rattle.live_databases.specs.declared.service_end.ServiceEnd.{ServiceEnd}
use Rattle.live_databases.specs.declared.service_end.ServiceEnd.TheVariants.{Ended, Absent, NoLog, LogIsStore, Unlogged}
use Rattle.live_databases.specs.Endings.{refused_store}
use Rattle.live_databases.specs.Services.{Served}
use Rattle.live_databases.specs.ServedStores.{OpensServed}

module _ {S C L : Type 0} (g : Device S) where
  -- the store was opened, the site served its lines over it, and the database below is handed back
  pub record ServesOpened (k : Ghosts (SqlKeeper S g)) (t : TalkGhosts C) (h : LogGhosts L) (layout : LayoutState) (s : Served) (c after : Held S)
      (talk talk_after : C) (log log_after : L) (ended : ServiceEnd) : Type 0 where
    pub keeper : SqlKeeper S g
    pub made : Bool
    pub keeper_after : SqlKeeper S g
    pub status : Status
    pub opened : OpensServed g layout s c (Ok (keeper, made))
    pub ends : EndsServing k KeepsOutdated t h layout s.site s.group s.marking keeper keeper_after talk talk_after log log_after status
    pub is_status : ended ≡ Ended status
    pub handed : after ≡ below keeper_after

  -- the store was refused: nothing was heard, told or logged
  pub record RefusesStore (layout : LayoutState) (s : Served) (c after : Held S) (talk talk_after : C) (log log_after : L) (ended : ServiceEnd) : Type 0 where
    pub error : ServedError
    pub opened : OpensServed g layout s c (Err (error, after))
    pub silent : talk_after ≡ talk
    pub unlogged : log_after ≡ log
    pub is_refused : ended ≡ refused_store error

  -- one of the two
  abbrev pub ServesOver : Ghosts (SqlKeeper S g) → TalkGhosts C → LogGhosts L → LayoutState → Served → Held S → Held S → C → C → L → L → ServiceEnd → Type 0
  ServesOver k t h layout s c after talk talk_after log log_after ended =
      ServesOpened k t h layout s c after talk talk_after log log_after ended
      ⊎ RefusesStore layout s c after talk talk_after log log_after ended

-- No file was opened: none is there, and none was to be made; its folder is missing; another process has it open; it is no
-- database; it failed, or memory ran out.
abbrev pub IsUnopened : Bool → ServiceEnd → Type 0
IsUnopened create (Ended Memory) = Unit {0}
IsUnopened create (Ended (NoStore StoreFault)) = Unit {0}
IsUnopened create (Absent absence.NoStore) = create ≡ false
IsUnopened create (Absent absence.NoFolder) = Unit {0}
IsUnopened create (Absent absence.InUse) = Unit {0}
IsUnopened create (Absent absence.NotAStore) = Unit {0}
IsUnopened create ended = ⊥

-- .. or the file that is named for the log is the store itself
abbrev pub IsUnserved : Option (List ℕ) → Bool → ServiceEnd → Type 0
IsUnserved log create ended = IsUnopened create ended ⊎ (IsSome log × (ended ≡ LogIsStore))

-- how a service ends whose store gives nothing back
abbrev pub unloaded_end : KeeperError → ServiceEnd
unloaded_end keeping.Memory = Ended Memory
unloaded_end keeping.StoreFault = Ended (NoStore StoreFault)

-- how it ends where its log is not opened
abbrev pub unlogged_end : LogError → ServiceEnd
unlogged_end logging.Memory = Ended Memory
unlogged_end (logging.Refused refusal) = NoLog refusal
unlogged_end logging.Io = Unlogged

module _ {S C : Type 0} (g : Device S) where
  -- the store was refused
  pub record RefusesLogged (layout : LayoutState) (s : Served) (c after : Held S) (talk talk_after : C) (made : Bool) (ended : ServiceEnd) : Type 0 where
    pub error : ServedError
    pub opened : OpensServed g layout s c (Err (error, after))
    pub silent : talk_after ≡ talk
    pub is_refused : ended ≡ refused_store error
    pub unmade : made ≡ false

  -- The store was opened and gave nothing back: nothing was heard or told, and the database below is handed back.
  pub record LoadsNothing (k : Ghosts (SqlKeeper S g)) (layout : LayoutState) (s : Served) (c after : Held S) (talk talk_after : C) (made : Bool) (ended : ServiceEnd) : Type 0 where
    pub keeper : SqlKeeper S g
    pub keeper_now : SqlKeeper S g
    pub opened : OpensServed g layout s c (Ok (keeper, made))
    pub keeps_on : KeepsOn k keeper keeper_now
    pub error : KeeperError
    pub fault : error ≡ keeping.StoreFault → k.faults_of keeper_now ≡ 1
    pub no_fault : error ≡ keeping.Memory → k.faults_of keeper_now ≡ 0
    pub silent : talk_after ≡ talk
    pub is_unloaded : ended ≡ unloaded_end error
    pub handed : after ≡ below keeper_now

module _ {S C F : Type 0} (g : Device S) (k : Ghosts (SqlKeeper S g)) (hold : HoldGhosts F) (remaining contents : F → Option (List ℕ)) where
  -- The store was opened and gave back what it kept, and no log was opened for that: nothing was heard or told, and the
  -- database below is handed back.
  pub record LogsNothing (layout : LayoutState) (s : Served) (c after : Held S) (talk talk_after : C) (made : Bool) (ended : ServiceEnd) : Type 0 where
    pub keeper : SqlKeeper S g
    pub keeper_now : SqlKeeper S g
    pub opened : OpensServed g layout s c (Ok (keeper, made))
    pub keeps_on : KeepsOn k keeper keeper_now
    pub first : DurableState
    pub loaded : Finds k keeper keeper_now (λ d. first ≡ d)
    pub error : LogError
    pub not_opened : IsOpenedLog hold remaining contents layout s.site first (Err error)
    pub silent : talk_after ≡ talk
    pub is_unlogged : ended ≡ unlogged_end error
    pub handed : after ≡ below keeper_now

  -- the store was opened and gave back what it kept, a log was opened for that, and the site served its lines over both
  pub record LogsOpened (t : TalkGhosts C) (h : LogGhosts (LogState (SystemFile F))) (layout : LayoutState) (s : Served) (c after : Held S)
      (talk talk_after : C) (made : Bool) (ended : ServiceEnd) : Type 0 where
    pub keeper : SqlKeeper S g
    pub keeper_now : SqlKeeper S g
    pub keeper_after : SqlKeeper S g
    pub opened : OpensServed g layout s c (Ok (keeper, made))
    pub keeps_on : KeepsOn k keeper keeper_now
    pub first : DurableState
    pub loaded : Finds k keeper keeper_now (λ d. first ≡ d)
    pub log : LogState (SystemFile F)
    pub log_opened : IsOpenedLog hold remaining contents layout s.site first (Ok log)
    pub log_after : LogState (SystemFile F)
    pub status : Status
    pub ends : EndsServing k KeepsOutdated t h layout s.site s.group s.marking keeper_now keeper_after talk talk_after log log_after status
    pub is_status : ended ≡ Ended status
    pub handed : after ≡ below keeper_after

  -- one of the four
  abbrev pub LogsOver : TalkGhosts C → LogGhosts (LogState (SystemFile F)) → LayoutState → Served → Held S → Held S → C → C → Bool → ServiceEnd → Type 0
  LogsOver t h layout s c after talk talk_after made ended =
      LogsOpened t h layout s c after talk talk_after made ended
      ⊎ LogsNothing layout s c after talk talk_after made ended
      ⊎ LoadsNothing g k layout s c after talk talk_after made ended
      ⊎ RefusesLogged g layout s c after talk talk_after made ended
