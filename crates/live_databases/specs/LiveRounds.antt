-- What the program does with a service in rounds over the database at a path: lines that have come are carried out one after the
-- other, their changes are committed together, and then they are answered (group commit; this project's own form).
use Rattle.std.specs.Prelude.{◌≡◌, ℕ, ◌<◌, ◌≤◌, ◌⊎◌, Bool, true, false, List, ◌++◌, length, Option, Ok, Err}
use Rattle.sqlite_trees.specs.declared.store.Store.{Ghosts as Device}
use Rattle.sqlite.specs.Held.{Held}
use Rattle.sqlite_disk.specs.declared.Disk as disk
use Rattle.sqlite_wal.specs.Recovery.{Image}
use Rattle.sqlite_store.specs.declared.store.FileStore.{FileStore}
use Rattle.sqlite.specs.Files.{over_files}
use Rattle.merge_core.specs.Layout.{LayoutState}
use Rattle.admission_model.specs.Account.{Account}
use Rattle.admission_model.specs.Restoring.{AreCells, AreSessions}
use Rattle.admission_core.specs.Kept.{DurableState}
use Rattle.durable_keeper.specs.declared.keeper.Keeper.{Ghosts}
use Rattle.desk_log.specs.Log.{begun}
use Rattle.layout_file.specs.declared.fault.LayoutFault.TheVariants.{NoSite}
use Rattle.exit_status.specs.declared.status.Status.{Status}
use Rattle.exit_status.specs.declared.status.Status.TheVariants.{Done, Usage, NoLayout, NoStore, Fault, Refused, Memory, Io}
use Rattle.line_conversation.specs.Turns.{Turn}
use Rattle.line_conversation.specs.declared.conversation.Conversation.{Ghosts as TalkGhosts}
use Rattle.serve_engine.specs.declared.marks.Marking.{Marking}
use Rattle.serve_engine.specs.Requests.{terms_of}
use Rattle.serve_engine.specs.Exchanges.{Exchange}
use Rattle.serve_engine.specs.Ending.{most_exchanges}
use Rattle.serve_engine.specs.Rounds.{AreBlocks, EndsInBlock, EndsServingTogether, HasServedTogether, Reaches, all_of}
use Rattle.site_store.specs.declared.error.ServedError.{ServedError}
use Rattle.site_store.specs.declared.sql.SqlKeeper.{SqlKeeper}
use Rattle.site_store.specs.Sql.{KeepsOutdated, below}
use Rattle.live_databases.specs.declared.service_end.ServiceEnd.{ServiceEnd}
use Rattle.live_databases.specs.declared.service_end.ServiceEnd.TheVariants.{Ended, Absent, NoLog, LogIsStore, Unlogged, Outdated}
use Rattle.live_databases.specs.Endings.{refused_store}
use Rattle.live_databases.specs.Services.{Served}
use Rattle.live_databases.specs.ServedStores.{OpensServed}
use Rattle.live_databases.specs.LiveStores.{IsUnopened}
use Rattle.live_databases.specs.LiveFound.{FindsFiles}

-- A site served these exchanges in rounds, from an account that begins with a durable part of this site, and perhaps began again
-- from one between them. Which parts these are, no contract can say of a file.
pub record ServedRounds (most : ℕ) (layout : LayoutState) (i : ℕ) (group : Option (List ℕ)) (marking : Marking) (frozen : Bool) (xs : List Exchange) : Type 0 where
  pub first : DurableState
  pub cells : AreCells layout i first.cells
  pub sessions : AreSessions layout i first.cells first.sessions
  pub earlier : List (List Exchange)
  pub last : List Exchange
  pub split : xs ≡ all_of earlier ++ last
  pub began : Account
  pub reached : Reaches ⊥ (terms_of layout group marking) layout i (begun layout i first) earlier began
  pub fault : Bool
  pub account : Account
  pub tried : Account
  pub served : HasServedTogether most (terms_of layout group marking) frozen began last fault account tried

module _ {C : Type 0} (t : TalkGhosts C) (most : ℕ) (layout : LayoutState) (i : ℕ) (group : Option (List ℕ)) (marking : Marking) where
  -- the conversation came to its end: round by round, the lines were heard, and then their answers told, and no answer was lost
  pub record TalksRoundsToEnd (frozen : Bool) (talk talk_after : C) : Type 0 where
    pub exchanges : List Exchange
    pub turns : List Turn
    pub blocks : AreBlocks most exchanges turns
    pub served : ServedRounds most layout i group marking frozen exchanges
    pub heard : t.took_place talk turns talk_after
    pub ended : t.has_ended talk_after
    pub whole : t.loses talk_after → t.loses talk

  -- the conversation failed: the last round is perhaps not complete
  pub record TalksRoundsInPart (talk talk_after : C) : Type 0 where
    pub frozen : Bool
    pub exchanges : List Exchange
    pub turns : List Turn
    pub last : EndsInBlock most exchanges turns
    pub served : ServedRounds most layout i group marking frozen exchanges
    pub heard : t.took_place talk turns talk_after
    pub why : t.has_failed talk_after ⊎ (most_exchanges ≤ length exchanges)

  -- the service by the status that its engine ended with
  abbrev pub EndsTalkRounds : C → C → Status → Type 0
  EndsTalkRounds talk talk_after Done = TalksRoundsToEnd false talk talk_after
  EndsTalkRounds talk talk_after Fault = TalksRoundsToEnd true talk talk_after
  EndsTalkRounds talk talk_after Io = TalksRoundsInPart talk talk_after
  EndsTalkRounds talk talk_after (NoStore refusal) = talk_after ≡ talk
  EndsTalkRounds talk talk_after (NoLayout fault) = (fault ≡ NoSite) × (talk_after ≡ talk)
  EndsTalkRounds talk talk_after Memory = talk_after ≡ talk
  EndsTalkRounds talk talk_after Refused = ⊥
  EndsTalkRounds talk talk_after Usage = ⊥

  -- The whole service over whatever database was found at a path. There is no such site; or the database is not served; or its
  -- store is refused: nothing was heard or told. It has no log.
  abbrev pub EndsLiveRounds : C → C → ServiceEnd → Type 0
  EndsLiveRounds talk talk_after (Ended (NoLayout fault)) = (fault ≡ NoSite) × (¬ (i < layout.sites)) × (talk_after ≡ talk)
  EndsLiveRounds talk talk_after (Ended status) = (i < layout.sites) × EndsTalkRounds talk talk_after status
  EndsLiveRounds talk talk_after (Absent absence) = (i < layout.sites) × (talk_after ≡ talk)
  EndsLiveRounds talk talk_after LogIsStore = ⊥
  EndsLiveRounds talk talk_after (NoLog refusal) = ⊥
  EndsLiveRounds talk talk_after Unlogged = ⊥
  EndsLiveRounds talk talk_after Outdated = ⊥

module _ {S C : Type 0} (g : Device S) where
  -- the store was opened, the site served its lines over it in rounds, and the database below is handed back
  pub record RoundsOpened (k : Ghosts (SqlKeeper S g)) (t : TalkGhosts C) (most : ℕ) (layout : LayoutState) (s : Served) (c after : Held S)
      (talk talk_after : C) (ended : ServiceEnd) : Type 0 where
    pub keeper : SqlKeeper S g
    pub made : Bool
    pub keeper_after : SqlKeeper S g
    pub status : Status
    pub opened : OpensServed g layout s c (Ok (keeper, made))
    pub ends : EndsServingTogether k KeepsOutdated t most layout s.site s.group s.marking keeper keeper_after talk talk_after status
    pub is_status : ended ≡ Ended status
    pub handed : after ≡ below keeper_after

  -- the store was refused: nothing was heard or told
  pub record RoundsRefused (layout : LayoutState) (s : Served) (c after : Held S) (talk talk_after : C) (ended : ServiceEnd) : Type 0 where
    pub error : ServedError
    pub opened : OpensServed g layout s c (Err (error, after))
    pub silent : talk_after ≡ talk
    pub is_refused : ended ≡ refused_store error

  -- one of the two
  abbrev pub RoundsOver : Ghosts (SqlKeeper S g) → TalkGhosts C → ℕ → LayoutState → Served → Held S → Held S → C → C → ServiceEnd → Type 0
  RoundsOver k t most layout s c after talk talk_after ended =
      RoundsOpened k t most layout s c after talk talk_after ended ⊎ RoundsRefused layout s c after talk talk_after ended

module _ {D : Type 0} {g : disk.Ghosts D} {C : Type 0} (k : Ghosts (SqlKeeper (FileStore D g) over_files)) (t : TalkGhosts C) (most : ℕ) (layout : LayoutState) (s : Served) where
  -- the service in rounds over the files that held this: they were not opened, or it ran over what they were recovered to
  abbrev pub EndsFoundRounds : Image → C → C → ServiceEnd → Type 0
  EndsFoundRounds image talk talk_after ended =
      ((talk_after ≡ talk) × IsUnopened s.permission.create ended)
      ⊎ ((c : Held (FileStore D g)) × ((after : Held (FileStore D g)) × (FindsFiles image c × RoundsOver over_files k t most layout s c after talk talk_after ended)))
