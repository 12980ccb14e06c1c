-- What a service found at a path, by what the files there held (the project's own). Which files stand at a path no contract
-- can say.
use Rattle.std.specs.Prelude.{◌≡◌, ℕ, ◌⊎◌, Bool, false, List, Option, None, Some}
use Rattle.sqlite_disk.specs.declared.Disk as disk
use Rattle.sqlite_wal.specs.Recovery.{Image}
use Rattle.sqlite_store.specs.declared.store.FileStore.{FileStore}
use Rattle.sqlite.specs.State.{HasCleanDisk}
use Rattle.sqlite.specs.Held.{Held, IsNew}
use Rattle.sqlite.specs.Start.{FindsIn}
use Rattle.sqlite.specs.Files.{IsOpened, file_state, over_files}
use Rattle.merge_core.specs.Layout.{LayoutState}
use Rattle.durable_keeper.specs.declared.keeper.Keeper.{Ghosts}
use Rattle.site_store.specs.declared.sql.SqlKeeper.{SqlKeeper}
use Rattle.line_conversation.specs.declared.conversation.Conversation.{Ghosts as TalkGhosts}
use Rattle.live_site.specs.declared.call_log.CallLog.{Ghosts as LogGhosts}
use Rattle.log_file.specs.declared.file.SystemFile.{SystemFile}
use Rattle.log_file.specs.declared.hold.ExclusiveFile.{Ghosts as HoldGhosts}
use Rattle.log_file.specs.Logged.{LogState}
use Rattle.exit_status.specs.declared.status.Status.TheVariants.{Memory}
use Rattle.live_databases.specs.declared.service_end.ServiceEnd.{ServiceEnd}
use Rattle.live_databases.specs.declared.service_end.ServiceEnd.TheVariants.{Ended, LogIsStore}
use Rattle.live_databases.specs.LiveStores.{IsUnserved, LogsOver, ServesOver}
use Rattle.live_databases.specs.Services.{Served}

module _ {D : Type 0} {g : disk.Ghosts D} where
  -- a connection that was just opened over files that held this: it sees the database that they are recovered to, as long as
  -- the device gives back what was written
  pub record FindsFiles (image : Image) (c : Held (FileStore D g)) : Type 0 where
    pub fresh : IsNew c
    pub opened : HasCleanDisk (file_state c) → IsOpened c
    pub found : HasCleanDisk (file_state c) → FindsIn image (file_state c)

  module _ {C L F : Type 0} (k : Ghosts (SqlKeeper (FileStore D g) over_files)) (hold : HoldGhosts F) (remaining contents : F → Option (List ℕ))
      (t : TalkGhosts C) (n : LogGhosts L) (h : LogGhosts (LogState (SystemFile F))) (layout : LayoutState) (s : Served) where
    -- A service over a database, by the file that is named for its log. Without one it ran without a log, and this call removes no
    -- store. With one it ran over that log; or the file is the store itself, or memory ran out over that question, and nothing was
    -- heard, told or changed.
    abbrev pub RunsOver : Option (List ℕ) → Held (FileStore D g) → Held (FileStore D g) → C → C → Bool → ServiceEnd → Type 0
    RunsOver None c after talk talk_after made ended =
        (made ≡ false) × ((log log_after : L) × ServesOver over_files k t n layout s c after talk talk_after log log_after ended)
    RunsOver (Some path) c after talk talk_after made ended =
        LogsOver over_files k hold remaining contents t h layout s c after talk talk_after made ended
        ⊎ ((after ≡ c) × (talk_after ≡ talk) × (made ≡ false) × ((ended ≡ LogIsStore) ⊎ (ended ≡ Ended Memory)))

    -- the service over the files that held this: they were not opened, or it ran over what they were recovered to
    abbrev pub EndsFound : Option (List ℕ) → Image → C → C → ServiceEnd → Type 0
    EndsFound log image talk talk_after ended =
        ((talk_after ≡ talk) × IsUnserved log s.permission.create ended)
        ⊎ ((c : Held (FileStore D g)) × ((after : Held (FileStore D g)) × ((made : Bool) × (FindsFiles image c × RunsOver log c after talk talk_after made ended))))
