-- Why a call is refused.
use Rattle.std.specs.Prelude.{◌≡◌, ◌⊎◌, false, IsSome}
use Rattle.sqlite_disk.specs.Disk.{MoreFaults}
use Rattle.sqlite.specs.State.{State, Fails}
use Rattle.sqlite.specs.declared.error.Error.TheVariants.{SqliteFailure}
use Rattle.sqlite.specs.declared.error.ErrorCode.TheVariants.{OutOfMemory}

-- Between two moments the device has failed or refused a call; or the connection was shut at the first of them, or its
-- queries may take only so many steps.
abbrev pub HasRefused : State → State → Type 0
HasRefused old new = MoreFaults old.faults new.faults ⊎ ((old.is_open ≡ false) ⊎ IsSome old.step_limit)

-- Between two moments the database ran out of memory in a call, and rolled back.
abbrev pub HasLackedMemory : State → State → Type 0
HasLackedMemory old new = Fails old new ⊥ (SqliteFailure OutOfMemory)
