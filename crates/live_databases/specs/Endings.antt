-- How a service ends: its exit status, and what is then said on standard error (the project's own).
use Rattle.std.specs.Prelude.{◌≡◌, ℕ, Bool, true, false, List, ◌++◌, codes, if◌then◌else◌}
use Rattle.sqlite.specs.declared.error.Error.{Error}
use Rattle.sqlite.specs.declared.error.Error.TheVariants.{SqliteFailure}
use Rattle.sqlite.specs.declared.error.ErrorCode.TheVariants.{OutOfMemory, DatabaseBusy, NotADatabase}
use Rattle.text_input.specs.Sink.{SinkState}
use Rattle.exit_status.specs.declared.status.Status.TheVariants.{Fault, NoStore as Refused, Memory as NoRoom}
use Rattle.exit_status.specs.declared.store_refusal.StoreRefusal.TheVariants.{BadStore, WrongSite, WrongLayout, StoreFault}
use Rattle.exit_status.specs.Endings.{Says, status_code, status_line}
use Rattle.live_databases.specs.declared.service_end.Absence.{Absence}
use Rattle.live_databases.specs.declared.service_end.Absence.TheVariants.{NoStore, Exists, InUse, WrongGroup, NotAStore, NoFolder, Outdated as IsOutdated, NoGroup, LastGeneration}
use Rattle.live_databases.specs.declared.service_end.ServiceEnd.{ServiceEnd}
use Rattle.live_databases.specs.declared.service_end.ServiceEnd.TheVariants.{Ended, Absent, NoLog, LogIsStore, Unlogged, Outdated}
use Rattle.log_file.specs.Refusals.{log_refusal_name}
use Rattle.site_store.specs.declared.error.ServedError.{ServedError}
use Rattle.site_store.specs.declared.error.ServedError.TheVariants as opening

-- the name that stands for why a database is not served
abbrev pub absence_name : Absence → List ℕ
absence_name NoStore = codes "NoStore"
absence_name Exists = codes "Exists"
absence_name InUse = codes "InUse"
absence_name WrongGroup = codes "WrongGroup"
absence_name NotAStore = codes "NotAStore"
absence_name NoFolder = codes "NoFolder"
absence_name IsOutdated = codes "Outdated"
absence_name NoGroup = codes "NoGroup"
absence_name LastGeneration = codes "LastGeneration"

-- how a service ends whose store is refused
abbrev pub refused_store : ServedError → ServiceEnd
refused_store opening.NotAStore = Absent NotAStore
refused_store opening.NoStore = Absent NoStore
refused_store opening.Exists = Absent Exists
refused_store opening.BadStore = Ended (Refused BadStore)
refused_store opening.WrongSite = Ended (Refused WrongSite)
refused_store opening.WrongGroup = Absent WrongGroup
refused_store opening.Outdated = Absent IsOutdated
refused_store opening.WrongLayout = Ended (Refused WrongLayout)
refused_store opening.StoreFault = Ended (Refused StoreFault)
refused_store opening.Memory = Ended NoRoom

-- how a service ends whose database could not be opened
abbrev pub unopened_end : Error → ServiceEnd
unopened_end (SqliteFailure OutOfMemory) = Ended NoRoom
unopened_end (SqliteFailure DatabaseBusy) = Absent InUse
unopened_end (SqliteFailure NotADatabase) = Absent NotAStore
unopened_end error = Ended (Refused StoreFault)

-- the site's log could not be used, and nothing was served
abbrev pub is_unlogged : ServiceEnd → Bool
is_unlogged (NoLog refusal) = true
is_unlogged Unlogged = true
is_unlogged ended = false

-- the exit status of each end
abbrev pub service_code : ServiceEnd → ℕ
service_code (Ended status) = status_code status
service_code (Absent absence) = 5
service_code (NoLog refusal) = 8
service_code LogIsStore = 8
service_code Unlogged = 7
service_code Outdated = 5

-- what is said on standard error
abbrev pub service_line : ServiceEnd → List ℕ
service_line (Ended status) = status_line status
service_line (Absent absence) = codes "store refused " ++ (absence_name absence ++ codes "\n")
service_line (NoLog refusal) = codes "log refused " ++ (log_refusal_name refusal ++ codes "\n")
service_line LogIsStore = codes "log refused IsStore\n"
service_line Unlogged = codes "io\n"
service_line Outdated = codes "store refused Outdated\n"

-- the end of a site that serves no more, where some reply told that its store is outdated
abbrev pub with_note : ServiceEnd → Bool → ServiceEnd
with_note (Ended Fault) outdated = if outdated then Outdated else Ended Fault
with_note ended outdated = ended

-- the program ended so: the exit status, and what goes with it on standard error
pub record EndsServiceWith (ended : ServiceEnd) (errors errors_after : SinkState) (code : ℕ) : Type 0 where
  pub status : code ≡ service_code ended
  pub said : Says errors errors_after (service_line ended)
