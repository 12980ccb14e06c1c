-- How the program ends: its exit status, what it says on standard error, and what each command writes where its input
-- is too long (the project's own table).
use Rattle.std.specs.Prelude.{◌≡◌, ◌⊎◌, ℕ, List, [], ◌∷◌, ◌++◌, codes}
use Rattle.text_input.specs.Source.{HasFault}
use Rattle.text_input.specs.Sink.{SinkState, Writes}
use Rattle.layout_file.specs.declared.fault.LayoutFault.{LayoutFault}
use Rattle.layout_file.specs.declared.fault.LayoutFault.TheVariants as layout
use Rattle.exit_status.specs.declared.status.Status.{Status}
use Rattle.exit_status.specs.declared.status.Status.TheVariants.{Done, Usage, NoLayout, NoStore, Fault, Refused, Memory, Io}
use Rattle.exit_status.specs.declared.store_refusal.StoreRefusal.{StoreRefusal}
use Rattle.exit_status.specs.declared.store_refusal.StoreRefusal.TheVariants as store
use Rattle.layout_file.specs.LayoutFile.{layout_fault_name}

-- the names of what a store is refused for, as the program writes them
abbrev pub store_refusal_name : StoreRefusal → List ℕ
store_refusal_name store.BadStore = codes "BadStore"
store_refusal_name store.WrongSite = codes "WrongSite"
store_refusal_name store.WrongLayout = codes "WrongLayout"
store_refusal_name store.WrongCounters = codes "WrongCounters"
store_refusal_name store.WrongSessions = codes "WrongSessions"
store_refusal_name store.StoreFault = codes "StoreFault"

-- the exit status
abbrev pub status_code : Status → ℕ
status_code Done = 0
status_code Usage = 2
status_code (NoLayout fault) = 3
status_code Refused = 4
status_code (NoStore refusal) = 5
status_code Fault = 5
status_code Memory = 6
status_code Io = 7

-- What is then said on standard error. What is wrong with the arguments was said before; a store that failed under
-- way is told by the reply.
abbrev pub status_line : Status → List ℕ
status_line Done = []
status_line Usage = []
status_line (NoLayout fault) = codes "layout refused " ++ (layout_fault_name fault ++ codes "\n")
status_line Refused = []
status_line (NoStore refusal) = codes "store refused " ++ (store_refusal_name refusal ++ codes "\n")
status_line Fault = []
status_line Memory = codes "memory\n"
status_line Io = codes "io\n"

-- the end where there is no layout: want of memory is no fault of the layout's own
abbrev pub without_layout : LayoutFault → Status
without_layout layout.Memory = Memory
without_layout fault = NoLayout fault

-- a text was written, or the sink met a fault; where there is no text nothing was
abbrev pub Says : SinkState → SinkState → List ℕ → Type 0
Says old new [] = new ≡ old
Says old new (c ∷ cs) = Writes old new (c ∷ cs) ⊎ HasFault new.fault

-- the program ended so: the exit status, and what goes with it on standard error
pub record EndsWith (ended : Status) (errors errors_after : SinkState) (code : ℕ) : Type 0 where
  pub status : code ≡ status_code ended
  pub said : Says errors errors_after (status_line ended)

-- the one line that is written where the input is too long
abbrev pub too_long_text : List ℕ
too_long_text = codes "input refused TooLong\n"
