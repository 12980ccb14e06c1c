-- What the threads of one site leave (this project's own).
use Rattle.std.specs.Prelude.{◌≡◌, ℕ, ◌-◌, ◌<◌, true, List, length, slice_index_or, ⊤, IsSome}
use Rattle.admission_model.specs.declared.ask.Ask.{Ask}
use Rattle.session_book.specs.Passes.{new_pass}
use Rattle.exchange_threads.specs.Ports.{HasRunPort}
use Rattle.run_engine.specs.declared.tasks.Caller.{Caller}
use Rattle.run_engine.specs.declared.tasks.Task.{Task}
use Rattle.run_engine.specs.declared.tasks.Task.TheVariants.{Calls, Link}
use Rattle.run_engine.specs.Callers.{HasAsked}
use Rattle.run_engine.specs.Gates.{always_answers}

-- a runner of a link has its end
abbrev pub IsReady : {L : Type 0} → Task L → Type 0
IsReady (Calls caller) = ⊤
IsReady (Link port) = IsSome port.link

-- a caller has called: where each reply was logged, its pass has a receipt for each thing that it asked, in order
pub record HasCalled {L : Type 0} (old new : Caller L) : Type 0 where
  pub asked : new.answered ≡ true → HasAsked old.asks.items old.pass new.pass

-- a task was carried out at a site with so many records
abbrev pub HasRunTask : {L : Type 0} → ℕ → ℕ → Task L → Task L → Type 0
HasRunTask records turns (Calls old) (Calls new) = HasCalled old new
HasRunTask records turns (Link old) (Link new) = HasRunPort always_answers records turns old new
HasRunTask records turns old new = ⊥

-- each task was carried out, and they are in order
pub record HaveRun {L : Type 0} (records turns : ℕ) (old new : List (Task L)) : Type 0 where
  pub number : length new ≡ length old
  pub each : (i : ℕ) (d : Task L) → i < length old → HasRunTask records turns (slice_index_or old i d) (slice_index_or new i d)

-- the task is that of a caller who asks this, and has pass 0, which was just given out
abbrev pub IsCaller : {L : Type 0} → List Ask → Task L → Type 0
IsCaller asks (Calls caller) = (caller.pass ≡ new_pass 0) × (caller.asks.items ≡ asks)
IsCaller asks (Link port) = ⊥

-- the task is that of a caller who has asked this
abbrev pub IsCalled : {L : Type 0} → List Ask → Task L → Type 0
IsCalled asks (Calls caller) = caller.answered ≡ true → HasAsked asks (new_pass 0) caller.pass
IsCalled asks (Link port) = ⊥

-- the last of the tasks is that of a caller who asks this
pub record EndsInCaller {L : Type 0} (asks : List Ask) (tasks : List (Task L)) : Type 0 where
  pub some : 0 < length tasks
  pub last : (d : Task L) → IsCaller asks (slice_index_or tasks (length tasks - 1) d)

-- .. who has asked it
pub record EndsInCalled {L : Type 0} (asks : List Ask) (tasks : List (Task L)) : Type 0 where
  pub some : 0 < length tasks
  pub last : (d : Task L) → IsCalled asks (slice_index_or tasks (length tasks - 1) d)
