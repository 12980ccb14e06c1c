-- What an ask comes to where nothing refuses it.
use Rattle.std.specs.Prelude.{◌≡◌, Option, None}
use Rattle.session_list.specs.declared.session.Phase.{Phase}
use Rattle.admission_model.specs.declared.ask.Ask.{Ask}
use Rattle.admission_model.specs.declared.ask.Call.TheVariants.{Ask as AskCall}
use Rattle.admission_model.specs.declared.operation.Operation.{Operation}
use Rattle.admission_model.specs.declared.operation.Operation.TheVariants.{EnteredRead, AnnouncedWriter, EnteredWrite, LeftRecord, GaveSeats}
use Rattle.admission_model.specs.View.{View}
use Rattle.admission_model.specs.Serving.{reason, answer, operation_of}
use Rattle.admission_core.specs.declared.site_core.deciding.Decision.{Decision}

-- the phase of the session that an operation ends, if it ends one
abbrev pub ended_phase : View → Operation → Option Phase
ended_phase v (EnteredRead r h) = None
ended_phase v (AnnouncedWriter r h) = None
ended_phase v (EnteredWrite r h) = None
ended_phase v (LeftRecord r h) = v.phase r h
ended_phase v (GaveSeats r to seats) = None

-- nothing refuses the ask, and this is its operation, its answer, and the phase that ends
pub record IsDecision (v : View) (ask : Ask) (d : Decision) : Type 0 where
  pub accepted : reason v (AskCall ask) ≡ None
  pub is_operation : d.operation ≡ operation_of v ask
  pub is_answer : d.answer ≡ answer v (AskCall ask)
  pub is_ended : d.ended ≡ ended_phase v d.operation
