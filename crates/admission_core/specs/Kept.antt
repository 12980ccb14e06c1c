-- What a store keeps of a site, and is told of a change.
use Rattle.std.specs.Prelude.{List, [], ◌∷◌, Option, Some, None}
use Rattle.session_list.specs.declared.session.Session.{Session}
use Rattle.admission_model.specs.declared.durable.DurableCell.{DurableCell}
use Rattle.admission_model.specs.Account.{Account, sessions_of}
use Rattle.admission_model.specs.Durable.{Change, durable_cells}
use Rattle.admission_core.specs.declared.change.SessionChange.{SessionChange}
use Rattle.admission_core.specs.declared.change.SessionChange.TheVariants.{Put, Removed}

-- a durable part: its counters, and its sessions in order of arrival
pub record DurableState : Type 0 where
  pub cells : List DurableCell
  pub sessions : List Session

-- the durable part of an account
abbrev pub durable_of : Account → DurableState
durable_of a = record { cells = durable_cells a; sessions = sessions_of a }

-- a change: the counters that rise, and the session that comes, changes or goes
pub record ChangeState : Type 0 where
  pub cells : List DurableCell
  pub session : Option SessionChange

-- the session that is put
abbrev pub put_by : Option SessionChange → List Session
put_by None = []
put_by (Some (Put s)) = s ∷ []
put_by (Some (Removed s)) = []

-- the session that is removed
abbrev pub removed_by : Option SessionChange → List Session
removed_by None = []
removed_by (Some (Put s)) = []
removed_by (Some (Removed s)) = s ∷ []

-- the change as the model tells it
abbrev pub change_of : ChangeState → Change
change_of c = record { cells = c.cells; put = put_by c.session; removed = removed_by c.session }
