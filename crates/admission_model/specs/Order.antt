-- The order of a site's sessions: after one operation, said of the list alone, which is all that whoever holds the
-- sessions needs; and after any operations, said of who arrived last.
use Rattle.std.specs.Prelude.{◌==◌, List, [], ◌∷◌, ◌++◌, if◌then◌else◌}
use Rattle.session_list.specs.declared.session.Phase.TheVariants.{Reader, Waiting, Writer}
use Rattle.session_list.specs.declared.session.Session.{Session}
use Rattle.session_list.specs.Sessions.{with_phase, without}
use Rattle.admission_model.specs.Account.{Key, occurs}
use Rattle.admission_model.specs.declared.operation.Operation.{Operation}
use Rattle.admission_model.specs.declared.operation.Operation.TheVariants.{EnteredRead, AnnouncedWriter, EnteredWrite, LeftRecord, GaveSeats}

-- who arrives goes last, a writer who enters keeps its place, and who leaves moves nobody
abbrev pub sessions_next : Operation → List Session → List Session
sessions_next (EnteredRead r h) ss = ss ++ record { r = r; h = h; phase = Reader } ∷ []
sessions_next (AnnouncedWriter r h) ss = ss ++ record { r = r; h = h; phase = Waiting } ∷ []
sessions_next (EnteredWrite r h) ss = with_phase ss r h Writer
sessions_next (LeftRecord r h) ss = without ss r h
sessions_next (GaveSeats r to seats) ss = ss

-- the holders that entered as readers or announced themselves as writers, oldest first
abbrev pub arrived : List Operation → List Key
arrived [] = []
arrived (EnteredRead r h ∷ done) = arrived done ++ record { r = r; h = h } ∷ []
arrived (AnnouncedWriter r h ∷ done) = arrived done ++ record { r = r; h = h } ∷ []
arrived (EnteredWrite r h ∷ done) = arrived done
arrived (LeftRecord r h ∷ done) = arrived done
arrived (GaveSeats r to seats ∷ done) = arrived done

-- the keys of a list in its order, each where it stands last
abbrev pub last_of_each : List Key → List Key
last_of_each [] = []
last_of_each (k ∷ ks) = if occurs k.r k.h ks == 0 then (k ∷ last_of_each ks) else last_of_each ks

-- the keys of the second list, in its order, that the first does not name
abbrev pub unnamed : List Key → List Key → List Key
unnamed names [] = []
unnamed names (k ∷ ks) = if occurs k.r k.h names == 0 then (k ∷ unnamed names ks) else unnamed names ks
