-- What a keeper is told of a change, and what it keeps then.
use Rattle.std.specs.Prelude.{◌≤◌, ◌++◌, List, [], ◌∷◌, Option, Some, None, All, is_some, if◌then◌else◌, ℕ, ⊤}
use Rattle.merge_core.specs.Layout.{LayoutState}
use Rattle.session_list.specs.declared.session.Session.{Session}
use Rattle.session_list.specs.Sessions.{phase_in, with_phase, without}
use Rattle.admission_core.specs.Durable.{AreRising, put_cells}
use Rattle.admission_core.specs.declared.change.SessionChange.{SessionChange}
use Rattle.admission_core.specs.declared.change.SessionChange.TheVariants.{Put, Removed}
use Rattle.admission_core.specs.Kept.{DurableState, ChangeState}
use Rattle.admission_core.specs.Restored.{IsListed, IsSession}

-- no counter that is kept is above this: it is at most a grant and 10^12
abbrev pub most_kept : ℕ
most_kept = 2000000000000

-- a session that is put or removed is one that can be
abbrev pub IsSessionChange : LayoutState → Option SessionChange → Type 0
IsSessionChange layout None = ⊤
IsSessionChange layout (Some (Put s)) = IsSession layout s
IsSessionChange layout (Some (Removed s)) = IsSession layout s

-- a change that a keeper may be told at a site of a layout: its counters rise by record and slot, each is one that is
-- kept, has left its start and is no more than it can be
pub record IsChange (layout : LayoutState) (i : ℕ) (c : ChangeState) : Type 0 where
  pub rising : AreRising c.cells
  pub listed : All (IsListed layout i) c.cells
  pub small : All (λ x. x.value ≤ most_kept) c.cells
  pub session : IsSessionChange layout c.session

-- sessions with one put: a new one comes last, and one that is there keeps its place
abbrev pub with_session : Session → List Session → List Session
with_session s ss = if is_some (phase_in ss s.r s.h) then with_phase ss s.r s.h s.phase else ss ++ s ∷ []

-- sessions after one was put or removed
abbrev pub changed_sessions : Option SessionChange → List Session → List Session
changed_sessions None ss = ss
changed_sessions (Some (Put s)) ss = with_session s ss
changed_sessions (Some (Removed s)) ss = without ss s.r s.h

-- a durable part with exactly a change made
abbrev pub changed : ChangeState → DurableState → DurableState
changed c d = record { cells = put_cells c.cells d.cells; sessions = changed_sessions c.session d.sessions }

-- the durable part of a site before any operation
abbrev pub nothing_kept : DurableState
nothing_kept = record { cells = []; sessions = [] }
