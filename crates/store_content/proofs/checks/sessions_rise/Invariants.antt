-- Those seen so far stand each before the next.
use Rattle.std.proofs.Common.{ℕ, suc, ◌<◌, get_or}
use Rattle.std.specs.Prelude.{IsTrue}
use Rattle.store_rows.specs.declared.content.StoredSession.{StoredSession}
use Rattle.store_rows.specs.Rows.{session_before}
use Rattle.store_content.proofs.checks.sessions_rise.Given as goal

abbrev pub invariant-loop-i : goal.invariant-loop-i
invariant-loop-i l = (k : ℕ) (d : StoredSession) → suc k < l.i → IsTrue (session_before (get_or l.sessions k d) (get_or l.sessions (suc k) d))
