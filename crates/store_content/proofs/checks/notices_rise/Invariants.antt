-- Those seen so far stand each before the next.
use Rattle.std.proofs.Common.{ℕ, suc, ◌<◌, get_or}
use Rattle.std.specs.Prelude.{IsTrue}
use Rattle.store_rows.specs.declared.content.StoredNotice.{StoredNotice}
use Rattle.store_rows.specs.Rows.{notice_before}
use Rattle.store_content.proofs.checks.notices_rise.Given as goal

abbrev pub invariant-loop-i : goal.invariant-loop-i
invariant-loop-i l = (k : ℕ) (d : StoredNotice) → suc k < l.i → IsTrue (notice_before (get_or l.notices k d) (get_or l.notices (suc k) d))
