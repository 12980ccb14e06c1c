-- The numbers of a site's content are such as the tables take.
use Rattle.std.proofs.Common.{◌≤◌, arith}
use Rattle.std.proofs.lemmas.List.Elements.{All-from_recursion}
use Rattle.store_rows.specs.declared.content.StoredCell.{StoredCell}
use Rattle.store_rows.specs.declared.content.StoredSession.{StoredSession}
use Rattle.store_rows.specs.declared.content.StoredNotice.{StoredNotice}
use Rattle.store_rows.specs.Rows.{Stored}
use Rattle.store_tables.specs.Reads.{IsCellInRange, IsInRange, IsNoticeInRange, IsSessionInRange}
use Rattle.store_content.specs.Content.{IsContent, IsCounter, IsNotice, IsPlaced}
use Rattle.store_content.proofs.PutLemmas.{all_weaker}

cell_fits : (c : StoredCell) → IsCounter c → IsCellInRange c
cell_fits c is = (is.record_fits, is.slot_fits)

session_fits : (s : StoredSession) → IsPlaced s → IsSessionInRange s
session_fits s is = let given : 1 ≤ s.place = is.given in (is.record_fits, omega arith, is.small)

notice_fits : (n : StoredNotice) → IsNotice n → IsNoticeInRange n
notice_fits n is = let there : n.site ≤ 15 = is.site_there in (is.record_fits, omega arith)

pub in_range : (it : Stored) → IsContent it → IsInRange it
in_range it is = record {
  cells = All-from_recursion IsCellInRange it.cells (all_weaker IsCounter IsCellInRange cell_fits it.cells is.rows.cells);
  sessions = All-from_recursion IsSessionInRange it.sessions (all_weaker IsPlaced IsSessionInRange session_fits it.sessions is.rows.places);
  notices = All-from_recursion IsNoticeInRange it.notices (all_weaker IsNotice IsNoticeInRange notice_fits it.notices is.rows.notices);
}
