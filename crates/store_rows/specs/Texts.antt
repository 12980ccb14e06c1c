-- The texts of a store's statements, in the dialect of SQLite.
use Rattle.std.specs.Prelude.{ℕ, List, codes}

abbrev pub put_mark_text : List ℕ
put_mark_text = codes "INSERT OR REPLACE INTO meta (name, value) VALUES (?1, ?2)"

abbrev pub put_cell_text : List ℕ
put_cell_text = codes "INSERT OR REPLACE INTO cells (record, slot, n) VALUES (?1, ?2, ?3)"

abbrev pub put_notice_text : List ℕ
put_notice_text = codes "INSERT OR REPLACE INTO notices (record, site, ann, fin) VALUES (?1, ?2, ?3, ?4)"

abbrev pub update_cell_text : List ℕ
update_cell_text = codes "UPDATE cells SET n = ?3 WHERE record = ?1 AND slot = ?2"

abbrev pub update_notice_text : List ℕ
update_notice_text = codes "UPDATE notices SET ann = ?3, fin = ?4 WHERE record = ?1 AND site = ?2"

abbrev pub add_session_text : List ℕ
add_session_text = codes "INSERT INTO sessions (record, holder, phase, place) VALUES (?1, ?2, ?3, ?4)"

abbrev pub drop_session_text : List ℕ
drop_session_text = codes "DELETE FROM sessions WHERE record = ?1 AND holder = ?2"

abbrev pub read_marks_text : List ℕ
read_marks_text = codes "SELECT name, value FROM meta"

abbrev pub read_cells_text : List ℕ
read_cells_text = codes "SELECT record, slot, n FROM cells ORDER BY record, slot"

abbrev pub read_sessions_text : List ℕ
read_sessions_text = codes "SELECT record, holder, phase, place FROM sessions ORDER BY place"

abbrev pub read_notices_text : List ℕ
read_notices_text = codes "SELECT record, site, ann, fin FROM notices ORDER BY record, site"
