use Rattle.std.proofs.Common.{[], refl}
use Rattle.sqlite.specs.Held.{state}
use Rattle.store_tables.proofs.LookLemmas.{marks_shown, names_shown}
use Rattle.std.proofs.lemmas.Result.{err_from_is_err_and}
use Rattle.store_rows.specs.Texts.{read_marks_text}
use Rattle.store_rows.proofs.RefusalLemmas.{marks_whole}
use Rattle.store_rows.proofs.SelectLemmas.{two, mark_names, marks_read}
use Rattle.store_tables.proofs.RefusalLemmas.{not_memory, one_error, query_refused, query_same}
use Rattle.store_tables.proofs.reads.read_marks.Goals as goal

pub returns-clause-read : goal.returns-clause-read
returns-clause-read g c clean p h =
    marks_shown (state g.S.Store c.args.tx.now.conn.now) (state g.S.Store c.query_all.new.self.conn.now) p h c.in_ok-rows.rows.items (c.in_ok-rows.ensures.ok clean)

pub returns-in_err-rows-clause-refused : goal.returns-in_err-rows-clause-refused
returns-in_err-rows-clause-refused g c clean v has failed =
    let p = err_from_is_err_and c.from_residual.result c.from_residual.ensures.1 in
    query_refused read_marks_text (state g.S.Store c.args.tx.now.conn.now) (state g.S.Store c.query_all.new.self.conn.now) _ refl 0 two [] mark_names (marks_read v _ has) (marks_whole v _ has) _
    (not_memory p.0 _ p.2.0 (one_error _ p.0 _ p.1 failed)) (c.in_err-rows.ensures.err clean)

pub returns-clause-same : goal.returns-clause-same
returns-clause-same g c clean v has =
    query_same read_marks_text (state g.S.Store c.args.tx.now.conn.now) (state g.S.Store c.query_all.new.self.conn.now) _ refl 0 two [] mark_names (marks_read v _ has) (marks_whole v _ has)
    c.in_ok-rows.rows.items (c.in_ok-rows.ensures.ok clean)

pub returns-in_err-rows-clause-own : goal.returns-in_err-rows-clause-own
returns-in_err-rows-clause-own g c bad =
    let p = err_from_is_err_and c.from_residual.result c.from_residual.ensures.1 in
    p.2.1 (one_error _ p.0 _ p.1 bad)

pub returns-clause-shown : goal.returns-clause-shown
returns-clause-shown g c clean v has =
    names_shown (state g.S.Store c.args.tx.now.conn.now) (state g.S.Store c.query_all.new.self.conn.now) v has c.in_ok-rows.rows.items (c.in_ok-rows.ensures.ok clean)
