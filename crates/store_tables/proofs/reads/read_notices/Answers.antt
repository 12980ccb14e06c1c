use Rattle.std.proofs.Common.{refl, ◌∙◌}
use Rattle.sqlite.specs.Held.{state}
use Rattle.store_tables.proofs.OwnLemmas.{notices_own}
use Rattle.store_tables.proofs.LookLemmas.{notices_shown, if_ok_both}
use Rattle.std.proofs.lemmas.Result.{err_from_is_err_and}
use Rattle.store_rows.specs.Texts.{read_notices_text}
use Rattle.store_rows.proofs.RefusalLemmas.{notices_whole}
use Rattle.store_rows.proofs.SelectLemmas.{four, by_two, notice_names, notices_read}
use Rattle.store_tables.proofs.RefusalLemmas.{not_memory, one_error, query_refused}
use Rattle.store_tables.proofs.reads.read_notices.Goals as goal

pub returns-clause-read : goal.returns-clause-read
returns-clause-read g c clean p second h =
    if_ok_both c.rising_in.result
    (λ all same chain. notices_shown (state g.S.Store c.args.tx.now.conn.now) (state g.S.Store c.query_all.new.self.conn.now) p h c.in_ok-rows.rows.items second all.items (c.in_ok-rows.ensures.ok clean) (same ∙ c.as_slice.ensures.value) chain)
    c.rising_in.ensures.rows c.rising_in.ensures.chain

pub returns-clause-own : goal.returns-clause-own
returns-clause-own g c clean p second h fit =
    let own = notices_own (state g.S.Store c.args.tx.now.conn.now) (state g.S.Store c.query_all.new.self.conn.now) p h c.in_ok-rows.rows.items second (c.in_ok-rows.ensures.ok clean) fit in
    let same = c.as_slice.ensures.value in
    c.rising_in.ensures.own (rw same own.0) (rw same own.1)

pub returns-in_err-rows-clause-refused : goal.returns-in_err-rows-clause-refused
returns-in_err-rows-clause-refused g c clean has failed =
    let p = err_from_is_err_and c.from_residual.result c.from_residual.ensures.1 in
    query_refused read_notices_text (state g.S.Store c.args.tx.now.conn.now) (state g.S.Store c.query_all.new.self.conn.now) _ refl 7 four by_two notice_names (notices_read _ has) (notices_whole _ has) _
    (not_memory p.0 _ p.2.0 (one_error _ p.0 _ p.1 failed)) (c.in_err-rows.ensures.err clean)

pub returns-in_err-rows-clause-own : goal.returns-in_err-rows-clause-own
returns-in_err-rows-clause-own g c clean parts second h fit bad =
    let p = err_from_is_err_and c.from_residual.result c.from_residual.ensures.1 in
    p.2.1 (one_error _ p.0 _ p.1 bad)
