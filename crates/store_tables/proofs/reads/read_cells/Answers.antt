use Rattle.std.proofs.Common.{refl, ◌∙◌}
use Rattle.sqlite.specs.Held.{state}
use Rattle.store_tables.proofs.OwnLemmas.{cells_own}
use Rattle.store_tables.proofs.LookLemmas.{cells_shown, if_ok_both}
use Rattle.std.proofs.lemmas.Result.{err_from_is_err_and}
use Rattle.store_rows.specs.Texts.{read_cells_text}
use Rattle.store_rows.proofs.RefusalLemmas.{cells_whole}
use Rattle.store_rows.proofs.SelectLemmas.{three, by_two, cell_names, cells_read}
use Rattle.store_tables.proofs.RefusalLemmas.{all_on_ok, not_memory, query_refused, query_same, same_error}
use Rattle.store_tables.proofs.reads.read_cells.Goals as goal

pub returns : goal.returns
returns g c =
    let old = state g.S.Store c.args.tx.now.conn.now in
    let new = state g.S.Store c.query_all.new.self.conn.now in
    let as_read = c.as_slice.ensures.value in
    record {
      same_reference = c.query_all.ensures.same_reference;
      read = λ clean p h.
          if_ok_both c.rising_in.result (λ all same chain. cells_shown old new p h c.in_ok-rows.rows.items all.items (c.in_ok-rows.ensures.ok clean) (same ∙ as_read) chain) c.rising_in.ensures.rows
          c.rising_in.ensures.chain;
      own = λ clean p h fit.
          let own = cells_own old new p h c.in_ok-rows.rows.items (c.in_ok-rows.ensures.ok clean) fit in
          c.rising_in.ensures.own (rw as_read own.0) (rw as_read own.1);
      same = λ clean v has.
          all_on_ok c.rising_in.result (query_same read_cells_text old new _ refl 2 three by_two cell_names (cells_read v _ has) (cells_whole v _ has) c.in_ok-rows.rows.items (c.in_ok-rows.ensures.ok clean));
      refused = λ clean v has failed. absurd (c.rising_in.ensures.unrefused failed);
      survives = c.query_all.ensures.survives;
    }

pub returns-in_err-rows : goal.returns-in_err-rows
returns-in_err-rows g c =
    let p = err_from_is_err_and c.from_residual.result c.from_residual.ensures.1 in
    rw p.1 (record {
      same_reference = c.query_all.ensures.same_reference;
      read = λ clean q h. tt;
      own = λ clean q h fit bad. p.2.1 (same_error bad);
      same = λ clean v has. tt;
      refused = λ clean v has failed.
          query_refused read_cells_text (state g.S.Store c.args.tx.now.conn.now) (state g.S.Store c.query_all.new.self.conn.now) _ refl 2 three by_two cell_names (cells_read v _ has) (cells_whole v _ has) _
          (not_memory p.0 _ p.2.0 (same_error failed)) (c.in_err-rows.ensures.err clean);
      survives = c.query_all.ensures.survives;
    })
