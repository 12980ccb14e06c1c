use Rattle.store_tables.specs.Rounds.{TakesAll, changed_all}
use Rattle.store_tables.proofs.KeepChangeLemmas.{changes_store}
use Rattle.store_tables.proofs.rounds.write_all_kept.Goals as goal

pub returns : goal.returns
returns g c =
    let idle = c.is_autocommit-is_idle.ensures.settled (rw (c.is_autocommit-is_idle.ensures.value, c.requires.idle)) in
    changes_store g.S.Store g.met.S.Store.settled g.met.S.Store.stays c.args.conn.now c.write_all.new.conn c.write_all.result c.schema-schema.ensures.live idle (TakesAll c.args.edits.now) (changed_all c.args.cells.now c.args.notices.now c.args.edits.now) c.write_all.ensures
