use Rattle.store_rows.specs.Changes.{changed}
use Rattle.store_tables.specs.Transacts.{Takes}
use Rattle.store_tables.proofs.KeepChangeLemmas.{changes_store}
use Rattle.store_tables.proofs.keeping.write_kept.Goals as goal

pub returns : goal.returns
returns g c =
    let idle = c.is_autocommit-is_idle.ensures.settled (rw (c.is_autocommit-is_idle.ensures.value, c.requires.idle)) in
    changes_store g.S.Store g.met.S.Store.settled g.met.S.Store.stays c.args.conn.now c.write.new.conn c.write.result c.schema-schema.ensures.live idle (Takes c.args.edit) (changed c.args.cells.now c.args.notices.now c.args.edit) c.write.ensures
