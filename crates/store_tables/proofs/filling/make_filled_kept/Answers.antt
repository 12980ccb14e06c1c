use Rattle.store_tables.specs.Transacts.{BecomesFilled, filled}
use Rattle.store_tables.proofs.KeepChangeLemmas.{makes_store}
use Rattle.store_tables.proofs.KeepLemmas.{filled_of}
use Rattle.store_tables.proofs.filling.make_filled_kept.Goals as goal

pub returns : goal.returns
returns g c =
    let idle = c.is_autocommit-is_idle.ensures.settled (rw (c.is_autocommit-is_idle.ensures.value, c.requires.idle)) in
    makes_store g.S.Store g.met.S.Store.settled g.met.S.Store.stays c.args.conn.now c.make_filled.new.conn c.make_filled.result c.schema-schema.ensures.live idle (filled c.args.site.now c.args.layout.now c.args.cells.now c.args.notices.now) (BecomesFilled c.args.site.now c.args.layout.now c.args.cells.now c.args.notices.now) (filled_of c.args.site.now c.args.layout.now c.args.cells.now c.args.notices.now) c.make_filled.ensures
