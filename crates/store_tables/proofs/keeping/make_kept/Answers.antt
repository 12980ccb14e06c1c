use Rattle.store_tables.specs.Transacts.{BecomesStore, made}
use Rattle.store_tables.proofs.KeepChangeLemmas.{makes_store}
use Rattle.store_tables.proofs.KeepLemmas.{made_of}
use Rattle.store_tables.proofs.keeping.make_kept.Goals as goal

pub returns : goal.returns
returns g c =
    let idle = c.is_autocommit-is_idle.ensures.settled (rw (c.is_autocommit-is_idle.ensures.value, c.requires)) in
    makes_store g.S.Store g.met.S.Store.settled g.met.S.Store.stays c.args.conn.now c.make.new.conn c.make.result c.schema-schema.ensures.live idle (made c.args.site.now c.args.layout.now) (BecomesStore c.args.site.now c.args.layout.now) (made_of c.args.site.now c.args.layout.now) c.make.ensures
