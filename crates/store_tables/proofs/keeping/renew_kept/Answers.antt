use Rattle.std.proofs.Common.{◌≡◌}
use Rattle.store_rows.specs.Changes.{renewed}
use Rattle.store_tables.proofs.KeepChangeLemmas.{changes_store}
use Rattle.store_tables.proofs.keeping.renew_kept.Goals as goal

pub returns : goal.returns
returns g c =
    let idle = c.is_autocommit-is_idle.ensures.settled (rw (c.is_autocommit-is_idle.ensures.value, c.requires)) in
    changes_store g.S.Store g.met.S.Store.settled g.met.S.Store.stays c.args.conn.now c.renew.new.conn c.renew.result c.schema-schema.ensures.live idle (λ it. it.version ≡ c.args.version) (renewed c.args.layout.now) c.renew.ensures
