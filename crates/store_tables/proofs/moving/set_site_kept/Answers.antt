use Rattle.std.proofs.Common.{◌≡◌}
use Rattle.store_schema.specs.declared.Version.TheVariants.{Second}
use Rattle.store_tables.specs.Transacts.{with_site}
use Rattle.store_tables.proofs.KeepChangeLemmas.{changes_store}
use Rattle.store_tables.proofs.moving.set_site_kept.Goals as goal

pub returns : goal.returns
returns g c =
    let idle = c.is_autocommit-is_idle.ensures.settled (rw (c.is_autocommit-is_idle.ensures.value, c.requires)) in
    changes_store g.S.Store g.met.S.Store.settled g.met.S.Store.stays c.args.conn.now c.set_site.new.conn c.set_site.result c.schema-schema.ensures.live idle (λ it. it.version ≡ Second) (with_site c.args.site.now) c.set_site.ensures
