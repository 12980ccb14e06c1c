use Rattle.std.proofs.Common.{refl, sym, subst}
use Rattle.merge_core.specs.Layout.{LayoutState}
use Rattle.durable_keeper.specs.Keeping.{IsChange}
use Rattle.site_store.specs.Making.{counters_alone}
use Rattle.live_databases.proofs.RebuildLemmas.{has_made, has_not_made}
use Rattle.live_databases.proofs.rebuilding.make_rebuilt_over.Goals as goal

pub make_store-made-requires-clause-cells : goal.make_store-made-requires-clause-cells
make_store-made-requires-clause-cells g c =
    subst (λ (l : LayoutState). IsChange l c.args.site (counters_alone c.args.rebuilt.cells.items)) (sym c.layout.ensures) c.requires.cells

pub returns-in-Ok : goal.returns-in-Ok
returns-in-Ok g c =
    let made = c.make_store-made.ensures in (
      refl,
      has_made g.S.Store c.args.rebuilt.core.layout c.layout.result.now c.args.site c.args.name.now c.args.rebuilt.cells.items c.args.connection c.make_store-made.result.1
          c.layout.ensures c.make_store-made.result.0 _ c.in-Ok.is made.made made.content made.never made.blank,
    )

pub returns : goal.returns
returns g c =
    let made = c.make_store-made.ensures in
    has_not_made g.S.Store c.args.rebuilt.core.layout c.layout.result.now c.args.site c.args.name.now c.args.rebuilt.cells.items c.args.connection c.make_store-made.result.1
    c.layout.ensures c.make_store-made.result.0 c.in-Err.error _ c.in-Err.is c.refused_store.ensures made.there made.left made.denied made.judged
