use Rattle.std.proofs.Common.{◌<◌, sym, subst, arith}
use Rattle.desk_log.specs.Desk.{IsDesk}
use Rattle.desk_log.proofs.DeskLemmas.{desk_begun}
use Rattle.desk_log.proofs.desk.Desk.open.Goals as goal

pub invariant_of-result : goal.invariant_of-result
invariant_of-result g c =
    let below : c.args.site < c.args.layout.sites = omega (arith, c.if-site-sites.false, c.sites.ensures.sites) in
    subst (λ (x : g.row.K.Denot). IsDesk g.K.Keeper (record { core = c.in-Ok.core; keeper = c.begun.new.keeper; opened = x; log = c.in-Ok.log })) (sym c.of-opened.ensures)
    (desk_begun g.K.Keeper c.args.keeper c.begun.new.keeper c.args.layout c.args.site c.args.limit c.in-Ok.core c.in-Ok.log c.sites.ensures.layout below (c.requires below) c.in-Ok.ensures.0 c.in-Ok.ensures.1)
