use Rattle.std.proofs.Common.{sym, ap}
use Rattle.durable_keeper.specs.Memory.{MemoryState}
use Rattle.durable_keeper.specs.Keeping.{nothing_kept}
use Rattle.run_engine.proofs.sites.opened.Goals as goal

pub returns-in-Ok : goal.returns-in-Ok
returns-in-Ok g c =
    let site = c.in-Ok.ensures.2 in
    record {
      of_layout = site.of_layout;
      of_site = site.of_site;
      nothing = site.found nothing_kept (sym (ap (λ (k : MemoryState). k.part) c.in_ok-keeper.ensures)) tt;
      given_out = c.in-Ok.ensures.3;
    }
