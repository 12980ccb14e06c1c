use Rattle.site_engine.proofs.SiteLemmas.{Worked, ends_site}
use Rattle.site_engine.proofs.sites.site_engine.Goals as goal

pub returns-clause-ended : goal.returns-clause-ended
returns-clause-ended g c =
    let worked : Worked g.K.Keeper c.args.layout c.args.site c.args.keeper c.into_keeper.result c.in-Ok.desk c.serve_input-ended.new.desk = record {
      fresh = c.in-Ok.ensures.1;
      same = c.serve_input-ended.ensures.opening;
      keeper_is = c.into_keeper.ensures.keeper;
      honest = c.into_keeper.ensures.honest;
      kept = c.into_keeper.ensures.kept;
    } in
    ends_site g.K.Keeper c.args.layout c.args.site c.args.keeper c.into_keeper.result c.in-Ok.desk c.serve_input-ended.new.desk
    c.args.source.now c.serve_input-ended.new.source c.args.sink.now c.serve_input-ended.new.sink c.serve_input-ended.result c.in-Ok.ensures.0.site_there worked
    c.serve_input-ended.ensures.served
