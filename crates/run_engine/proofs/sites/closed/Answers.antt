use Rattle.std.proofs.Common.{rules, ◌≡◌, [], ◌∷◌, ◌++◌}
use Rattle.run_engine.proofs.SiteLemmas.{closed_with}
use Rattle.run_engine.proofs.sites.closed.Goals as goal

pub returns-in-Ok : goal.returns-in-Ok
returns-in-Ok g c =
    let split : c.push.new.self.items ≡ c.in_ok-passes.passes.items ++ c.args.pass ∷ [] = search rules in
    closed_with _ g.L.Opening.kept c.args.site c.push.new.self.items c.in_ok-passes.passes.items c.args.pass c.in-Ok.transcript c.in-Ok._keeper split c.in-Ok.ensures
