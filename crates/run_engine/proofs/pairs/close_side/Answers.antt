use Rattle.std.proofs.Common.{rules, ◌≡◌, [], ◌∷◌, ◌++◌}
use Rattle.run_engine.proofs.SiteLemmas.{closed_with}
use Rattle.run_engine.proofs.pairs.close_side.Goals as goal

pub returns-in-Ok-clause-closed : goal.returns-in-Ok-clause-closed
returns-in-Ok-clause-closed g c =
    let end = c.args.side.work.end in
    let pass = c.args.side.work.caller.pass in
    let split : c.in_ok-passes.passes.items ≡ (end.out_pass ∷ (end.in_pass ∷ [])) ++ pass ∷ [] = search rules in
    closed_with _ g.L.Opening.kept c.args.side.site c.in_ok-passes.passes.items (end.out_pass ∷ (end.in_pass ∷ [])) pass c.in-Ok.transcript c.in-Ok._keeper split c.in-Ok.ensures
