use Rattle.std.proofs.Common.{rules, ◌≡◌, ap, ◌∙◌, length}
use Rattle.log_judge.specs.Cut.{lengths_below}
use Rattle.log_judge.proofs.LogsLemmas.{full_more}
use Rattle.log_judge.proofs.stream.Logs.full_cut.Goals as goal

pub sites-preserved : goal.sites-preserved
sites-preserved c = λ layout ts cut all.
    c.in_ok-push.ensures.items ∙ full_more layout ts cut c.args.self.now c.sites.i c.index-log.result.now c.sites.cut.items all (search rules) c.index-log.ensures (c.sites.invariant layout ts cut all)

pub returns : goal.returns
returns c = λ layout ts cut all.
    let end : c.sites.i ≡ length ts = search (rules, all.sites, all.number) in
    c.sites.invariant layout ts cut all ∙ ap (lengths_below ts) end
