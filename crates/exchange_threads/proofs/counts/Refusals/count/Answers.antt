use Rattle.std.proofs.Common.{ap, ◌∙◌}
use Rattle.exchange_threads.specs.Counts.{Counted, count_of}
use Rattle.exchange_threads.proofs.Counting.{count_found, count_absent}
use Rattle.exchange_threads.proofs.counts.Refusals.count.Goals as goal

pub returns-in-Some : goal.returns-in-Some
returns-in-Some c =
    count_found c.self.inside.map.entries c.args.name c.in-Some.count.now c.in-Some.ensures.value
    ∙ ap (λ (v : Counted). count_of v.names c.args.name) c.self.view_is

pub returns-in-None : goal.returns-in-None
returns-in-None c =
    count_absent c.self.inside.map.entries c.args.name c.in-None.ensures.value
    ∙ ap (λ (v : Counted). count_of v.names c.args.name) c.self.view_is
