use Rattle.std.proofs.Common.{rules, refl, ◌≡◌, ◌≤◌, below_more, get_or, length, arith}
use Rattle.log_judge.specs.Cut.{entries_in, runs_at}
use Rattle.log_judge.proofs.LogsLemmas.{log_here, log_entries}
use Rattle.log_judge.proofs.stream.Logs.is_cut.Goals as goal

pub sites-preserved : goal.sites-preserved
sites-preserved c = λ layout ts cut all.
    let log = c.index-log.result.now in
    let here = log_here layout ts cut c.args.self.now c.sites.i log all (search rules) c.index-log.ensures in
    below_more (λ k. get_or c.args.lengths.now k 0 ≤ entries_in (runs_at ts k)) c.sites.i (c.sites.invariant layout ts cut all) (omega (arith, c.if-lengths-i.false, log_entries layout ts cut c.args.self.now.keeping c.sites.i log here))

pub returns : goal.returns
returns c = λ layout ts cut all.
    let number : length c.args.lengths.now ≡ length ts = search (rules, c.if-lengths-len.false, all.sites, all.number) in (
      λ truth. record { number = number; within = λ i below. c.sites.invariant layout ts cut all i (omega (arith, below, number, c.sites-test.false)) },
      λ is_cut. refl,
    )
