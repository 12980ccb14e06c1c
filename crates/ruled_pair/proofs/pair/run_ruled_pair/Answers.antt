use Rattle.std.proofs.Common.{rules, length}
use Rattle.ruled_pair.specs.Pairs.{IsFresh}
use Rattle.ruled_pair.proofs.Reporting.{pair_report}
use Rattle.ruled_pair.proofs.pair.run_ruled_pair.Goals as goal

pub returns-clause-ran : goal.returns-clause-ran
returns-clause-ran g c =
    let there : IsFresh c.in-Ok.there (length c.args.first_end.now.out_pass.receipts) (length c.args.second_end.now.in_pass.receipts) = search rules in
    let back : IsFresh c.in-Ok-new_direction.back (length c.args.second_end.now.out_pass.receipts) (length c.args.first_end.now.in_pass.receipts) = search rules in (
      pair_report g.G.Gate.answers (length c.args.first.now.layout.records) c.args.turns c.args.first_end.now.out_pass c.run_both-got.new.first_end.out_pass c.args.second_end.now.in_pass
          c.run_both-got.new.second_end.in_pass c.args.first_end.now.gate c.run_both-got.new.first_end.gate c.in-Ok.there c.run_both-got.new.there c.run_both-got.result.0.0 c.run_both-got.result.0.1
          c.report_of.result there c.run_both-got.ensures.there c.report_of.ensures,
      pair_report g.H.Gate.answers (length c.args.second.now.layout.records) c.args.turns c.args.second_end.now.out_pass c.run_both-got.new.second_end.out_pass c.args.first_end.now.in_pass
          c.run_both-got.new.first_end.in_pass c.args.second_end.now.gate c.run_both-got.new.second_end.gate c.in-Ok-new_direction.back c.run_both-got.new.back c.run_both-got.result.1.0
          c.run_both-got.result.1.1 c.report_of-2.result back c.run_both-got.ensures.back c.report_of-2.ensures,
    )
