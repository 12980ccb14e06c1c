use Rattle.std.proofs.Common.{refl, sym, ap}
use Rattle.std.proofs.lemmas.Result.{IfOk-weaker}
use Rattle.log_judge.specs.Cut.{merge_rows}
use Rattle.log_judge.proofs.StreamLemmas.{takes_none, takes_one, cut_before}
use Rattle.log_judge.proofs.stream.SiteLog.take.Goals as goal

pub returns-in-Merge : goal.returns-in-Merge
returns-in-Merge c =
    IfOk-weaker c.keep.result _ _
    (λ x it. takes_one c.args.keeping.now c.args.self.now c.keep.new.self c.args.at (merge_rows c.args.entry.call) c.in-Merge.delta.rows it (sym (ap merge_rows c.in-Merge.is))
    (cut_before c.args.self.now.replay.cut c.args.at (c.if-not-is_before.ensures.0 refl)))
    c.keep.ensures

pub returns-in-Ask : goal.returns-in-Ask
returns-in-Ask c = takes_none c.args.keeping.now c.args.self.now c.args.at (merge_rows c.args.entry.call) (ap merge_rows c.in-Ask.is)

pub returns : goal.returns
returns c = takes_none c.args.keeping.now c.args.self.now c.args.at (merge_rows c.args.entry.call) (ap merge_rows c.in-Snapshot.is)
