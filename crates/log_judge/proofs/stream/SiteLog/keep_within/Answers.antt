use Rattle.std.proofs.Common.{rules}
use Rattle.std.proofs.lemmas.Result.{IfOk-weaker}
use Rattle.log_judge.proofs.StreamLemmas.{within_dropped, within_full, within_push}
use Rattle.log_judge.proofs.stream.SiteLog.keep_within.Goals as goal

pub returns-then-is_some : goal.returns-then-is_some
returns-then-is_some c = within_dropped c.args.most c.args.self.now c.args.at c.args.delta.rows (search (rules, c.is_some.ensures, c.if-is_some.true))

pub returns-then-len-most : goal.returns-then-len-most
returns-then-len-most c = within_full c.args.most c.args.self.now c.args.at c.args.delta.rows (search (rules, c.is_some.ensures, c.if-is_some.false)) (search (rules, c.len.ensures, c.if-len-most.true))

pub returns : goal.returns
returns c =
    IfOk-weaker c.push.result _ _
    (λ x p. within_push c.args.most c.args.self.now c.push.new.self c.args.at c.args.delta.rows p (search (rules, c.is_some.ensures, c.if-is_some.false)) (search (rules, c.len.ensures, c.if-len-most.false)))
    c.push.ensures
