use Rattle.std.proofs.Common.{sym, subst, List}
use Rattle.std.proofs.lemmas.Result.{IfOk-weaker}
use Rattle.merge_core.specs.declared.delta.Row.{Row}
use Rattle.log_judge.specs.declared.keeping.Keeping.{Keeping}
use Rattle.log_judge.specs.Excess.{IsFirstAhead, NoneAhead}
use Rattle.log_judge.specs.Stream.{Keeps}
use Rattle.log_judge.proofs.StreamLemmas.{keeps_all, keeps_above, keeps_none}
use Rattle.log_judge.proofs.stream.SiteLog.keep.Goals as goal

pub returns-in-All : goal.returns-in-All
returns-in-All c =
    IfOk-weaker c.push.result _ _
    (λ x p. subst (λ (k : Keeping). Keeps k c.args.self.now c.push.new.self c.args.at c.args.delta.rows) (sym c.in-All.is) (keeps_all c.args.self.now c.push.new.self c.args.at c.args.delta.rows p))
    c.push.ensures

pub returns-in-Some : goal.returns-in-Some
returns-in-Some c =
    let tables = c.in-Above.tables in
    let rec = c.in-Some.field-0.rec in
    let origin = c.in-Some.field-0.origin in
    let first : IsFirstAhead tables.items c.args.delta.rows rec origin =
    subst (λ (rows : List Row). IsFirstAhead tables.items rows rec origin) c.rows.ensures.rows (subst (λ (ts : List (List Row)). IsFirstAhead ts c.rows.result.now rec origin) c.as_slice.ensures.value c.in-Some.ensures) in
    IfOk-weaker c.keep_within-in-Some.result _ _
    (λ x it. subst (λ (k : Keeping). Keeps k c.args.self.now c.keep_within-in-Some.new.self c.args.at c.args.delta.rows) (sym c.in-Above.is)
    (keeps_above tables c.args.self.now c.keep_within-in-Some.new.self c.args.at c.args.delta.rows (λ none. none first.row first.here first.ahead) it))
    c.keep_within-in-Some.ensures

pub returns-in-None : goal.returns-in-None
returns-in-None c =
    let tables = c.in-Above.tables in
    let none : NoneAhead tables.items c.args.delta.rows =
    subst (λ (rows : List Row). NoneAhead tables.items rows) c.rows.ensures.rows (subst (λ (ts : List (List Row)). NoneAhead ts c.rows.result.now) c.as_slice.ensures.value c.in-None.ensures) in
    subst (λ (k : Keeping). Keeps k c.args.self.now c.args.self.now c.args.at c.args.delta.rows) (sym c.in-Above.is) (keeps_none tables c.args.self.now c.args.at c.args.delta.rows none)
