use Rattle.std.proofs.Common.{All, refl, subst, ◌∙◌, arith, take_all}
use Rattle.std.proofs.lemmas.List.Elements.{All-more}
use Rattle.desk_log.specs.declared.transcript.Run.{Run}
use Rattle.transcript_text.specs.Texts.{MayBegin}
use Rattle.transcript_text.proofs.writing.may_be_written.Goals as goal

pub loop-run-preserved : goal.loop-run-preserved
loop-run-preserved c =
    All-more (λ (run : Run). MayBegin c.args.layout.now c.args.transcript.now.site run.sites run.first) c.as_slice-run-items.result.now c.loop-run.run-index c.run-item.result
    c.loop-run-test.true c.loop-run.invariant
    (subst (λ (run : Run). MayBegin c.args.layout.now c.args.transcript.now.site run.sites run.first) c.run-item.is (c.in_ok-may_begin.ensures.0 c.if-not-branch.false))

pub returns : goal.returns
returns c =
    let all : All (λ (run : Run). MayBegin c.args.layout.now c.args.transcript.now.site run.sites run.first) c.args.transcript.now.runs =
    subst (All (λ (run : Run). MayBegin c.args.layout.now c.args.transcript.now.site run.sites run.first))
    (take_all c.loop-run.run-index c.as_slice-run-items.result.now (omega (arith, c.loop-run-test.false)) ∙ c.as_slice-run-items.ensures) c.loop-run.invariant in
    (λ yes. all, λ every. refl)
