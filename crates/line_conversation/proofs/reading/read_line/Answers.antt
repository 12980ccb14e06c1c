use Rattle.std.proofs.Common.{◌≤◌, ◌∙◌, refl, sym, subst, arith}
use Rattle.line_conversation.specs.Stream.{HeldState, ReadsSoFar}
use Rattle.line_conversation.proofs.AheadLemmas.{case_true, case_false}
use Rattle.line_conversation.proofs.LineSteps.{line_begins, line_ends, more_came, input_ends, read_more, uncounted}
use Rattle.line_conversation.proofs.reading.read_line.Goals as goal

pub loop-reads-init : goal.loop-reads-init
loop-reads-init g c =
    let first = line_begins c.args.source.now c.args.ahead.now c.args.held.now.limit c.args.ended.now in (
      subst (λ (h : HeldState). ReadsSoFar c.args.source.now c.args.source.now c.args.ahead.now c.args.ahead.now h c.args.ended.now c.args.ended.now 0) (sym c.clear.ensures) first,
      refl,
    )

pub returns-then-take_ahead-clause-read : goal.returns-then-take_ahead-clause-read
returns-then-take_ahead-clause-read g c =
    let l = c.loop-reads in
    let t = case_true _ _ _ c.if-take_ahead.true c.take_ahead.ensures.taken in
    line_ends c.args.source.now l.source c.args.ahead.now l.ahead l.held c.args.ended.now l.ended l.reads l.invariant.0 t.0 c.take_ahead.new.ahead c.take_ahead.new.held c.told.result
    t.1 t.2 t.3 c.told.ensures

pub returns-then-ended-clause-read : goal.returns-then-ended-clause-read
returns-then-ended-clause-read g c =
    let l = c.loop-reads in
    let t = case_false _ _ _ c.if-take_ahead.false c.take_ahead.ensures.taken in
    let now = more_came c.args.source.now l.source c.args.ahead.now l.ahead l.held c.args.ended.now l.ended l.reads l.invariant.0 c.take_ahead.new.ahead c.take_ahead.new.held t.0 t.1 t.2 in
    input_ends c.args.source.now l.source c.args.ahead.now c.take_ahead.new.ahead c.take_ahead.new.held c.args.ended.now l.ended l.reads now t.1 c.end_input.new.self c.end_input.result
    c.if-ended.true c.end_input.ensures.dropped (c.end_input.ensures.told now.line now.holds)

pub loop-reads-preserved : goal.loop-reads-preserved
loop-reads-preserved g c =
    let l = c.loop-reads in
    let t = case_false _ _ _ c.if-take_ahead.false c.take_ahead.ensures.taken in
    let now = more_came c.args.source.now l.source c.args.ahead.now l.ahead l.held c.args.ended.now l.ended l.reads l.invariant.0 c.take_ahead.new.ahead c.take_ahead.new.held t.0 t.1 t.2 in (
      read_more c.args.source.now l.source c.args.ahead.now c.take_ahead.new.ahead c.take_ahead.new.held c.args.ended.now l.ended l.reads now t.1 c.fill.new.source c.fill.new.self c.in-Ok.some _
          c.if-ended.false c.in-Ok.ensures.read c.in-Ok.ensures.end c.in-Ok.ensures.some refl,
      c.take_ahead.ensures.limit ∙ l.invariant.1,
    )

pub returns-clause-read : goal.returns-clause-read
returns-clause-read g c =
    let l = c.loop-reads in
    let all : 18446744073709551615 ≤ l.reads = omega arith in
    uncounted c.args.source.now l.source c.args.ahead.now l.ahead l.held c.args.ended.now l.ended l.reads l.invariant.0 all
