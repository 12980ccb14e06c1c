use Rattle.std.proofs.Common.{◌∙◌, sym, arith}
use Rattle.std.proofs.lemmas.Bool.{false≢true}
use Rattle.site_rebuild.specs.Rebuilt.{gone_of}
use Rattle.site_rebuild.proofs.RebuiltLemmas.{teller_from, teller_to, tellers_turn}
use Rattle.site_rebuild.proofs.rebuilding.first_silent.Goals.{else-not-is_lost-via-then-not-is_lost+else-not-is_told_by, else-not-is_lost-via-else-not-is_lost}
use Rattle.site_rebuild.proofs.rebuilding.first_silent.Goals as goal

pub loop-i-init : goal.loop-i-init
loop-i-init c = λ i below left. absurd (omega arith)

pub returns-then-not-is_told_by : goal.returns-then-not-is_told_by
returns-then-not-is_told_by c = record {
  there = c.loop-i-test.true;
  is_left = sym c.is_lost.ensures ∙ c.if-not-is_lost.true;
  none = λ told. false≢true (sym c.if-not-is_told_by.true ∙ (c.is_told_by.ensures ∙ teller_to c.loop-i.i c.args.deltas.now told));
  before = c.loop-i.invariant;
}

pub loop-i-preserved : goal.loop-i-preserved
loop-i-preserved c = tellers_turn c.loop-i.i (gone_of c.args.lost.now) c.args.deltas.now c.loop-i.invariant (λ left.
    elim c.else-not-is_lost.branch [
      | else-not-is_lost-via-then-not-is_lost+else-not-is_told_by w ↦ teller_from c.loop-i.i c.args.deltas.now (sym w.is_told_by.ensures ∙ w.if-not-is_told_by.false)
      | else-not-is_lost-via-else-not-is_lost w ↦ absurd (false≢true (sym left ∙ (sym c.is_lost.ensures ∙ w.if-not-is_lost.false)))
    ])

pub returns : goal.returns
returns c = λ i below left. c.loop-i.invariant i (omega arith) left
