use Rattle.std.proofs.Common.{◌∙◌, refl, arith}
use Rattle.serve_engine.specs.declared.turns.Turned.TheVariants.{Next}
use Rattle.serve_engine.specs.Together.{faults}
use Rattle.serve_engine.proofs.BlockLemmas.{fault_untold, one_fault_more, told_none}
use Rattle.serve_engine.proofs.rounds.tell_faults.Goals as goal

pub loop-told-init : goal.loop-told-init
loop-told-init g c = record { few = omega arith; texts = told_none g.C.Conversation c.args.conversation.now (faults 0) refl; line = refl }

pub loop-told-preserved : goal.loop-told-preserved
loop-told-preserved g c = record {
  few = omega (arith, c.loop-told-test.true);
  texts = one_fault_more g.C.Conversation c.args.conversation.now c.loop-told.conversation c.tell_some.new.conversation c.loop-told.told Next c.loop-told.invariant.texts c.in-Next.ensures.told;
  line = c.in-Next.ensures.line ∙ c.loop-told.invariant.line;
}

pub returns-in-Failed-clause-told : goal.returns-in-Failed-clause-told
returns-in-Failed-clause-told g c =
    fault_untold g.C.Conversation c.args.conversation.now c.loop-told.conversation c.tell_some.new.conversation c.loop-told.told c.args.count c.loop-told-test.true c.loop-told.invariant.texts
    c.in-Failed.ensures.told
