use Rattle.text_parts.proofs.WritingLaws.{more_later}
use Rattle.text_parts.proofs.written.push_joined.Goals as goal

pub loop-element-preserved : goal.loop-element-preserved
loop-element-preserved g c = more_later g.W.Written.text_of _ c.loop-element.element-index c.element-item.result _ _ _ _ c.loop-element-test.true c.element-item.is c.loop-element.invariant c.in_ok-push_str.ensures.bytes c.in_ok-push_onto-2.ensures
