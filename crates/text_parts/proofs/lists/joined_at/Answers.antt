use Rattle.std.proofs.Common.{sym}
use Rattle.std.proofs.lemmas.Result.{err_from_is_err_and}
use Rattle.text_parts.proofs.ElementLaws.{stops, fails, goes_on, is_done}
use Rattle.text_parts.proofs.lists.joined_at.Goals as goal

pub returns-in_default : goal.returns-in_default
returns-in_default g c = stops g.E.Element.at c.loop.elements.items _ c.loop.rest.now _ (sym c.in_default.ensures) c.loop.invariant

pub returns-in_err-element : goal.returns-in_err-element
returns-in_err-element g c =
    let p = err_from_is_err_and c.from_residual-in_err-element.result c.from_residual-in_err-element.ensures.1 in
    rw (p.1, p.2) (fails c.in_err-element.field-0.0 g.E.Element.at c.loop.elements.items c.args.more c.loop.counter c.loop.rest.now c.in-Some.tail.now _ c.loop-test.true (sym c.in-Some.ensures) c.in_err-element.ensures c.loop.invariant)

pub loop-preserved : goal.loop-preserved
loop-preserved g c =
    rw c.in_ok-push-2.ensures.items (goes_on g.E.Element.at c.loop.elements.items c.args.more c.loop.counter c.loop.rest.now c.in-Some.tail.now c.in_ok-element.element c.in_ok-element.behind.now _ c.loop-test.true (sym c.in-Some.ensures) c.in_ok-element.ensures c.loop.invariant)

pub returns : goal.returns
returns g c = is_done g.E.Element.at c.loop.elements.items c.args.more c.loop.counter c.loop.rest.now _ c.loop-test.false c.loop.invariant
