use Rattle.std.proofs.Common.{◌≡◌, ℕ, List, Some, ◌+◌, ◌∙◌, sym, ap, arith, take, take_all}
use Rattle.std.proofs.lemmas.Result.{err_from_is_err_and}
use Rattle.std.proofs.lemmas.List.{length-set, take_more_set}
use Rattle.text_parts.specs.Readers.{number_at}
use Rattle.text_parts.proofs.ElementLaws.{stops, fails, goes_on, is_done}
use Rattle.delta_codec.proofs.rows.counters_at.Goals as goal

pub returns-in_default : goal.returns-in_default
returns-in_default c =
    rw (stops number_at (take (c.loop-i.i + 1) c.loop-i.numbers) _ c.loop-i.rest.now _ (sym c.in_default.ensures) c.loop-i.invariant.read) c.listed.ensures

pub returns-in_err-number : goal.returns-in_err-number
returns-in_err-number c =
    let p = err_from_is_err_and c.from_residual-in_err-number.result c.from_residual-in_err-number.ensures.1 in
    rw (p.1, p.2) (fails c.in_err-number.field-0.0 number_at (take (c.loop-i.i + 1) c.loop-i.numbers) 15 c.loop-i.i c.loop-i.rest.now c.in-Some.tail.now _ c.loop-i-test.true (sym c.in-Some.ensures) c.in_err-number.ensures.read c.loop-i.invariant.read)

pub loop-i-preserved : goal.loop-i-preserved
loop-i-preserved c = record {
  places = length-set c.loop-i.numbers (c.loop-i.i + 1) c.in_ok-number.number ∙ c.loop-i.invariant.places;
  read =
      rw (take_more_set c.loop-i.numbers (c.loop-i.i + 1) c.in_ok-number.number (omega (arith, c.loop-i-test.true, c.loop-i.invariant.places)))
      (goes_on number_at (take (c.loop-i.i + 1) c.loop-i.numbers) 15 c.loop-i.i c.loop-i.rest.now c.in-Some.tail.now c.in_ok-number.number c.in_ok-number.behind.now _ c.loop-i-test.true (sym c.in-Some.ensures) c.in_ok-number.ensures.read c.loop-i.invariant.read);
}

pub returns : goal.returns
returns c =
    let whole : take (c.loop-i.i + 1) c.loop-i.numbers ≡ c.loop-i.numbers = take_all _ _ (omega (arith, c.loop-i-test.false, c.loop-i.invariant.places)) in
    rw (is_done number_at (take (c.loop-i.i + 1) c.loop-i.numbers) 15 c.loop-i.i c.loop-i.rest.now _ c.loop-i-test.false c.loop-i.invariant.read ∙ ap (λ (ns : List ℕ). Some (ns, c.loop-i.rest.now)) whole)
    c.listed-2.ensures
