use Rattle.text_parts.proofs.NumberLaws.{stops, overflows, goes_on, ends}
use Rattle.text_parts.proofs.numbers.digits.Goals as goal

pub returns-then-not-is_ascii_digit-clause-read : goal.returns-then-not-is_ascii_digit-clause-read
returns-then-not-is_ascii_digit-clause-read c = stops c.args.first c.loop-i.number c.loop-i.i c.args.bytes.now c.loop-i-test.true (cc) c.loop-i.invariant

pub returns-in-None-clause-read : goal.returns-in-None-clause-read
returns-in-None-clause-read c = overflows c.args.first c.loop-i.number c.loop-i.i c.args.bytes.now c.loop-i-test.true (cc) c.in-None.ensures c.loop-i.invariant

pub loop-i-preserved : goal.loop-i-preserved
loop-i-preserved c = goes_on c.args.first c.loop-i.number c.loop-i.i c.in-Some.more c.args.bytes.now c.loop-i-test.true (cc) c.in-Some.ensures c.loop-i.invariant

pub returns-clause-read : goal.returns-clause-read
returns-clause-read c = ends c.args.first c.loop-i.number c.loop-i.i c.args.bytes.now c.loop-i-test.false c.loop-i.invariant
