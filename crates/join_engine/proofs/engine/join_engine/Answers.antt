use Rattle.std.proofs.Common.{rules, inr}
use Rattle.exit_status.proofs.EngineLemmas.{too_long}
use Rattle.join_engine.proofs.engine.join_engine.Goals as goal

pub returns-in-Err-TooLong : goal.returns-in-Err-TooLong
returns-in-Err-TooLong g c = inr (
  too_long c.args.source.now c.read_into.new.source c.in-Err-TooLong.field-0 c.in-Err-TooLong.field-0-is c.in-Err-TooLong.ensures,
  search rules,
)
