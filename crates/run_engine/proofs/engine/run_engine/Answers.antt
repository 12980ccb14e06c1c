use Rattle.std.proofs.Common.{rules, inr, refl}
use Rattle.exit_status.proofs.EngineLemmas.{too_long}
use Rattle.run_engine.proofs.engine.run_engine.Goals as goal

pub returns-else-not-write_too_long : goal.returns-else-not-write_too_long
returns-else-not-write_too_long g c = (
  inr (
    too_long c.args.source.now c.read_input.new.source c.in-Err-TooLong.field-0 c.in-Err-TooLong.field-0-is c.in-Err-TooLong.ensures,
    search rules,
  ),
  refl,
)
