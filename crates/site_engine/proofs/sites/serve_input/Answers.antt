use Rattle.std.proofs.Common.{rules, inr, refl}
use Rattle.exit_status.proofs.EngineLemmas.{too_long}
use Rattle.site_engine.proofs.sites.serve_input.Goals as goal

pub returns-else-not-write_too_long-clause-served : goal.returns-else-not-write_too_long-clause-served
returns-else-not-write_too_long-clause-served g c = inr (
  too_long c.args.source.now c.read_input.new.source c.in-Err-TooLong.field-0 c.in-Err-TooLong.field-0-is c.in-Err-TooLong.ensures,
  search rules,
  refl,
)
