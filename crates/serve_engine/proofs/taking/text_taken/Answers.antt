use Rattle.std.proofs.Common.{rules}
use Rattle.serve_engine.proofs.taking.text_taken.Goals as goal

pub returns-in_default : goal.returns-in_default
returns-in_default c = search rules
