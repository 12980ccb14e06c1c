use Rattle.std.proofs.Common.{rules}
use Rattle.live_site.proofs.step.keep_call.Goals as goal

pub returns-then-is_outdated-clause-kept : goal.returns-then-is_outdated-clause-kept
returns-then-is_outdated-clause-kept g c = search rules
