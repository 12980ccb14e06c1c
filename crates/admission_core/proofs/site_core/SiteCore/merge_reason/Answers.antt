use Rattle.std.proofs.Common.{rules}
use Rattle.admission_core.proofs.site_core.SiteCore.merge_reason.Goals as goal

pub returns-in-Ok : goal.returns-in-Ok
returns-in-Ok c = search rules
