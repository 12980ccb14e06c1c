use Rattle.std.proofs.Common.{rules}
use Rattle.admission_core.proofs.site_core.SiteCore.writer_before_readers.Goals as goal

pub returns : goal.returns
returns c = search rules
