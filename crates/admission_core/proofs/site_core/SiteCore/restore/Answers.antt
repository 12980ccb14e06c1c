use Rattle.admission_core.proofs.RestoringCores.{own_made}
use Rattle.admission_core.proofs.site_core.SiteCore.restore.Goals as goal

pub returns-clause-own : goal.returns-clause-own
returns-clause-own c = own_made c.args.layout c.args.site c.args.durable _ c.restored.ensures.layout c.restored.ensures.answer
