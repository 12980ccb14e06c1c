use Rattle.std.proofs.Common.{refl, ap}
use Rattle.admission_model.specs.declared.ask.Call.TheVariants.{Merge}
use Rattle.admission_model.specs.declared.reply.Reply.TheVariants.{Merged}
use Rattle.admission_core.proofs.ServedLemmas.{served_answered}
use Rattle.admission_core.proofs.site_core.SiteCore.merge_accepted.Goals as goal

pub returns-clause-served : goal.returns-clause-served
returns-clause-served c =
    served_answered c.args.self.now c.args.self.now c.join.new.self (Merge c.args.delta.now) _ refl c.requires (ap Merged c.join.ensures.risen) c.join.ensures.account

pub returns-clause-merged : goal.returns-clause-merged
returns-clause-merged c = ap Merged c.join.ensures.risen
