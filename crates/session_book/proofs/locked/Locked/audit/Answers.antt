use Rattle.std.proofs.Common.{◌∙◌}
use Rattle.session_book.proofs.LockedLemmas.{same_vec}
use Rattle.session_book.proofs.locked.Locked.audit.Goals as goal

pub returns-clause-passes : goal.returns-clause-passes
returns-clause-passes g c = same_vec c.args.passes c.audit_all.new.passes (c.audit_all.ensures.passes ∙ c.as_mut_slice.ensures.value)
