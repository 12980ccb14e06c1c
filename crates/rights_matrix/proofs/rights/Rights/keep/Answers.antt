use Rattle.rights_matrix.proofs.RightsLemmas.{kept_read}
use Rattle.rights_matrix.proofs.rights.Rights.keep.Goals as goal

pub returns-clause-rights : goal.returns-clause-rights
returns-clause-rights c = kept_read _ _ _ _ c.self.view_is c.keep_rows.ensures.size c.keep_rows.ensures.widths c.keep_rows.ensures.entries
