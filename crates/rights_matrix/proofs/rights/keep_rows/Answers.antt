use Rattle.std.proofs.Common.{arith}
use Rattle.rights_matrix.proofs.KeptLemmas.{kept_everywhere}
use Rattle.rights_matrix.proofs.rights.keep_rows.Goals as goal

pub returns-clause-entries : goal.returns-clause-entries
returns-clause-entries c =
    kept_everywhere _ _ _ _ c.requires.matrix c.loop-i.invariant.size (omega arith) c.loop-i.invariant.done
