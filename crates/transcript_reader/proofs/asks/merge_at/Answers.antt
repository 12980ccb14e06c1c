use Rattle.std.proofs.Common.{◌++◌, codes, ap, List, ℕ}
use Rattle.transcript_reader.proofs.CallLemmas.{no_merge}
use Rattle.transcript_reader.proofs.asks.merge_at.Goals as goal

pub returns-in-Ok : goal.returns-in-Ok
returns-in-Ok c = λ records. (c.in-Ok.ensures.0, ap (λ (t : List ℕ). codes "take " ++ t) c.in-Ok.ensures.1)

pub returns-in-Err : goal.returns-in-Err
returns-in-Err c = λ records. no_merge c.in-Err.e records c.args.bytes.now c.in-Err.ensures
