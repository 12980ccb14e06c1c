use Rattle.std.proofs.Common.{arith}
use Rattle.layout_line.proofs.LineLemmas.{one_reading, records_free, unread}
use Rattle.serve_engine.proofs.digests.records_in.Goals as goal

pub returns-in-Ok : goal.returns-in-Ok
returns-in-Ok c =
    let layout = c.args.layout.now in
    (one_reading c.args.line.now c.in-Ok.records.now _ _ layout.sites c.in-Ok.ensures.read (records_free layout.records) (omega arith) c.requires).1

pub returns-in-Err : goal.returns-in-Err
returns-in-Err c =
    let layout = c.args.layout.now in
    absurd (unread c.in-Err.field-0 c.args.line.now _ layout.sites c.in-Err.ensures.no_memory c.in-Err.ensures.read (records_free layout.records) (omega arith) c.requires)
