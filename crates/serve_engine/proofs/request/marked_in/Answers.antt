use Rattle.serve_engine.proofs.LineLemmas.{takes_none, takes_text, takes_fault}
use Rattle.serve_engine.proofs.request.marked_in.Goals as goal

pub returns-in_default : goal.returns-in_default
returns-in_default c = takes_none c.args.layout.now c.args.marker.now c.args.line.now c.unmarked_in.result c.in_default.ensures c.unmarked_in.ensures

pub returns-in-Ok : goal.returns-in-Ok
returns-in-Ok c =
    takes_text c.args.layout.now c.args.marker.now c.args.line.now c.in-Some.bytes.now c.in-Ok.text.now c.taken_text.result c.in-Some.ensures c.in-Ok.ensures c.taken_text.ensures

pub returns-in-Err : goal.returns-in-Err
returns-in-Err c = takes_fault c.args.layout.now c.args.marker.now c.args.line.now c.in-Some.bytes.now c.in-Err.fault c.in-Some.ensures c.in-Err.ensures
