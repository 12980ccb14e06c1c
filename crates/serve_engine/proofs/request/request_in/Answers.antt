use Rattle.serve_engine.proofs.LineLemmas.{plain_asks, marked_asks}
use Rattle.serve_engine.proofs.request.request_in.Goals as goal

pub returns-in-Plain : goal.returns-in-Plain
returns-in-Plain c = plain_asks c.args.layout.now c.args.marker.now c.args.line.now c.unmarked_in.result c.in-Plain.is c.unmarked_in.ensures

pub returns-in-Marked : goal.returns-in-Marked
returns-in-Marked c = marked_asks c.args.layout.now c.args.marker.now c.args.line.now c.marked_in.result c.in-Marked.is c.marked_in.ensures
