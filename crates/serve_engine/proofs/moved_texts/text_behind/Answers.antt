use Rattle.std.proofs.Common.{Some}
use Rattle.serve_engine.specs.declared.marks.Marking.TheVariants.{Marked}
use Rattle.serve_engine.specs.Requests.{terms_of}
use Rattle.serve_engine.proofs.moved_texts.text_behind.Goals as goal

pub returns : goal.returns
returns c = c.text_taken.ensures (terms_of c.args.layout.now (Some c.args.word.now) Marked) c.args.layout.now c.in_ok-marker.ensures
