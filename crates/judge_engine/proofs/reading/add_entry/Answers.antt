use Rattle.judge_engine.proofs.ReadingLemmas.{adds_ready, adds_knows}
use Rattle.judge_engine.proofs.reading.add_entry.Goals as goal

pub add_entry-requires : goal.add_entry-requires
add_entry-requires c =
    let it = c.requires in
    adds_ready it.0 it.1 it.2 it.3 it.4 c.args.site c.args.logs.now c.args.entry it.5 it.6

pub returns : goal.returns
returns c = λ layout cut keeping earlier front line fits is knows.
    adds_knows layout cut keeping earlier front c.args.site c.args.logs.now c.add_entry.new.self line c.args.entry fits is knows c.in_ok-add_entry.ensures.keeping c.in_ok-add_entry.ensures.logs
