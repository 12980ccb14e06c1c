use Rattle.std.proofs.Common.{[], None, refl}
use Rattle.judge_engine.proofs.ReadingLemmas.{bytes_none, fresh_knows}
use Rattle.judge_engine.proofs.reading.Reading.new.Goals as goal

pub returns : goal.returns
returns c =
    bytes_none c.args.layout.now c.args.cut.now c.args.keeping [] (record { alloc = c.args.alloc; layout = c.in_ok-layout.layout; logs = c.in_ok-logs.logs; site = None; lines = 0; refused = None; pending = c.new.result }) c.in_ok-layout.ensures refl c.new.ensures.items refl refl
    (fresh_knows c.args.layout.now c.args.cut.now c.args.keeping c.in_ok-logs.logs c.in_ok-logs.ensures.keeping c.in_ok-logs.ensures.logs)
