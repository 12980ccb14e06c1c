use Rattle.std.proofs.Common.{arith}
use Rattle.text_input.specs.Lines.{lines_of}
use Rattle.rebuild_engine.proofs.ReadLemmas.{read_all, read_more, read_none, refused_next}
use Rattle.rebuild_engine.proofs.lines.read_deltas.Goals as goal

pub loop-rest-preserved : goal.loop-rest-preserved
loop-rest-preserved c =
    let it = c.in-Ok.ensures in
    record {
      so_far = read_more c.args.layout.now.records c.args.name.now c.args.alone (lines_of c.args.bytes.now) (lines_of c.loop-rest.rest.now) (lines_of c.cut_line.result.1.now)
          c.cut_line.result.0.now c.loop-rest.number c.loop-rest.deltas.items c.read_line.new.deltas.items it.0 c.loop-rest.invariant.so_far c.cut_line.ensures.lines it.1 it.2 it.3;
      counted = omega (arith, c.loop-rest.invariant.counted, c.cut_line.ensures.shorter);
    }
