use Rattle.std.proofs.Common.{arith}
use Rattle.text_input.specs.Lines.{lines_of}
use Rattle.join_engine.proofs.LineLemmas.{joined_line}
use Rattle.join_engine.proofs.lines.join_lines.Goals as goal

pub loop-rest-preserved : goal.loop-rest-preserved
loop-rest-preserved c =
    let joined = c.in-Ok.ensures in
    record {
      so_far = joined_line (lines_of c.args.bytes.now) (lines_of c.loop-rest.rest.now) (lines_of c.cut_line.result.1.now) c.cut_line.result.0.now c.loop-rest.number joined.0 c.args.book.now c.loop-rest.book c.join_line.new.book c.loop-rest.invariant.so_far c.cut_line.ensures.lines joined.1 joined.2 joined.3 joined.4;
      counted = omega (arith, c.loop-rest.invariant.counted, c.cut_line.ensures.shorter);
    }
