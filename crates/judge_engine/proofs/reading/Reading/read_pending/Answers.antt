use Rattle.std.proofs.Common.{◌++◌}
use Rattle.std.proofs.lemmas.Result.{IfOk-weaker}
use Rattle.text_input.specs.Lines.{lines_of}
use Rattle.judge_engine.proofs.ReadingLemmas.{read_behind, some_read}
use Rattle.judge_engine.proofs.reading.Reading.read_pending.Goals as goal

pub read_lines-requires : goal.read_lines-requires
read_lines-requires c = some_read c.args.self.now c.read_joined.new.self _ c.requires c.in_ok-read_joined.ensures.read

pub returns-clause-read : goal.returns-clause-read
returns-clause-read c =
    IfOk-weaker c.read_lines.result _ _
    (λ _ step. read_behind c.args.self.now c.read_joined.new.self c.read_lines.new.self _ _ _ (c.cut_front.ensures c.args.self.now.pending.items) c.in_ok-read_joined.ensures.read step)
    c.read_lines.ensures.read
