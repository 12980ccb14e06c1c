use Rattle.std.proofs.Common.{rules, inr}
use Rattle.exit_status.proofs.EngineLemmas.{too_long}
use Rattle.judge_engine.proofs.JudgeLemmas.{ends_judge}
use Rattle.judge_engine.proofs.engine.judge_engine.Goals as goal

pub answer_logs-requires : goal.answer_logs-requires
answer_logs-requires g c =
    let read = c.in-Ok-read_into.ensures in
    (read.0, read.2 c.args.layout.now c.args.cut.now c.in-Ok.ensures)

pub returns-in-Ok-read_into : goal.returns-in-Ok-read_into
returns-in-Ok-read_into g c =
    let layout = c.args.layout.now in
    let cut = c.args.cut.now in
    let read = c.in-Ok-read_into.ensures in
    ends_judge layout cut read.0 c.args.source.now c.read_into.new.source c.args.sink.now c.answer_logs.new.sink c.answer_logs.result read.1
    (c.answer_logs.ensures read.0 (read.2 layout cut c.in-Ok.ensures))

pub returns-in-Err-TooLong : goal.returns-in-Err-TooLong
returns-in-Err-TooLong g c = inr (
  too_long c.args.source.now c.read_into.new.source c.in-Err-TooLong.field-0 c.in-Err-TooLong.field-0-is c.in-Err-TooLong.ensures,
  search rules,
)
