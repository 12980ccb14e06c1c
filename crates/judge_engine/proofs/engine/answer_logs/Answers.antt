use Rattle.std.proofs.Common.{rules, ◌∙◌, subst}
use Rattle.std.proofs.lemmas.Option.{MatchOption-at_some}
use Rattle.text_input.specs.Sink.{Writes}
use Rattle.judge_engine.proofs.JudgeLemmas.{all_read, is_judged, is_told, one_refused}
use Rattle.judge_engine.proofs.engine.answer_logs.Goals as goal

pub judgement-requires : goal.judgement-requires
judgement-requires g c =
    let layout = c.args.layout.now in
    let cut = c.args.cut.now in
    let it = c.in-Ok.reading in
    let so = all_read layout cut c.requires.0 it.layout it.refused it.site it.logs c.in-None.is (c.in-Ok.ensures layout cut c.requires.0 c.requires.1) in
    (so.0, so.2, so.3)

pub unwrap-text-requires : goal.unwrap-text-requires
unwrap-text-requires g c =
    let layout = c.args.layout.now in
    let cut = c.args.cut.now in
    let it = c.in-Ok.reading in
    is_told _ _ c.in-Ok-judgement.answer c.in-Ok-judgement.ensures
    (is_judged layout cut c.requires.0 it.layout it.refused it.site it.logs c.in-None.is (c.in-Ok.ensures layout cut c.requires.0 c.requires.1))

pub returns-in-None : goal.returns-in-None
returns-in-None g c = λ bytes taken.
    let layout = c.args.layout.now in
    let cut = c.args.cut.now in
    let it = c.in-Ok.reading in
    let so = all_read layout cut bytes it.layout it.refused it.site it.logs c.in-None.is (c.in-Ok.ensures layout cut bytes taken) in
    let written : Writes c.args.sink.now c.write_and_flush.new.self c.as_str.result.now = search rules in
    let told = MatchOption-at_some _ _ c.unwrap-text.result c.unwrap-text.ensures c.in-Ok-judgement.ensures in
    record {
      transcripts = so.0;
      text = _;
      read = so.1;
      judged = told so.0 so.2 so.3;
      written = subst (Writes c.args.sink.now c.write_and_flush.new.self) c.as_str.ensures.value written;
    }

pub returns : goal.returns
returns g c = λ bytes taken.
    let layout = c.args.layout.now in
    let cut = c.args.cut.now in
    let it = c.in-Ok.reading in
    let written : Writes c.args.sink.now c.write_and_flush-in-Some.new.self c.as_str-in-Some.result.now = search rules in
    record {
      number = c.in-Some.line;
      refused = one_refused layout cut bytes it.layout it.refused it.site it.logs c.in-Some.line c.in-Some.is (c.in-Ok.ensures layout cut bytes taken);
      written = subst (Writes c.args.sink.now c.write_and_flush-in-Some.new.self) (c.as_str-in-Some.ensures.value ∙ c.in-Ok-refusal_line.ensures) written;
    }
