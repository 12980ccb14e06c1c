use Rattle.std.proofs.Common.{refl, sym, subst}
use Rattle.std.proofs.lemmas.Option.{MatchOption-at_none, MatchOption-at_some}
use Rattle.transcript_reader.specs.Reading.{transcripts_below}
use Rattle.judge_engine.specs.Cuts.{lengths_of}
use Rattle.judge_engine.specs.Engine.{IsJudgement}
use Rattle.judge_engine.proofs.JudgeLemmas.{runs_of_sites}
use Rattle.judge_engine.proofs.FilesLemmas.{judgement_ends, readings_differ}
use Rattle.judge_engine.proofs.files.judge_again.Goals as goal

pub judgement-requires : goal.judgement-requires
judgement-requires g c =
    let layout = c.args.layout.now in
    let read = c.in-Ok-read_all.ensures in
    (transcripts_below read.0 layout.sites, runs_of_sites layout read.0, read.2.all)

pub returns : goal.returns
returns g c = λ keeping runs first_read first_logs unknown.
    let layout = c.args.layout.now in
    let read = c.in-Ok-read_all.ensures in
    let ts = transcripts_below read.0 layout.sites in
    let told = MatchOption-at_some _ _ c.in-Some.text c.in-Some.is c.in-Ok-judgement.ensures in
    judgement_ends layout c.args.cut.now (g.F.LogFiles.holds c.args.files.now) (g.F.LogFiles.fails c.args.files.now) (g.F.LogFiles.number c.args.files.now) read.0 c.args.sink.now c.write_judgement.new.sink
    c.as_str.result.now c.write_judgement.result read.1
    (subst (IsJudgement layout ts (lengths_of c.args.cut.now ts)) (sym c.as_str.ensures.value) (told ts (runs_of_sites layout read.0) read.2.all)) c.write_judgement.ensures

pub returns-in_default-answer : goal.returns-in_default-answer
returns-in_default-answer g c = λ keeping runs first_read first_logs unknown.
    let layout = c.args.layout.now in
    let read = c.in-Ok-read_all.ensures in
    let again = MatchOption-at_none _ _ c.in_default-answer.is c.in-Ok-judgement.ensures in
    let differ = readings_differ layout c.args.cut.now keeping c.in-Ok.tables runs read.0 c.args.first c.in-Ok-read_all.again first_logs unknown c.in-Ok.ensures read.2 again in
    (record { first = runs; second = read.0; read_first = first_read; read_second = read.1; differ = differ }, refl)
