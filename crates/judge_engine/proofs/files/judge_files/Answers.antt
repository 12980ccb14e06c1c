use Rattle.std.proofs.Common.{sym, subst}
use Rattle.std.proofs.lemmas.Option.{MatchOption-at_none, MatchOption-at_some}
use Rattle.log_judge.specs.declared.keeping.Keeping.TheVariants.{First}
use Rattle.transcript_reader.specs.Reading.{transcripts_below}
use Rattle.judge_engine.specs.Cuts.{lengths_of}
use Rattle.judge_engine.specs.Engine.{IsJudgement}
use Rattle.judge_engine.proofs.JudgeLemmas.{runs_of_sites}
use Rattle.judge_engine.proofs.FilesLemmas.{judgement_ends}
use Rattle.judge_engine.proofs.files.judge_files.Goals as goal

pub judgement-requires : goal.judgement-requires
judgement-requires g c =
    let layout = c.args.layout.now in
    let read = c.in-Ok.ensures in
    (transcripts_below read.0 layout.sites, runs_of_sites layout read.0, read.2.all)

pub returns : goal.returns
returns g c =
    let layout = c.args.layout.now in
    let read = c.in-Ok.ensures in
    let ts = transcripts_below read.0 layout.sites in
    let told = MatchOption-at_some _ _ c.in-Some.text c.in-Some.is c.in-Ok-judgement.ensures in
    judgement_ends layout c.args.cut.now (g.F.LogFiles.holds c.args.files.now) (g.F.LogFiles.fails c.args.files.now) (g.F.LogFiles.number c.args.files.now) read.0 c.args.sink.now c.write_judgement.new.sink
    c.as_str.result.now c.write_judgement.result read.1
    (subst (IsJudgement layout ts (lengths_of c.args.cut.now ts)) (sym c.as_str.ensures.value) (told ts (runs_of_sites layout read.0) read.2.all)) c.write_judgement.ensures

pub returns-in_default-answer : goal.returns-in_default-answer
returns-in_default-answer g c =
    let read = c.in-Ok.ensures in
    let unknown = MatchOption-at_none _ _ c.in_default-answer.is c.in-Ok-judgement.ensures in
    c.judge_again.ensures (First 64) read.0 read.1 read.2 unknown
