use Rattle.std.proofs.Common.{◌≡◌, ◌∷◌, [], ◌++◌, ◌∙◌, arith, ap, length, List}
use Rattle.desk_log.specs.declared.transcript.Run.{Run}
use Rattle.desk_log.specs.declared.transcript.Transcript.{Transcript}
use Rattle.transcript_reader.specs.declared.runs.SiteRun.{SiteRun}
use Rattle.transcript_reader.proofs.ReadingLemmas.{length_below, added_at}
use Rattle.log_file.proofs.legality.with_run.Goals as goal

pub index_mut-requires : goal.index_mut-requires
index_mut-requires c =
    let it = c.requires in
    omega (arith, c.from.ensures, it.2, ap (λ (xs : List Transcript). length xs) it.3, length_below it.0 it.1)

pub returns-in-Ok : goal.returns-in-Ok
returns-in-Ok c =
    let alone : c.from_vec.result ≡ c.args.run ∷ [] = cc (c.from_vec.ensures, c.in_ok-push.ensures.items, c.new-runs.ensures.items) in
    let old = c.index_mut.result.now in
    let made = (c.in-Ok.ensures {u = tt}).1 ∙ ap (λ (rs : List Run). record old { runs = old.runs ++ rs }) alone in
    let r : SiteRun = record { site = c.args.site; run = c.args.run } in
    λ rs n below told. added_at rs r n c.from.result c.args.transcripts.items old c.append.new.self c.from.ensures below told c.index_mut.ensures.value made
