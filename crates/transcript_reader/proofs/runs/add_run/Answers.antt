use Rattle.std.proofs.Common.{◌≡◌, ◌∷◌, [], ◌++◌, ◌∙◌, arith, ap, length, List}
use Rattle.desk_log.specs.declared.transcript.Run.{Run}
use Rattle.desk_log.specs.declared.transcript.Transcript.{Transcript}
use Rattle.transcript_reader.proofs.ReadingLemmas.{length_below, added_at}
use Rattle.transcript_reader.proofs.runs.add_run.Goals as goal
use Rattle.transcript_reader.proofs.runs.add_run.Goals.{in-Ok, in-Err}

pub index_mut-requires : goal.index_mut-requires
index_mut-requires c =
    let it = c.requires in
    omega (arith, c.from.ensures, it.2, ap (λ (xs : List Transcript). length xs) it.3, length_below it.0 it.1)

pub returns : goal.returns
returns c = elim c.match-append.branch [
  | in-Ok w ↦
      let alone : c.from_vec.result ≡ c.args.run.run ∷ [] = cc (c.from_vec.ensures, c.in_ok-push.ensures.items, c.new-runs.ensures.items) in
      let old = c.index_mut.result.now in
      let made = (w.in-Ok.ensures {u = tt}).1 ∙ ap (λ (rs : List Run). record old { runs = old.runs ++ rs }) alone in
      rw w.result-is (λ rs n below told. added_at rs c.args.run n c.from.result c.args.transcripts.now.items old c.append.new.self c.from.ensures below told c.index_mut.ensures.value made)
  | in-Err w ↦ rw w.result-is tt
]
