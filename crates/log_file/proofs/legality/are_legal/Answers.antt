use Rattle.std.proofs.Common.{◌≡◌, ℕ, ◌<◌, List, length, replicate, arith, ap, rules}
use Rattle.desk_log.specs.declared.transcript.Transcript.{Transcript}
use Rattle.transcript_reader.proofs.ReadingLemmas.{length_below}
use Rattle.log_file.proofs.LegalLemmas.{are_of_sites, legal_verdict}
use Rattle.log_file.proofs.legality.are_legal.Goals as goal

pub judge-requires : goal.judge-requires
judge-requires c = are_of_sites c.args.layout.now c.requires.read.0 c.args.transcripts.now c.requires.read.1

pub returns : goal.returns
returns c =
    let ts = c.args.transcripts.now in
    let layout = c.args.layout.now in
    let there : c.args.site < length ts = omega (arith, c.requires.there, ap (λ (xs : List Transcript). length xs) c.requires.read.1, length_below c.requires.read.0 layout.sites) in
    let zeros : c.as_slice.result.now ≡ replicate {A = ℕ} (length ts) 0 = search rules in
    let both = legal_verdict layout ts c.as_slice.result.now c.args.site zeros c.requires.only c.in_ok-verdict.verdict there (c.in_ok-verdict.ensures {u = tt}).verdict in
    (λ is. both.0 (c.is_consistent.ensures.0 is), λ legal. c.is_consistent.ensures.1 (both.1 legal))
