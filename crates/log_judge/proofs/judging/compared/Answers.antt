use Rattle.std.proofs.Common.{ℕ, ◌<◌, [], length, Some, None, below_more, ◌∙◌, arith}
use Rattle.std.proofs.lemmas.List.{get_or_read}
use Rattle.log_judge.specs.Cut.{IsExcess}
use Rattle.log_judge.proofs.VerdictLemmas.{site_exceeds, site_within, all_within, found_there, runs_read}
use Rattle.log_judge.proofs.judging.compared.Goals as goal

pub returns-in-Some : goal.returns-in-Some
returns-in-Some c =
    let ts = c.args.transcripts.now in
    let here : c.sites.i < length ts = omega (arith, c.sites-test.true, c.sites-i-end.ensures.sites, c.requires.number) in
    let at_here : c.from-at.result < length ts = omega (arith, here, c.from-at.ensures) in
    site_exceeds c.args.layout.now ts c.args.cut.now c.args.histories.now.own.items c.args.histories.now.kept.items c.sites.i c.in-Some.it
    c.sites-i-end.ensures.layout c.requires.number c.requires.histories c.requires.cut here c.sites.invariant
    (found_there (Some c.in-Some.it) ts c.args.cut.now c.args.histories.now.own.items c.as_slice-own.result.now c.args.histories.now.kept.items c.as_slice-flags.result.now c.as_slice.result.now c.from-at.result c.sites.i
    c.as_slice-own.ensures.value c.from-at.ensures (c.as_slice-flags.ensures ∙ get_or_read c.args.histories.now.kept.items c.from-at.result c.index.result.now (omega (arith, at_here, c.requires.histories.kept_number)) c.index.ensures [])
    (runs_read ts c.from-at.result c.index-transcripts-at.result c.as_slice.result.now at_here c.index-transcripts-at.is c.as_slice.ensures) c.in-Some.ensures)

pub sites-preserved : goal.sites-preserved
sites-preserved c =
    let ts = c.args.transcripts.now in
    let here : c.sites.i < length ts = omega (arith, c.sites-test.true, c.sites-i-end.ensures.sites, c.requires.number) in
    let at_here : c.from-at.result < length ts = omega (arith, here, c.from-at.ensures) in
    below_more (λ k. (at r s : ℕ) → ¬ IsExcess c.args.layout.now ts c.args.cut.now k at r s) c.sites.i c.sites.invariant
    (site_within c.args.layout.now ts c.args.cut.now c.args.histories.now.own.items c.args.histories.now.kept.items c.sites.i
    c.sites-i-end.ensures.layout c.requires.number c.requires.histories here
    (found_there None ts c.args.cut.now c.args.histories.now.own.items c.as_slice-own.result.now c.args.histories.now.kept.items c.as_slice-flags.result.now c.as_slice.result.now c.from-at.result c.sites.i
    c.as_slice-own.ensures.value c.from-at.ensures (c.as_slice-flags.ensures ∙ get_or_read c.args.histories.now.kept.items c.from-at.result c.index.result.now (omega (arith, at_here, c.requires.histories.kept_number)) c.index.ensures [])
    (runs_read ts c.from-at.result c.index-transcripts-at.result c.as_slice.result.now at_here c.index-transcripts-at.is c.as_slice.ensures) c.in_default.ensures))

pub returns : goal.returns
returns c =
    all_within c.args.layout.now c.args.transcripts.now c.args.cut.now c.args.histories.now.own.items c.args.histories.now.kept.items c.requires.histories c.requires.cut
    (λ k below. c.sites.invariant k (omega (arith, below, c.sites-test.false, c.sites-i-end.ensures.sites, c.requires.number)))
