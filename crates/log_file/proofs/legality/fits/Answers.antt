use Rattle.std.proofs.Common.{◌≡◌, ◌∷◌, [], ◌++◌, ap, ◌∙◌, rules}
use Rattle.desk_log.specs.declared.transcript.Run.{Run}
use Rattle.transcript_reader.specs.declared.runs.SiteRun.{SiteRun}
use Rattle.transcript_text.specs.Texts.{MayBegin}
use Rattle.log_judge.specs.Cut.{runs_at}
use Rattle.log_file.specs.Runs.{new_run, with_new}
use Rattle.log_file.proofs.RunLemmas.{only_here, runs_here, same_run}
use Rattle.log_file.proofs.LegalLemmas.{fits_where}
use Rattle.log_file.proofs.legality.fits.Goals as goal

pub are_legal-requires-clause-only : goal.are_legal-requires-clause-only
are_legal-requires-clause-only c =
    let layout = c.args.layout.now in
    let begins : MayBegin layout c.args.site layout.sites c.args.first.now = search rules in
    let it : SiteRun = record { site = c.args.site; run = record { sites = c.sites.result; first = c.in_ok-try_copy.field-0; entries = c.from_vec.result } } in
    let now = (c.in_ok-longer.ensures {u = tt}) c.requires.read.0 layout.sites begins.site_there c.requires.read.1 in
    only_here c.requires.read.0 it layout.sites c.args.transcripts.items c.as_slice.result.now c.requires.read.1 (c.as_slice.ensures.value ∙ now) c.requires.only

pub returns : goal.returns
returns c =
    let layout = c.args.layout.now in
    let old = c.args.transcripts.items in
    let begins : MayBegin layout c.args.site layout.sites c.args.first.now = search rules in
    let it : SiteRun = record { site = c.args.site; run = record { sites = c.sites.result; first = c.in_ok-try_copy.field-0; entries = c.from_vec.result } } in
    let now = (c.in_ok-longer.ensures {u = tt}) c.requires.read.0 layout.sites begins.site_there c.requires.read.1 in
    let same : it.run ≡ new_run layout c.args.first.now =
    same_run c.sites.result layout.sites c.in_ok-try_copy.field-0 c.args.first.now c.from_vec.result [] c.sites.ensures.sites (c.in_ok-try_copy.ensures {u = tt})
    (c.from_vec.ensures ∙ c.new.ensures.items) in
    let behind : runs_at c.as_slice.result.now c.args.site ≡ with_new layout c.args.first.now (runs_at old c.args.site) =
    runs_here c.requires.read.0 it layout.sites old c.as_slice.result.now begins.site_there c.requires.read.1 (c.as_slice.ensures.value ∙ now)
    ∙ ap (λ (run : Run). runs_at old c.args.site ++ run ∷ []) same in
    fits_where layout c.args.site old c.as_slice.result.now c.args.first.now c.in_ok-legal.legal begins behind (c.in_ok-legal.ensures {u = tt})
