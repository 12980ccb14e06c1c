use Rattle.std.proofs.Common.{rules, ℕ, ◌<◌, ap, sym, subst, ◌∙◌, below_more, get_or, length, arith}
use Rattle.std.proofs.lemmas.List.{get_or_read}
use Rattle.log_judge.specs.declared.stream.SiteLog.{SiteLog}
use Rattle.log_judge.specs.Cut.{IsExcess}
use Rattle.log_judge.specs.Stream.{AreNotAhead, AreTaken}
use Rattle.log_judge.proofs.LogsLemmas.{log_exceeds, log_within, consistent_verdict, open_here}
use Rattle.log_judge.proofs.stream.Logs.compared.Goals as goal

pub returns-in-Some : goal.returns-in-Some
returns-in-Some c = λ ts cut all is_cut going told guess.
    let log = c.index-log.result.now in
    let logs = c.args.self.now in
    log_exceeds c.args.layout.now ts cut logs c.args.tables.now all is_cut going told guess c.sites.site log c.in-Some.it
    (omega (arith, c.sites-test.true, c.sites-site-end.ensures.sites, c.requires)) (c.index-log.ensures ∙ ap (λ (n : ℕ). get_or logs.sites.items n log) c.from.ensures)
    (λ accounts lists to taken told. c.in-Some.ensures.found accounts lists to (subst (AreTaken accounts lists 0 to) (sym c.as_slice.ensures.value) taken) told)
    (c.sites.invariant.within ts cut all is_cut going told guess)

pub returns-then-is_some : goal.returns-then-is_some
returns-then-is_some c =
    let log = c.index-log.result.now in
    let logs = c.args.self.now in
    open_here c.args.tables.now logs.sites.items c.sites.site log
    (omega (arith, c.sites-test.true, c.sites-site-end.ensures.sites, c.requires)) (c.index-log.ensures ∙ ap (λ (n : ℕ). get_or logs.sites.items n log) c.from.ensures)
    (search (rules, c.is_some.ensures, c.if-is_some.true)) (subst (AreNotAhead c.args.tables.now) c.as_slice.ensures.value c.in_default.ensures.none) c.sites.invariant.none_ahead

pub sites-preserved : goal.sites-preserved
sites-preserved c =
    let log = c.index-log.result.now in
    let logs = c.args.self.now in
    let below : c.sites.site < length logs.sites.items = omega (arith, c.sites-test.true, c.sites-site-end.ensures.sites, c.requires) in
    let same = c.index-log.ensures ∙ ap (λ (n : ℕ). get_or logs.sites.items n log) c.from.ensures in
    record {
      none_ahead = below_more (λ k. (none : SiteLog) → AreNotAhead c.args.tables.now (get_or logs.sites.items k none).taken.items) c.sites.site c.sites.invariant.none_ahead
          (λ none. subst (λ (l : SiteLog). AreNotAhead c.args.tables.now l.taken.items) (get_or_read logs.sites.items c.sites.site log below same none) (subst (AreNotAhead c.args.tables.now) c.as_slice.ensures.value c.in_default.ensures.none));
      within = λ ts cut all is_cut going told guess.
          below_more (λ k. (at r s : ℕ) → ¬ IsExcess c.args.layout.now ts cut k at r s) c.sites.site (c.sites.invariant.within ts cut all is_cut going told guess)
          (log_within c.args.layout.now ts cut logs c.args.tables.now all is_cut going told guess c.sites.site log below same (search (rules, c.is_some.ensures, c.if-is_some.false))
          (λ accounts lists to taken told. c.in_default.ensures.found accounts lists to (subst (AreTaken accounts lists 0 to) (sym c.as_slice.ensures.value) taken) told));
    }

pub returns : goal.returns
returns c = λ ts cut all is_cut going told guess.
    consistent_verdict c.args.layout.now ts cut c.args.self.now all is_cut going
    (λ k below. c.sites.invariant.within ts cut all is_cut going told guess k (omega (arith, below, c.sites-test.false, c.sites-site-end.ensures.sites, all.number)))
