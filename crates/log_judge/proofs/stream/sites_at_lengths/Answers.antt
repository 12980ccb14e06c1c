use Rattle.std.proofs.Common.{rules, ◌≡◌, ℕ, [], ◌∙◌, ap, sym, subst, List, length, get_or, arith}
use Rattle.std.proofs.lemmas.List.{length_push}
use Rattle.log_judge.specs.declared.stream.SiteLog.{SiteLog}
use Rattle.log_judge.specs.Cut.{runs_at}
use Rattle.log_judge.specs.Stream.{IsLog}
use Rattle.log_judge.proofs.LogsLemmas.{fresh_more, fresh_all}
use Rattle.log_judge.proofs.stream.sites_at_lengths.Goals as goal

pub sites-preserved : goal.sites-preserved
sites-preserved c =
    let items = c.in_ok-push.ensures.items in
    record {
      number = ap (λ (ls : List SiteLog). length ls) items ∙ omega (arith, length_push c.sites.sites.items c.fresh_log.result, c.sites.invariant.number);
      each = λ keeping ts number k below there none.
          subst (λ (ls : List SiteLog). IsLog c.args.layout.now ts c.args.lengths.now k keeping [] (runs_at ts k) (get_or ls k none)) (sym items)
          (fresh_more keeping c.args.layout.now ts c.args.lengths.now c.sites.sites.items c.sites.i c.fresh_log.result c.sites.invariant.number (c.sites.invariant.each keeping ts number)
          (λ here. c.fresh_log.ensures keeping c.args.layout.now ts c.args.lengths.now c.sites.i (sym (c.length_at-length.ensures ∙ ap (λ (n : ℕ). get_or c.args.lengths.now n 0) c.from-in-sites.ensures))) k below there none);
    }

pub returns : goal.returns
returns c = λ keeping ts number.
    let end : c.sites.i ≡ c.args.layout.now.sites = search (rules, c.sites-test.false, c.sites-i-end.ensures.sites, c.sites.auto) in
    fresh_all c.args.layout.now ts c.args.lengths.now _ (c.sites.invariant.number ∙ end) number (λ k below there none. c.sites.invariant.each keeping ts number k (omega (arith, below, end)) there none)
