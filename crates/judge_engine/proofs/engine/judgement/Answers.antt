use Rattle.std.proofs.Common.{rules, ◌≡◌, ◌++◌, ◌∙◌, ℕ, List, Option, None, Some, MatchOption, true, false, ap₂, sym, subst}
use Rattle.std.proofs.lemmas.Bool.{false≢true}
use Rattle.log_judge.specs.declared.verdict.Verdict.{Verdict}
use Rattle.log_judge.specs.declared.verdict.Verdict.TheVariants.{BadCut, Consistent}
use Rattle.log_judge.specs.Cut.{cut_account}
use Rattle.log_judge.specs.Stream.{HasNoFault, IsUntold}
use Rattle.log_judge.specs.Verdict.{IsCut, IsVerdict}
use Rattle.log_judge.proofs.VerdictLemmas.{safe_verdict}
use Rattle.judge_engine.specs.Cuts.{lengths_of}
use Rattle.judge_engine.proofs.JudgeLemmas.{behind_table, judged}
use Rattle.judge_engine.proofs.engine.judgement.Goals as goal

pub returns-then-not-is_cut : goal.returns-then-not-is_cut
returns-then-not-is_cut c = λ ts of all.
    let layout = c.args.layout.now in
    let cut = lengths_of c.args.cut.now ts in
    let slice = c.as_slice-lengths.result.now in
    let no : c.is_cut.result ≡ false = search rules in
    let same : slice ≡ cut = c.as_slice-lengths.ensures.value ∙ c.in_ok-lengths.ensures layout ts cut all in
    judged layout ts cut slice _ BadCut same
    (λ is_cut. false≢true (sym no ∙ (c.is_cut.ensures layout ts cut all).1 is_cut))
    (λ wrong. absurd (let differ : ◌≡◌ {A = Verdict} BadCut Consistent = wrong in cc)) c.in_ok-line.ensures

pub returns-in_default : goal.returns-in_default
returns-in_default c =
    let layout = c.args.layout.now in
    let logs = c.args.logs.now in
    let slice = c.as_slice-lengths.result.now in
    let yes : c.is_cut.result ≡ true = search rules in
    let none : c.in_ok-verdict.field-0 ≡ None = search rules in
    record {
      legal = subst (λ (o : Option Verdict). MatchOption o (HasNoFault logs.sites.items) (λ _. Unit {0})) none c.in_ok-verdict.ensures.legal;
      is_cut = λ ts all.
          let cut = lengths_of c.args.cut.now ts in
          let same : slice ≡ cut = c.as_slice-lengths.ensures.value ∙ c.in_ok-lengths.ensures layout ts cut all in
          subst (IsCut ts) same ((c.is_cut.ensures layout ts cut all).0 yes);
      untold = λ ts all.
          let cut = lengths_of c.args.cut.now ts in
          let same : slice ≡ cut = c.as_slice-lengths.ensures.value ∙ c.in_ok-lengths.ensures layout ts cut all in
          let is_cut : IsCut ts cut = subst (IsCut ts) same ((c.is_cut.ensures layout ts cut all).0 yes) in
          subst (λ (o : Option Verdict). MatchOption o (IsUntold logs.keeping logs.sites.items (cut_account layout ts cut)) (λ _. Unit {0})) none (c.in_ok-verdict.ensures.untold ts cut all is_cut);
    }

pub cut_table-requires : goal.cut_table-requires
cut_table-requires c =
    let it = c.requires in
    let yes : c.is_cut.result ≡ true = search rules in
    let is_cut = (c.is_cut.ensures c.args.layout.now it.0 (lengths_of c.args.cut.now it.0) it.2).0 yes in
    is_cut.number ∙ (it.2.number ∙ sym it.2.sites)

pub returns : goal.returns
returns c = λ ts of all.
    let layout = c.args.layout.now in
    let cut = lengths_of c.args.cut.now ts in
    let slice = c.as_slice-lengths.result.now in
    let verdict = c.in-Some.verdict in
    let same : slice ≡ cut = c.as_slice-lengths.ensures.value ∙ c.in_ok-lengths.ensures layout ts cut all in
    let yes : c.is_cut.result ≡ true = search rules in
    let some : c.in_ok-verdict.field-0 ≡ Some verdict = search rules in
    let is_cut : IsCut ts slice = (c.is_cut.ensures layout ts cut all).0 yes in
    let judgement : IsVerdict layout ts cut verdict =
    subst (λ (o : Option Verdict). MatchOption o (Unit {0}) (IsVerdict layout ts cut)) some (c.in_ok-verdict.ensures.right ts cut all (subst (IsCut ts) same is_cut)) in
    let right : IsVerdict layout ts slice verdict = subst (λ (l : List ℕ). IsVerdict layout ts l verdict) (sym same) judgement in
    let other : ¬ (verdict ≡ BadCut) = λ bad. (subst (IsVerdict layout ts slice) bad right) is_cut in
    judged layout ts cut slice _ verdict same right (safe_verdict layout ts slice verdict c.sites-sites.ensures.layout all.number right)
    (c.in_ok-push_str.ensures.bytes
    ∙ (ap₂ (λ (a b : List ℕ). a ++ b) (c.in_ok-text.ensures layout ts cut of all) (c.as_str.ensures.value ∙ c.in_ok-line-2.ensures)
    ∙ behind_table layout.records ts slice verdict other))
