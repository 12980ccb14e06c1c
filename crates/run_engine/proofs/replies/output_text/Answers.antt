use Rattle.std.proofs.Common.{rules, ◌≡◌, ℕ, List, Ok, ap, subst, ◌∙◌}
use Rattle.log_judge.specs.Cut.{full_cut}
use Rattle.log_judge.specs.Verdict.{IsSafeCut, IsVerdict}
use Rattle.run_engine.proofs.replies.output_text.Goals as goal

pub returns : goal.returns
returns c =
    let layout = c.args.layout.now in
    let ts = c.args.transcripts.now in
    let verdict = c.in_ok-verdict.verdict in
    let is : c.as_slice.result.now ≡ full_cut ts = c.as_slice.ensures.value ∙ c.in_ok-cut.ensures in
    record {
      verdict = verdict;
      right = subst (λ (cut : List ℕ). IsVerdict layout ts cut verdict) is c.in_ok-verdict.ensures.verdict;
      safe = λ e r. subst (λ (cut : List ℕ). IsSafeCut layout ts cut r) is (c.in_ok-verdict.ensures.safe (ap Ok e) r);
      is_text = search rules;
    }
