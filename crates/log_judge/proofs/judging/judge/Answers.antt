use Rattle.std.proofs.Common.{subst}
use Rattle.log_judge.specs.declared.judging.Judged.{Judged}
use Rattle.log_judge.specs.Judging.{IsJudged}
use Rattle.log_judge.specs.Verdict.{IsVerdict}
use Rattle.log_judge.proofs.VerdictLemmas.{safe_verdict}
use Rattle.log_judge.proofs.judging.judge.Goals as goal

pub returns-in-Faulty-clause-safe : goal.returns-in-Faulty-clause-safe
returns-in-Faulty-clause-safe c = λ consistent.
    let right : IsVerdict c.args.layout.now c.args.transcripts.now c.args.cut.now c.in-Faulty.verdict = subst (λ (j : Judged). IsJudged c.args.layout.now c.args.transcripts.now c.args.cut.now j) c.in-Faulty.is c.in_ok-verdict.ensures in
    safe_verdict c.args.layout.now c.args.transcripts.now c.args.cut.now c.in-Faulty.verdict c.sites.ensures.layout c.requires.number right (cc)

pub returns-in-Legal-clause-safe : goal.returns-in-Legal-clause-safe
returns-in-Legal-clause-safe c = λ consistent.
    safe_verdict c.args.layout.now c.args.transcripts.now c.args.cut.now c.compared.result c.sites.ensures.layout c.requires.number c.compared.ensures (cc)
