use Rattle.std.proofs.Common.{rules, ◌≡◌, [], ◌∷◌, subst}
use Rattle.log_replay.specs.declared.stream.Stage.{Stage}
use Rattle.log_replay.specs.Stream.{IsStage, left_of}
use Rattle.log_replay.proofs.StreamLemmas.{mark_at}
use Rattle.log_replay.proofs.stream.SiteReplay.mark_cut.Goals as goal

pub returns-in_ok-own_rows-clause-mark : goal.returns-in_ok-own_rows-clause-mark
returns-in_ok-own_rows-clause-mark c = λ layout i runs e more later it going none.
    mark_at layout i runs e more later c.args.self.now c.in-Open.core c.in-Open.field-1.items c.in_ok-own_rows.field-0 (search rules) it
    (λ stage. subst (λ (s : Stage). IsStage layout i runs (e ∷ more) later c.args.self.now.at s) c.in-Open.is stage)
    (subst (λ (s : Stage). left_of s ≡ []) c.in-Open.is none) c.in_ok-own_rows.ensures
