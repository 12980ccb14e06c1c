use Rattle.std.proofs.Common.{◌≡◌, ◌+◌, ℕ, ◌∙◌, ap, sym, subst}
use Rattle.log_replay.specs.declared.stream.Stage.{Stage}
use Rattle.log_replay.specs.Stream.{HasEnded, IsStage}
use Rattle.log_replay.proofs.StreamLemmas.{clear_left, replayed_on, shown_on}
use Rattle.log_replay.proofs.stream.SiteReplay.add_snapshot.Goals as goal

pub returns-clause-replaying : goal.returns-clause-replaying
returns-clause-replaying c = λ core layout i runs e more later clear shown it.
    let same = c.in_ok-mark_cut.ensures.same in
    let old = c.args.self.now in
    let mid = c.mark_cut.new.self in
    let stage : mid.stage ≡ old.stage = same.1.1.1 in
    replayed_on layout i runs e more later old _ it same.0 (c.in_ok-self.ensures ∙ ap (λ (n : ℕ). n + 1) same.1.0) same.1.1.0
    (subst (IsStage layout i runs more later (old.at + 1)) (sym stage) (shown_on layout i runs e more later old.at core old.stage it.stage clear shown).0)
    (λ going. c.in_ok-mark_cut.ensures.mark layout i runs e more later it (λ over. going (subst HasEnded (sym stage) over)) (clear_left core old.stage clear))
