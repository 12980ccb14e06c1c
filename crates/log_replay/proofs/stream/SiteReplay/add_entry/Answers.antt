use Rattle.std.proofs.Common.{◌≡◌, [], ◌∷◌, ◌+◌, ◌∙◌, ℕ, Bool, false, true, Some, ap, sym, subst}
use Rattle.log_replay.specs.declared.stream.Stage.{Stage}
use Rattle.log_replay.specs.Stream.{HasEnded, IsHandedBack, IsStage, IsTried, left_of}
use Rattle.log_replay.proofs.StreamLemmas.{replayed_on, tried_back, tried_ended, tried_free, tried_left, tried_on}
use Rattle.log_replay.proofs.stream.SiteReplay.add_entry.Goals as goal

pub returns-then-branch-clause-replaying : goal.returns-then-branch-clause-replaying
returns-then-branch-clause-replaying c = λ layout i runs more later it.
    let same = c.in_ok-mark_cut.ensures.same in
    let old = c.args.self.now in
    let mid = c.mark_cut.new.self in
    let new = c.followed_at.new.stage in
    let stage : mid.stage ≡ old.stage = same.1.1.1 in
    let at : mid.at ≡ old.at = same.1.0 in
    let tried : IsTried mid.stage c.args.entry true new = subst (λ (ok : Bool). IsTried mid.stage c.args.entry ok new) c.if-branch.true c.in_ok-followed_at.ensures in
    replayed_on layout i runs c.args.entry more later old _ it same.0 (c.in_ok-self.ensures ∙ ap (λ (n : ℕ). n + 1) at) same.1.1.0
    (tried_on layout i runs c.args.entry more later old.at mid.stage new tried (subst (IsStage layout i runs (c.args.entry ∷ more) later old.at) (sym stage) it.stage))
    (λ going. c.in_ok-mark_cut.ensures.mark layout i runs c.args.entry more later it
    (λ over. going (tried_ended c.args.entry true mid.stage new tried (subst HasEnded (sym stage) over)))
    (subst (λ (s : Stage). left_of s ≡ []) stage (tried_free c.args.entry mid.stage new tried)))

pub returns-then-branch-clause-back : goal.returns-then-branch-clause-back
returns-then-branch-clause-back c =
    let mid = c.mark_cut.new.self in
    let new = c.followed_at.new.stage in
    tried_back c.args.entry mid.stage new (subst (λ (ok : Bool). IsTried mid.stage c.args.entry ok new) c.if-branch.true c.in_ok-followed_at.ensures)

pub returns-then-branch-clause-free : goal.returns-then-branch-clause-free
returns-then-branch-clause-free c = λ going.
    let mid = c.mark_cut.new.self in
    let new = c.followed_at.new.stage in
    subst (λ (s : Stage). left_of s ≡ []) c.in_ok-mark_cut.ensures.same.1.1.1
    (tried_free c.args.entry mid.stage new (subst (λ (ok : Bool). IsTried mid.stage c.args.entry ok new) c.if-branch.true c.in_ok-followed_at.ensures))

pub returns-then-branch-clause-ended : goal.returns-then-branch-clause-ended
returns-then-branch-clause-ended c = λ over.
    let mid = c.mark_cut.new.self in
    tried_ended c.args.entry c.in_ok-followed_at.field-0 mid.stage c.followed_at.new.stage c.in_ok-followed_at.ensures (subst HasEnded (sym c.in_ok-mark_cut.ensures.same.1.1.1) over)

pub returns-clause-replaying : goal.returns-clause-replaying
returns-clause-replaying c = λ layout i runs more later it.
    let same = c.in_ok-mark_cut.ensures.same in
    let old = c.args.self.now in
    let mid = c.mark_cut.new.self in
    let tried_stage = c.followed_at.new.stage in
    let new = c.refuse_at.new.stage in
    let end = c.in_ok-refuse_at.ensures in
    let stage : mid.stage ≡ old.stage = same.1.1.1 in
    let at : mid.at ≡ old.at = same.1.0 in
    let tried : IsTried mid.stage c.args.entry false tried_stage = subst (λ (ok : Bool). IsTried mid.stage c.args.entry ok tried_stage) c.if-branch.false c.in_ok-followed_at.ensures in
    replayed_on layout i runs c.args.entry more later old _ it same.0 (c.in_ok-self.ensures ∙ ap (λ (n : ℕ). n + 1) at) same.1.1.0
    (subst (λ (n : ℕ). IsStage layout i runs more later (n + 1) new) at
    (end.stage mid.stage tried layout i runs more later
    (subst (λ (s : Stage). IsStage layout i runs (c.args.entry ∷ more) later mid.at s) (sym stage) (subst (λ (n : ℕ). IsStage layout i runs (c.args.entry ∷ more) later n old.stage) (sym at) it.stage))))
    (λ going. c.in_ok-mark_cut.ensures.mark layout i runs c.args.entry more later it
    (λ over. going (end.ended (tried_ended c.args.entry false mid.stage tried_stage tried (subst HasEnded (sym stage) over))))
    (subst (λ (s : Stage). left_of s ≡ []) stage (sym (tried_left c.args.entry false mid.stage tried_stage tried) ∙ end.free going)))

pub returns-clause-free : goal.returns-clause-free
returns-clause-free c = λ going.
    let mid = c.mark_cut.new.self in
    subst (λ (s : Stage). left_of s ≡ []) c.in_ok-mark_cut.ensures.same.1.1.1
    (sym (tried_left c.args.entry c.in_ok-followed_at.field-0 mid.stage c.followed_at.new.stage c.in_ok-followed_at.ensures) ∙ c.in_ok-refuse_at.ensures.free going)

pub returns-clause-ended : goal.returns-clause-ended
returns-clause-ended c = λ over.
    let mid = c.mark_cut.new.self in
    c.in_ok-refuse_at.ensures.ended (tried_ended c.args.entry c.in_ok-followed_at.field-0 mid.stage c.followed_at.new.stage c.in_ok-followed_at.ensures (subst HasEnded (sym c.in_ok-mark_cut.ensures.same.1.1.1) over))
