use Rattle.std.proofs.Common.{◌≡◌, [], ◌∷◌, ◌++◌, cond, sym, ◌∙◌, ap, append-nil, Vec, Global}
use Rattle.merge_core.specs.declared.delta.Row.{Row}
use Rattle.merge_core.proofs.ThinLemmas.{thin_turn, ArePast-step}
use Rattle.merge_core.proofs.delta.thin.thin_rows.Goals as goal
use Rattle.merge_core.proofs.delta.thin.thin_rows.Goals.{then-not-is_same_at+in_ok-try_copy+in_ok-push, else-not-is_same_at}

pub loop-row-preserved : goal.loop-row-preserved
loop-row-preserved c = record {
  thin = thin_turn c.args.earlier.now c.args.rows.now c.loop-row.thin.items c.if-not-is_same_at.thin.items c.loop-row.row-index c.loop-row.next c.first_not_before-next.result c.row-item.result c.is_same_at.result c.requires.earlier_rising c.requires.rising c.loop-row-test.true c.row-item.is c.loop-row.invariant.thin c.loop-row.invariant.past c.first_not_before-next.ensures.passed c.first_not_before-next.ensures.here c.first_not_before-next.ensures.within c.is_same_at.ensures change;
  within = c.first_not_before-next.ensures.within;
  past = ArePast-step c.args.earlier.now c.args.rows.now c.loop-row.next c.first_not_before-next.result c.loop-row.row-index c.row-item.result c.requires.rising c.loop-row-test.true c.row-item.is c.loop-row.invariant.past c.first_not_before-next.ensures.passed;
}
  where
    change : c.if-not-is_same_at.thin.items ≡ c.loop-row.thin.items ++ cond c.is_same_at.result [] (c.row-item.result ∷ [])
    change =
        elim c.if-not-is_same_at.branch [ then-not-is_same_at+in_ok-try_copy+in_ok-push w ↦ rw w.if-not-is_same_at.true (ap (λ (v : Vec Row Global). v.items) w.thin-is ∙ (w.in_ok-push.ensures.items ∙ ap (λ (x : Row). c.loop-row.thin.items ++ x ∷ []) w.in_ok-try_copy.ensures)) | else-not-is_same_at w ↦ rw w.if-not-is_same_at.false (ap (λ (v : Vec Row Global). v.items) w.thin-is ∙ sym (append-nil c.loop-row.thin.items)) ]
