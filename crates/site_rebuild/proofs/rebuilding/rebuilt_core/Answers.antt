use Rattle.std.proofs.Common.{ℕ, sym, subst, ◌∙◌}
use Rattle.std.proofs.lemmas.Bool.{false≢true}
use Rattle.merge_core.specs.declared.cell.Cell.{Cell}
use Rattle.merge_core.specs.Layout.{Shape}
use Rattle.site_rebuild.specs.Rebuilt.{gone_of, IsLost, AreTellers, AreFit, IsWithin, IsUnused}
use Rattle.site_rebuild.proofs.RebuiltLemmas.{rebuilt_answer, told_joined, told_as}
use Rattle.site_rebuild.proofs.rebuilding.rebuilt_core.Goals as goal

pub returns-then-not-are_within : goal.returns-then-not-are_within
returns-then-not-are_within c =
    let layout = c.args.layout in
    let lost = c.args.lost.now in
    let tells = told_joined layout c.in_ok-book.book c.join_all.new.self c.args.deltas.now (c.in_ok-book.ensures {u = tt}).shape (c.in_ok-book.ensures {u = tt}).counters c.join_all.ensures.counters in (
      subst (λ (n : ℕ). IsLost n lost c.args.site) c.sites.ensures.sites (c.are_lost.ensures.0 c.if-not-are_lost.false),
      (
        subst (λ (n : ℕ). AreTellers n (gone_of lost) c.args.deltas.now) c.sites-2.ensures.sites c.in_default.ensures,
        (
          subst (λ (x : Shape). AreFit x c.args.deltas.now) (c.in_ok-book.ensures {u = tt}).shape c.in_default-first_unfit.ensures,
          λ within. false≢true (sym c.if-not-are_within.true
              ∙ c.are_within.ensures.1 (subst (λ (f : ℕ → ℕ → Cell → ℕ). IsWithin layout (gone_of lost) f) (sym (told_as layout c.join_all.new.self c.args.deltas.now tells)) within)),
        ),
      ),
    )

pub returns-then-not-branch : goal.returns-then-not-branch
returns-then-not-branch c =
    let layout = c.args.layout in
    let lost = c.args.lost.now in
    let tells = told_joined layout c.in_ok-book.book c.join_all.new.self c.args.deltas.now (c.in_ok-book.ensures {u = tt}).shape (c.in_ok-book.ensures {u = tt}).counters c.join_all.ensures.counters in (
      subst (λ (n : ℕ). IsLost n lost c.args.site) c.sites.ensures.sites (c.are_lost.ensures.0 c.if-not-are_lost.false),
      (
        subst (λ (n : ℕ). AreTellers n (gone_of lost) c.args.deltas.now) c.sites-2.ensures.sites c.in_default.ensures,
        (
          subst (λ (x : Shape). AreFit x c.args.deltas.now) (c.in_ok-book.ensures {u = tt}).shape c.in_default-first_unfit.ensures,
          (
            subst (λ (f : ℕ → ℕ → Cell → ℕ). IsWithin layout (gone_of lost) f) (told_as layout c.join_all.new.self c.args.deltas.now tells) (c.are_within.ensures.0 c.if-not-are_within.false),
            λ unused. false≢true (sym c.if-not-branch.true
                ∙ (c.in_ok-is_unused.ensures {u = tt}).1 (subst (λ (f : ℕ → ℕ → Cell → ℕ). IsUnused layout (gone_of lost) c.args.site c.args.deltas.now f) (sym (told_as layout c.join_all.new.self c.args.deltas.now tells)) unused)),
          ),
        ),
      ),
    )

pub returns : goal.returns
returns c =
    let layout = c.args.layout in
    let lost = c.args.lost.now in
    let tells = told_joined layout c.in_ok-book.book c.join_all.new.self c.args.deltas.now (c.in_ok-book.ensures {u = tt}).shape (c.in_ok-book.ensures {u = tt}).counters c.join_all.ensures.counters in
    rebuilt_answer layout lost c.args.site c.args.deltas.now c.core_of.result (subst (λ (n : ℕ). IsLost n lost c.args.site) c.sites.ensures.sites (c.are_lost.ensures.0 c.if-not-are_lost.false))
    (subst (λ (n : ℕ). AreTellers n (gone_of lost) c.args.deltas.now) c.sites-2.ensures.sites c.in_default.ensures)
    (subst (λ (x : Shape). AreFit x c.args.deltas.now) (c.in_ok-book.ensures {u = tt}).shape c.in_default-first_unfit.ensures)
    (subst (λ (f : ℕ → ℕ → Cell → ℕ). IsWithin layout (gone_of lost) f) (told_as layout c.join_all.new.self c.args.deltas.now tells) (c.are_within.ensures.0 c.if-not-are_within.false))
    (subst (λ (f : ℕ → ℕ → Cell → ℕ). IsUnused layout (gone_of lost) c.args.site c.args.deltas.now f) (told_as layout c.join_all.new.self c.args.deltas.now tells) ((c.in_ok-is_unused.ensures {u = tt}).0 c.if-not-branch.false))
    (c.core_of.ensures c.args.deltas.now tells)
