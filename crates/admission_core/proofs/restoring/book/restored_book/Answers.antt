use Rattle.std.proofs.Common.{sym, subst, ◌∙◌, List, Option, ℕ}
use Rattle.std.proofs.lemmas.Bool.{false≢true}
use Rattle.admission_core.specs.Restored.{TellsCells}
use Rattle.admission_core.proofs.RestoringCores.{checked_if, not_checked_if, not_within, book_made}
use Rattle.admission_core.proofs.restoring.book.restored_book.Goals as goal

pub returns-then-is_err : goal.returns-then-is_err
returns-then-is_err c =
    let listed = c.are_listed.ensures.0 c.if-not-are_listed.false in
    let tells = subst (λ (t : List (Option ℕ)). TellsCells c.args.cells.now t) (sym c.as_slice-table.ensures.value) c.in_ok-stored.ensures.cells in
    not_checked_if c.args.layout.now c.args.site c.args.cells.now c.as_slice-table.result.now c.in_ok-delta.delta.rows c.in_ok-book.book c.requires.layout c.requires.site listed tells c.in_ok-delta.ensures c.in_ok-book.ensures.shape c.check.result c.check.ensures (sym c.is_err.ensures.value ∙ c.if-is_err.true)

pub returns-then-not-all_keep_limits : goal.returns-then-not-all_keep_limits
returns-then-not-all_keep_limits c =
    let listed = c.are_listed.ensures.0 c.if-not-are_listed.false in
    let tells = subst (λ (t : List (Option ℕ)). TellsCells c.args.cells.now t) (sym c.as_slice-table.ensures.value) c.in_ok-stored.ensures.cells in
    not_within c.args.layout.now c.args.site c.args.cells.now c.as_slice-table.result.now c.in_ok-delta.delta.rows c.in_ok-book.book c.requires.layout c.requires.site listed tells c.in_ok-delta.ensures c.in_ok-book.ensures.shape
    (λ all. false≢true (sym c.if-not-all_keep_limits.true ∙ c.all_keep_limits.ensures.1 all))

pub returns : goal.returns
returns c =
    let listed = c.are_listed.ensures.0 c.if-not-are_listed.false in
    let tells = subst (λ (t : List (Option ℕ)). TellsCells c.args.cells.now t) (sym c.as_slice-table.ensures.value) c.in_ok-stored.ensures.cells in
    book_made c.args.layout.now c.args.site c.args.cells.now c.as_slice-table.result.now c.in_ok-delta.delta.rows c.in_ok-book.book c.requires.layout c.requires.site listed tells c.in_ok-delta.ensures c.in_ok-book.ensures.shape c.join.new.self c.in_ok-book.ensures.counters
    (checked_if _ _ c.check.result c.check.ensures (sym c.is_err.ensures.value ∙ c.if-is_err.false)) (c.all_keep_limits.ensures.0 c.if-not-all_keep_limits.false) c.join.ensures.counters c.join.ensures.book
