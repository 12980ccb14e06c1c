use Rattle.std.proofs.Common.{◌∙◌, sym}
use Rattle.std.proofs.lemmas.Bool.{eqb-true}
use Rattle.merge_core.specs.Book.{BookState}
use Rattle.merge_core.proofs.TellingLemmas.{told_where_read}
use Rattle.merge_core.proofs.book.Book.is_told.Goals as goal
use Rattle.merge_core.proofs.book.Book.is_told.Goals.{then-row-r, else-row-r}

pub returns-then-row-s : goal.returns-then-row-s
returns-then-row-s c =
    let b : BookState = record { sites = c.self.inside.sites; records = c.self.inside.records.items } in
    elim c.if-row-r.branch [ then-row-r w ↦ rw (← c.self.view_is) (told_where_read b c.from.result c.args.r c.args.s c.index.result.now c.args.row.now c.is_row_of.result c.self.invariant.0 c.from.ensures (rw (← c.self.view_is) at c.requires.record) (rw (← c.self.view_is) at c.requires.site) c.index.ensures w.if-row-r.true (eqb-true c.args.row.now.s c.args.s (sym w.value-is ∙ c.if-row-s.true)) c.is_row_of.ensures) | else-row-r w ↦ absurd (w.if-row-r.false (eqb-true c.args.row.now.r c.args.r (sym w.value-is ∙ c.if-row-s.true))) ]
