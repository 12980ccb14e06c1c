use Rattle.std.proofs.Common.{ap, ◌∙◌, arith, string_bytes, List, ℕ, ◌++◌}
use Rattle.std.proofs.lemmas.Result.{IfOk-weaker}
use Rattle.merge_core.specs.Layout.{LayoutState}
use Rattle.audit_report.proofs.CountLemmas.{can_count, name_told, row_told}
use Rattle.audit_report.proofs.tables.push_seat_row.Goals as goal

pub rights-requires-clause-record : goal.rights-requires-clause-record
rights-requires-clause-record c =
    omega (arith, c.requires.record, (can_count c.args.world.now c.args.i c.core.result.now c.book-book.result.now c.layout.ensures.world c.core.ensures c.requires.site c.book-book.ensures).records)

pub rights-requires-clause-site : goal.rights-requires-clause-site
rights-requires-clause-site c =
    (can_count c.args.world.now c.args.i c.core.result.now c.book-book.result.now c.layout.ensures.world c.core.ensures c.requires.site c.book-book.ensures).there

pub rights-requires-clause-enough : goal.rights-requires-clause-enough
rights-requires-clause-enough c =
    (can_count c.args.world.now c.args.i c.core.result.now c.book-book.result.now c.layout.ensures.world c.core.ensures c.requires.site c.book-book.ensures).enough c.args.r c.requires.record

pub inside-requires-clause-record : goal.inside-requires-clause-record
inside-requires-clause-record c =
    omega (arith, c.requires.record, (can_count c.args.world.now c.args.i c.core.result.now c.book-book.result.now c.layout.ensures.world c.core.ensures c.requires.site c.book-book.ensures).records)

pub inside-requires-clause-site : goal.inside-requires-clause-site
inside-requires-clause-site c =
    (can_count c.args.world.now c.args.i c.core.result.now c.book-book.result.now c.layout.ensures.world c.core.ensures c.requires.site c.book-book.ensures).there

pub open_at-requires-clause-record : goal.open_at-requires-clause-record
open_at-requires-clause-record c =
    omega (arith, c.requires.record, (can_count c.args.world.now c.args.i c.core.result.now c.book-book.result.now c.layout.ensures.world c.core.ensures c.requires.site c.book-book.ensures).records)

pub open_at-requires-clause-site : goal.open_at-requires-clause-site
open_at-requires-clause-site c =
    (can_count c.args.world.now c.args.i c.core.result.now c.book-book.result.now c.layout.ensures.world c.core.ensures c.requires.site c.book-book.ensures).there

pub returns : goal.returns
returns c =
    IfOk-weaker c.push_seat_line.result _ _
    (λ x is m stands.
    is ∙ ap (λ (t : List ℕ). string_bytes c.args.text.now ++ t)
    (row_told m c.args.world.now c.args.r c.args.i c.core.result.now c.book-book.result.now c.as_str-name.result.now _ c.core.ensures c.requires.site c.requires.record c.book-book.ensures
    (c.as_str-name.ensures ∙ name_told c.args.world.now.layout.records c.records.result.now c.args.r c.from.result c.index-records-from.result
    (c.records.ensures.records ∙ ap (λ (l : LayoutState). l.records) c.layout.ensures.layout) c.from.ensures c.requires.record)
    (λ k. record { rights = c.rights.ensures k; inside = c.inside.ensures k; unfinished = c.open_at.ensures k })
    stands))
    c.push_seat_line.ensures
