-- The notices are taken in, and then the edit of a session.
use Rattle.std.proofs.Common.{◌≡◌, ap, sym, subst, ◌∙◌, Option, Some}
use Rattle.store_rows.specs.declared.content.SessionEdit.{SessionEdit}
use Rattle.store_rows.specs.Rows.{Stored, cell_before, notice_before}
use Rattle.store_rows.specs.Sorted.{put_all}
use Rattle.store_rows.specs.Changes.{changed}
use Rattle.store_content.specs.Content.{notice_in}
use Rattle.store_content.specs.Known.{Knows}
use Rattle.store_content.specs.Plan.{RowsState}
use Rattle.store_content.proofs.EditLemmas.{placed_by}
use Rattle.store_content.proofs.index.Index.advance.Goals as goal

pub returns-in-Some : goal.returns-in-Some
returns-in-Some c =
    λ change it knows is plan.
    let rows = c.args.rows.now in
    let told : c.rows.inside.edit ≡ Some c.in-Some.edit = c.in-Some.is in
    let edit : rows.edit ≡ Some c.in-Some.edit = ap (λ (v : RowsState). v.edit) (sym c.rows.view_is) ∙ told in
    let notices = c.deref.ensures.value ∙ ap (λ (v : RowsState). v.notices) c.rows.view_is in
    let more : Stored = record it { cells = put_all cell_before rows.cells it.cells; notices = put_all notice_before rows.notices it.notices } in
    let taken = c.take_edit.ensures more (record {
      places = knows.places;
      notices = λ r j. c.put_notices.ensures it.notices knows.notices r j ∙ ap (λ l. notice_in (put_all notice_before l it.notices) r j) notices;
      unique = knows.unique;
      greatest = knows.greatest;
    }) is.rows.sessions_rise is.once (placed_by change.session it c.in-Some.edit (sym plan.edit ∙ edit)) in
    subst (λ (o : Option SessionEdit). Knows c.take_edit.new.self (changed rows.cells rows.notices o it)) (sym edit) taken
