-- The rows of a change make exactly this change.
use Rattle.std.proofs.Common.{◌≡◌, ◌<◌, ◌≤◌, ◌^◌, List, Option, sym, ap, ap₂, subst, ◌∙◌, arith}
use Rattle.admission_model.specs.declared.durable.DurableCell.{DurableCell}
use Rattle.admission_core.specs.Kept.{ChangeState}
use Rattle.store_rows.specs.declared.content.StoredCell.{StoredCell}
use Rattle.store_rows.specs.declared.content.StoredNotice.{StoredNotice}
use Rattle.store_rows.specs.declared.content.SessionEdit.{SessionEdit}
use Rattle.store_rows.specs.Rows.{Stored}
use Rattle.store_content.specs.Content.{IsContent, IsNotice}
use Rattle.store_content.specs.Plan.{IsCell, IsPlan, IsTellable, Makes, RowsState, cells_of, notices_of, rows_for}
use Rattle.store_content.proofs.DurableLemmas.{part}
use Rattle.store_content.proofs.PutLemmas.{all_weaker, cells_small, each_by, each_of}
use Rattle.store_content.proofs.SlotLaws.{cells_law, notices_are, put_notices_are, put_notices_rise, put_table_fits, put_table_rises}
use Rattle.store_content.proofs.SessionLaws.{AreSessions, edit_is, edit_storable, place_free, sessions_law}

value_fits : (x : DurableCell) → IsCell x → x.value < 2 ^ 63
value_fits x cell = let low : x.value ≤ 2000000000000 = cell.small in omega arith

pub makes_for : (c : ChangeState) (it : Stored) (some : RowsState) → IsContent it → IsTellable c → IsPlan c it some → Makes c it (rows_for c it)
unfolding part
makes_for c it some is tell plan =
    let all = each_of IsCell c.cells tell.cells in
    let sessions : AreSessions it.sessions = record { rising = is.rows.sessions_rise; once = is.once; placed = is.rows.places } in
    let edit = edit_is c.session it plan.room sessions tell.held in
    record {
      durable = ap₂ part (cells_law c.cells it is tell.rising all) (sessions_law c.session it sessions);
      content = record {
        rows = record {
          cells_rise = put_table_rises c.cells it is tell.rising all;
          cells = put_table_fits c.cells it is tell.rising all;
          notices_rise = put_notices_rise c.cells it is tell.rising all;
          notices = put_notices_are c.cells it is tell.rising all;
          sessions_rise = edit.rising;
          places = edit.placed;
        };
        once = edit.once;
      };
      place = place_free c.session it sessions;
      edit = edit_storable c.session it plan.room sessions tell.held;
      cells = each_by (λ x. x.n < 2 ^ 63) (cells_of c.cells) (cells_small (2 ^ 63) c.cells (all_weaker IsCell (λ x. x.value < 2 ^ 63) value_fits c.cells all));
      notices = each_by (λ n. (n.announced < 2 ^ 63) × (n.finished < 2 ^ 63)) (notices_of c.cells it)
          (all_weaker IsNotice (λ n. (n.announced < 2 ^ 63) × (n.finished < 2 ^ 63)) (λ n i. (i.announced_fits, i.finished_fits)) (notices_of c.cells it) (notices_are c.cells it is tell.rising all));
    }

rows_from : List StoredCell → List StoredNotice → Option SessionEdit → RowsState
rows_from cells notices edit = record { cells = cells; notices = notices; edit = edit }

-- rows that are a plan are those rows
pub same_rows : (c : ChangeState) (it : Stored) (rows : RowsState) → IsPlan c it rows → rows ≡ rows_for c it
unfolding rows_from
same_rows c it rows plan =
    ap (λ x. rows_from x rows.notices rows.edit) plan.cells ∙ ap (λ x. rows_from (cells_of c.cells) x rows.edit) plan.notices
    ∙ ap (rows_from (cells_of c.cells) (notices_of c.cells it)) plan.edit

pub makes : (c : ChangeState) (it : Stored) (rows : RowsState) → IsContent it → IsTellable c → IsPlan c it rows → Makes c it rows
makes c it rows is tell plan = subst (Makes c it) (sym (same_rows c it rows plan)) (makes_for c it rows is tell plan)
