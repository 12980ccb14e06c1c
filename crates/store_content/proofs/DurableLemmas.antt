-- The durable part of a content, put together.
use Rattle.std.proofs.Common.{◌≡◌, List, map, sym, ap, subst, ◌∙◌}
use Rattle.session_list.specs.declared.session.Session.{Session}
use Rattle.admission_model.specs.declared.durable.DurableCell.{DurableCell}
use Rattle.admission_model.specs.Durable.{AreRising, put_cells}
use Rattle.admission_core.specs.Kept.{DurableState}
use Rattle.store_rows.specs.Rows.{Stored}
use Rattle.store_content.specs.Content.{IsContent, announced_cells, durable_cells, durable_in, finished_cells, session_of, table_cells}
use Rattle.durable_keeper.proofs.CellLists.{puts_rise}
use Rattle.store_content.proofs.TableLemmas.{table_rises}
use Rattle.store_content.proofs.ToldLemmas.{puts_append, told_rise}

pub announced_rise : (it : Stored) → IsContent it → AreRising (announced_cells it.notices)
announced_rise it is = told_rise 300 (λ n. n.announced) it.notices is.rows.notices_rise

pub finished_rise : (it : Stored) → IsContent it → AreRising (finished_cells it.notices)
finished_rise it is = told_rise 400 (λ n. n.finished) it.notices is.rows.notices_rise

-- two rounds of merging give the cells
pub assembled : (it : Stored) → IsContent it → (own finished announced both all : List DurableCell) → own ≡ table_cells it.cells
    → finished ≡ finished_cells it.notices → announced ≡ announced_cells it.notices
    → (AreRising finished → AreRising own → both ≡ put_cells finished own) → (AreRising announced → AreRising both → all ≡ put_cells announced both) → all ≡ durable_cells it
assembled it is own finished announced both all p q r first second =
    let own_up = table_rises it.cells is.rows.cells_rise in
    let e : both ≡ put_cells (finished_cells it.notices) (table_cells it.cells) =
    first (subst AreRising (sym q) (finished_rise it is)) (subst AreRising (sym p) own_up) ∙ (ap (λ l. put_cells l own) q ∙ ap (put_cells (finished_cells it.notices)) p) in
    second (subst AreRising (sym r) (announced_rise it is)) (subst AreRising (sym e) (puts_rise (finished_cells it.notices) (table_cells it.cells) own_up))
    ∙ (ap (λ l. put_cells l both) r ∙ ap (put_cells (announced_cells it.notices)) e ∙ sym (puts_append (announced_cells it.notices) (finished_cells it.notices) (table_cells it.cells)))

-- cells and sessions as one durable part
unfoldable pub part : List DurableCell → List Session → DurableState
part cells sessions = record { cells = cells; sessions = sessions }

pub together : (it : Stored) (cells : List DurableCell) (sessions : List Session) (d : DurableState) → d ≡ record { cells = cells; sessions = sessions }
    → cells ≡ durable_cells it → sessions ≡ map session_of it.sessions → d ≡ durable_in it
unfolding part
together it cells sessions d made p q = made ∙ (ap (λ l. part l sessions) p ∙ ap (part (durable_cells it)) q)

-- merging by other names of the lists
pub merged_along : (a b x y out : List DurableCell) → x ≡ a → y ≡ b → (AreRising x → AreRising y → out ≡ put_cells x y) → AreRising a → AreRising b → out ≡ put_cells a b
merged_along a b x y out p q merged up vp =
    merged (subst AreRising (sym p) up) (subst AreRising (sym q) vp) ∙ (ap (λ l. put_cells l y) p ∙ ap (put_cells a) q)
