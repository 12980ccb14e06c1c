-- The rows of several changes in one transaction.
use Rattle.std.proofs.Common.{◌≡◌, List, [], ◌∷◌, ◌++◌, Some, refl}
use Rattle.sqlite.specs.Effect.{Database}
use Rattle.store_rows.specs.declared.content.StoredCell.{StoredCell}
use Rattle.store_rows.specs.declared.content.StoredNotice.{StoredNotice}
use Rattle.store_rows.specs.declared.content.StoredSession.{StoredSession}
use Rattle.store_rows.specs.declared.content.SessionEdit.{SessionEdit}
use Rattle.store_rows.specs.Holding.{parts_of}
use Rattle.store_rows.specs.Changes.{edited}
use Rattle.store_rows.specs.Steps.{Any, Brings, HasFreePlace, with_cells, with_edit, with_notices}
use Rattle.store_rows.proofs.BesideLemmas.{spares_same, spares_then}
use Rattle.store_tables.specs.Rounds.{HaveFreePlaces, TakesAll, changed_all, edited_all, with_edits}
use Rattle.store_tables.specs.Transacts.{Turns}

pub edited_more : (done : List SessionEdit) (edit : SessionEdit) (ss : List StoredSession) → edited_all (done ++ edit ∷ []) ss ≡ edited (Some edit) (edited_all done ss)
edited_more [] edit ss = refl
edited_more (x ∷ xs) edit ss = edited_more xs edit (edited (Some x) ss)

free_first : (done : List SessionEdit) (edit : SessionEdit) (ss : List StoredSession) → HaveFreePlaces (done ++ edit ∷ []) ss → HaveFreePlaces done ss
free_first [] edit ss h = tt
free_first (x ∷ xs) edit ss h = (h.0, free_first xs edit (edited (Some x) ss) h.1)

free_last : (done : List SessionEdit) (edit : SessionEdit) (ss : List StoredSession) → HaveFreePlaces (done ++ edit ∷ []) ss → HasFreePlace (Some edit) (edited_all done ss)
free_last [] edit ss h = h.0
free_last (x ∷ xs) edit ss h = free_last xs edit (edited (Some x) ss) h.1

pub free_more : (done : List SessionEdit) (edit : SessionEdit) (ss : List StoredSession) → HaveFreePlaces done ss → HasFreePlace (Some edit) (edited_all done ss) → HaveFreePlaces (done ++ edit ∷ []) ss
free_more [] edit ss h last = (last, tt)
free_more (x ∷ xs) edit ss h last = (h.0, free_more xs edit (edited (Some x) ss) h.1 last)

-- before the first edit nothing has changed
pub none_edited : (a : Database) → Brings (λ p. HaveFreePlaces [] p.sessions) (with_edits []) a a
none_edited a p two fits h = (h, spares_same a)

pub one_edited : (a b c : Database) (done : List SessionEdit) (edit : SessionEdit) → Brings (λ p. HaveFreePlaces done p.sessions) (with_edits done) a b
    → Brings (λ p. HasFreePlace (Some edit) p.sessions) (with_edit (Some edit)) b c → Brings (λ p. HaveFreePlaces (done ++ edit ∷ []) p.sessions) (with_edits (done ++ edit ∷ [])) a c
one_edited a b c done edit one next p two fits h =
    let first = one p two (free_first done edit p.sessions fits) h in
    let last = next (with_edits done p) two (free_last done edit p.sessions fits) first.0 in
    rw (edited_more done edit p.sessions) (last.0, spares_then a b c first.1 last.1)

pub all_then : (a b c d : Database) (cells : List StoredCell) (notices : List StoredNotice) (edits : List SessionEdit) → Brings Any (with_cells cells) a b → Brings Any (with_notices notices) b c
    → Brings (λ p. HaveFreePlaces edits p.sessions) (with_edits edits) c d → Brings (λ p. HaveFreePlaces edits p.sessions) (λ p. with_edits edits (with_notices notices (with_cells cells p))) a d
all_then a b c d cells notices edits one next last p two fits h =
    let first = one p two tt h in
    let second = next (with_cells cells p) two tt first.0 in
    let third = last (with_notices notices (with_cells cells p)) two fits second.0 in
    (third.0, spares_then a c d (spares_then a b c first.1 second.1) third.1)

pub all_turn : (a b : Database) (cells : List StoredCell) (notices : List StoredNotice) (edits : List SessionEdit)
    → Brings (λ p. HaveFreePlaces edits p.sessions) (λ p. with_edits edits (with_notices notices (with_cells cells p))) a b → Turns (TakesAll edits) (changed_all cells notices edits) a b
all_turn a b cells notices edits brings it fits h = brings (parts_of it) fits.second fits.free h
