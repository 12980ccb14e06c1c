use Rattle.std.proofs.Common.{◌≡◌, Option, Some, Ok, rules, sym, subst, arith}
use Rattle.sqlite.specs.Held.{state}
use Rattle.store_rows.specs.declared.content.SessionEdit.{SessionEdit}
use Rattle.store_rows.specs.declared.content.SessionEdit.TheVariants.{Dropped}
use Rattle.store_rows.specs.Steps.{Brings, HasFreePlace, Puts, with_edit}
use Rattle.store_rows.proofs.BesideLemmas.{spares_same}
use Rattle.store_rows.proofs.RunLemmas.{puts_most, puts_none}
use Rattle.store_rows.proofs.writes.edit_session.Goals as goal

pub returns-in-Some-Dropped : goal.returns-in-Some-Dropped
returns-in-Some-Dropped g c =
    let r = c.in-Some-Dropped.r in
    let h = c.in-Some-Dropped.h in
    let is : c.args.edit ≡ Some (Dropped r h) = search rules in
    subst (λ (x : Option SessionEdit). Puts g.S.Store 1 (λ p. HasFreePlace x p.sessions) (λ _. Brings (λ p. HasFreePlace x p.sessions) (with_edit x)) c.args.tx.now c.drop_session.result c.drop_session.new.tx) (sym is)
    (puts_most c.drop_session.result 0 1 (omega arith) (λ p fits. tt) (λ _ brings. brings) c.drop_session.ensures)

pub returns-in-None : goal.returns-in-None
returns-in-None g c =
    let now = (state g.S.Store c.args.tx.now.conn.now).now in
    subst (λ (x : Option SessionEdit). Puts g.S.Store 1 (λ p. HasFreePlace x p.sessions) (λ _. Brings (λ p. HasFreePlace x p.sessions) (with_edit x)) c.args.tx.now (Ok tt) c.args.tx.now) (sym c.in-None.is)
    (puts_none (λ p two fits h. (h, spares_same now)))
