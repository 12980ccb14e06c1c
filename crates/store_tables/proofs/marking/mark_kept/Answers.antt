use Rattle.std.proofs.Common.{◌⊎◌, inl, inr}
use Rattle.store_rows.specs.Holding.{Holds, HoldsBeside}
use Rattle.store_tables.specs.Marking.{HasOutdatedMark, MarksOutdated}
use Rattle.store_tables.proofs.KeepLemmas.{HoldsBoth, turned, turned_beside, leaves_beside, leaves_both, leaves_done, leaves_either, on_ok_under}
use Rattle.store_tables.proofs.MarkingLemmas.{IsSecond, as_it_is, leaves_once, marks_show, marks_turn}
use Rattle.store_tables.proofs.marking.mark_kept.Goals as goal

pub returns-clause-done : goal.returns-clause-done
returns-clause-done g c it second keeps =
    let idle = c.is_autocommit-is_idle.ensures.settled (rw (c.is_autocommit-is_idle.ensures.value, c.requires)) in
    on_ok_under c.mark.result
    (leaves_done g.S.Store g.met.S.Store.settled g.met.S.Store.stays c.args.conn.now c.mark.new.conn (Holds it) HasOutdatedMark MarksOutdated (marks_show it second) keeps
    c.schema-schema.ensures.live idle c.mark.ensures.survives)
    c.mark.ensures.done

pub returns-clause-kept : goal.returns-clause-kept
returns-clause-kept g c it second keeps =
    let idle = c.is_autocommit-is_idle.ensures.settled (rw (c.is_autocommit-is_idle.ensures.value, c.requires)) in
    leaves_once g.S.Store c.mark.new.conn (Holds it)
    (leaves_either g.S.Store g.met.S.Store.settled g.met.S.Store.stays c.args.conn.now c.mark.new.conn (Holds it) (Holds it) MarksOutdated
    (λ a b sound h marks. turned IsSecond as_it_is it second a b sound h (marks_turn a b marks)) keeps c.schema-schema.ensures.live idle c.mark.ensures.survives)

pub returns-clause-either : goal.returns-clause-either
returns-clause-either g c one other second also keeps =
    let idle = c.is_autocommit-is_idle.ensures.settled (rw (c.is_autocommit-is_idle.ensures.value, c.requires)) in
    leaves_once g.S.Store c.mark.new.conn (λ db. Holds one db ⊎ Holds other db)
    (leaves_either g.S.Store g.met.S.Store.settled g.met.S.Store.stays c.args.conn.now c.mark.new.conn (λ db. Holds one db ⊎ Holds other db) (λ db. Holds one db ⊎ Holds other db) MarksOutdated
    (λ a b sound h marks. elim h [
      | inl p ↦ inl (turned IsSecond as_it_is one second a b sound p (marks_turn a b marks))
      | inr p ↦ inr (turned IsSecond as_it_is other also a b sound p (marks_turn a b marks))
    ]) keeps c.schema-schema.ensures.live idle c.mark.ensures.survives)

pub returns-clause-beside : goal.returns-clause-beside
returns-clause-beside g c it others second keeps beside =
    let idle = c.is_autocommit-is_idle.ensures.settled (rw (c.is_autocommit-is_idle.ensures.value, c.requires)) in
    leaves_beside g.S.Store c.mark.new.conn it others
    (leaves_either g.S.Store g.met.S.Store.settled g.met.S.Store.stays c.args.conn.now c.mark.new.conn (HoldsBoth it others) (HoldsBeside others) MarksOutdated
    (λ a b sound h marks. turned_beside IsSecond as_it_is it others second a b sound h (marks_turn a b marks))
    (leaves_both g.S.Store c.args.conn.now (Holds it) (HoldsBeside others) keeps beside) c.schema-schema.ensures.live idle c.mark.ensures.survives)
