use Rattle.std.proofs.Common.{◌≡◌, ◌≢◌, inl, inr, sym, subst, ◌∙◌}
use Rattle.std.proofs.lemmas.Result.{IfErr-at_err, err_from_is_err_and}
use Rattle.store_rows.specs.Rows.{Stored}
use Rattle.store_rows.specs.Holding.{Holds, HoldsBeside}
use Rattle.store_tables.specs.Kept.{CommitsNothing, connection_of}
use Rattle.store_tables.specs.declared.tables.Tables.{Tables}
use Rattle.store_tables.proofs.KeepLemmas.{leaves_still}
use Rattle.store_tables.proofs.LookLemmas.{if_ok_from}
use Rattle.site_store.specs.declared.error.ServedError.TheVariants as served
use Rattle.site_store.specs.SiteText.{named}
use Rattle.site_store.specs.Opened.{IsDue}
use Rattle.site_store.specs.Served.{IsContentCause, IsDeviceOrMark, IsHeldRefusal, IsOpenRefusal}
use Rattle.site_store.proofs.OwnLemmas.{if_err_from}
use Rattle.site_store.proofs.ServedLemmas.{kept_store, taken_device}
use Rattle.site_store.proofs.MarkedLemmas.{not_marked}
use Rattle.site_store.proofs.served.open_content.Goals as goal

-- ---- a store that is marked

pub returns-in_err-check_current-clause-finds : goal.returns-in_err-check_current-clause-finds
returns-in_err-check_current-clause-finds g c = record {
  ready = λ it keeps found. let p = err_from_is_err_and c.from_residual.result c.from_residual.ensures.1 in
      let old = connection_of c.args.tables.now in
      let mid = connection_of c.check_current.new.tables in
      rw p.1 (record {
        cause = λ clean. subst (λ (s : Stored). IsContentCause c.args.grow c.args.layout.now c.args.site (named c.args.group) s p.0) (found (c.check_current.ensures.honest clean))
            (subst (IsContentCause c.args.grow c.args.layout.now c.args.site (named c.args.group) c.args.content.now) (sym p.2) (c.in_err-check_current.ensures.err c.args.grow));
        left = kept_store g.S.Store mid c.args.layout.now it p.0 (leaves_still g.S.Store old mid (Holds it) c.check_current.ensures.unwritten keeps);
      });
  beside = λ it others keeps found beside. leaves_still g.S.Store (connection_of c.args.tables.now) (connection_of c.check_current.new.tables) (HoldsBeside others) c.check_current.ensures.unwritten beside;
  honest = c.check_current.ensures.honest;
}

pub returns-in_err-check_current-clause-own : goal.returns-in_err-check_current-clause-own
returns-in_err-check_current-clause-own g c taken =
    let p = err_from_is_err_and c.from_residual.result c.from_residual.ensures.1 in
    rw p.1 (subst IsDeviceOrMark (sym p.2)
    (taken_device c.args.grow c.args.layout.now c.args.site (named c.args.group) c.args.content.now c.sites.ensures.layout.few_sites _ taken (c.in_err-check_current.ensures.err c.args.grow)))

pub returns-in_err-check_current-clause-kind : goal.returns-in_err-check_current-clause-kind
returns-in_err-check_current-clause-kind g c =
    let p = err_from_is_err_and c.from_residual.result c.from_residual.ensures.1 in
    rw p.1 (subst IsHeldRefusal (sym p.2) c.in_err-check_current.ensures.kind)

pub returns-in_err-check_current-clause-unmarked : goal.returns-in_err-check_current-clause-unmarked
returns-in_err-check_current-clause-unmarked g c it keeps none =
    let p = err_from_is_err_and c.from_residual.result c.from_residual.ensures.1 in
    rw p.1 (λ clean is. c.in_err-check_current.ensures.unmarked it keeps none clean (sym p.2 ∙ is))

pub returns-in_err-check_current-clause-fault : goal.returns-in_err-check_current-clause-fault
returns-in_err-check_current-clause-fault g c sound it keeps =
    let p = err_from_is_err_and c.from_residual.result c.from_residual.ensures.1 in
    rw p.1 (λ fault clean. inl (c.in_err-check_current.ensures.refused sound it keeps (sym p.2 ∙ fault) clean, c.check_current.ensures.unwritten))

pub returns-in_err-check_current-clause-judged : goal.returns-in_err-check_current-clause-judged
returns-in_err-check_current-clause-judged g c =
    let p = err_from_is_err_and c.from_residual.result c.from_residual.ensures.1 in
    rw p.1 (λ other room. c.check_current.ensures.unwritten)

pub returns-in_err-check_current-clause-current : goal.returns-in_err-check_current-clause-current
returns-in_err-check_current-clause-current g c current = c.check_current.ensures.unwritten

-- ---- one that is not

pub returns-clause-finds : goal.returns-clause-finds
returns-clause-finds g c = record {
  ready = λ it keeps found. c.take_content.ensures.finds.ready it (leaves_still g.S.Store (connection_of c.args.tables.now) (connection_of c.check_current.new.tables) (Holds it) c.check_current.ensures.unwritten keeps)
      (λ clean. found (c.check_current.ensures.honest clean));
  beside = λ it others keeps found beside. let old = connection_of c.args.tables.now in
      let mid = connection_of c.check_current.new.tables in
      c.take_content.ensures.finds.beside it others (leaves_still g.S.Store old mid (Holds it) c.check_current.ensures.unwritten keeps) (λ clean. found (c.check_current.ensures.honest clean))
      (leaves_still g.S.Store old mid (HoldsBeside others) c.check_current.ensures.unwritten beside);
  honest = λ clean. c.check_current.ensures.honest (c.take_content.ensures.finds.honest clean);
}

pub returns-clause-kind : goal.returns-clause-kind
returns-clause-kind g c = if_err_from c.take_content.result (λ e is. inl (IfErr-at_err IsOpenRefusal is c.take_content.ensures.kind))

pub returns-clause-marked : goal.returns-clause-marked
returns-clause-marked g c it keeps mark = if_ok_from c.take_content.result (λ index is clean. c.in_ok-check_current.ensures.marked it keeps mark (c.take_content.ensures.finds.honest clean))

pub returns-clause-unmarked : goal.returns-clause-unmarked
returns-clause-unmarked g c it keeps none =
    if_err_from c.take_content.result (λ e is clean told. let k = IfErr-at_err IsOpenRefusal is c.take_content.ensures.kind in not_marked k.0 (sym k.1 ∙ told))

pub returns-clause-fault : goal.returns-clause-fault
returns-clause-fault g c sound it keeps =
    if_err_from c.take_content.result (λ e is fault clean.
    inr (IfErr-at_err (λ x. x ≡ served.StoreFault → IsDue c.args.layout.now c.args.site (named c.args.group) c.args.content.now) is c.take_content.ensures.due fault))

pub returns-clause-judged : goal.returns-clause-judged
returns-clause-judged g c =
    if_err_from c.take_content.result (λ e is other room.
    let same = IfErr-at_err (λ x. x ≢ served.StoreFault → x ≢ served.Memory → c.take_content.new.tables ≡ c.check_current.new.tables) is c.take_content.ensures.judged other room in
    subst (λ (t : Tables g.row.S.Denot g.S.Store). CommitsNothing c.args.tables.now t) (sym same) c.check_current.ensures.unwritten)

pub returns-clause-current : goal.returns-clause-current
returns-clause-current g c current = subst (λ (t : Tables g.row.S.Denot g.S.Store). CommitsNothing c.args.tables.now t) (sym (c.take_content.ensures.current current)) c.check_current.ensures.unwritten
