use Rattle.std.proofs.Common.{inl, refl, sym, ap, subst, ◌∙◌}
use Rattle.std.proofs.lemmas.Result.{err_from_is_err_and}
use Rattle.store_rows.specs.Rows.{Stored}
use Rattle.store_tables.specs.Kept.{connection_of}
use Rattle.site_store.specs.Errors.{served_error}
use Rattle.site_store.specs.SiteText.{named}
use Rattle.site_store.specs.Served.{IsContentCause, IsDeviceOrMark, IsOpenRefusal, IsUntaken}
use Rattle.site_store.proofs.ServedLemmas.{content_cause, device_of, fault_below, kept_store, left_store, ready_as, taken_device}
use Rattle.site_store.proofs.served.take_content.Goals as goal

pub returns-in_err-check_growth-clause-finds : goal.returns-in_err-check_growth-clause-finds
returns-in_err-check_growth-clause-finds g c = record {
  ready = λ it keeps found. let p = err_from_is_err_and c.from_residual.result c.from_residual.ensures.1 in
      rw p.1 (record {
        cause = λ clean. subst (λ (s : Stored). IsContentCause c.args.grow c.args.layout.now c.args.site (named c.args.group) s p.0) (found clean)
            (subst (IsContentCause c.args.grow c.args.layout.now c.args.site (named c.args.group) c.args.content.now) (sym p.2) c.in_err-check_growth.ensures.err.0);
        left = kept_store g.S.Store (connection_of c.args.tables.now) c.args.layout.now it p.0 keeps;
      });
  beside = λ it others keeps found beside. beside;
  honest = λ clean. clean;
}

pub returns-in-Ok-clause-finds : goal.returns-in-Ok-clause-finds
returns-in-Ok-clause-finds g c = record {
  ready = λ it keeps found. ready_as g.S.Store (connection_of c.open_found.new.tables) c.args.grow c.args.layout.now c.args.site (named c.args.group) it c.args.content.now c.in-Ok.index (λ clean. found (c.open_found.ensures.honest clean))
      c.in_ok-check_growth.ensures.ok (c.in-Ok.ensures.ready it keeps found);
  beside = c.open_found.ensures.beside;
  honest = c.open_found.ensures.honest;
}

pub returns-in-Err-clause-finds : goal.returns-in-Err-clause-finds
returns-in-Err-clause-finds g c = record {
  ready = λ it keeps found. let conn = connection_of c.open_found.new.tables in
      let refused = c.in-Err.ensures.ready it keeps found in
      subst (IsUntaken g.S.Store c.args.grow c.args.layout.now c.args.site (named c.args.group) it conn) (sym c.from.ensures) (record {
        cause = λ clean. content_cause c.args.grow c.args.layout.now c.args.site (named c.args.group) it c.in-Err.error (refused.cause clean);
        left = left_store g.S.Store conn c.args.layout.now it c.in-Err.error refused.left;
      });
  beside = c.open_found.ensures.beside;
  honest = c.open_found.ensures.honest;
}

pub returns-in_err-check_growth-clause-own : goal.returns-in_err-check_growth-clause-own
returns-in_err-check_growth-clause-own g c taken =
    let p = err_from_is_err_and c.from_residual.result c.from_residual.ensures.1 in
    rw p.1 (subst IsDeviceOrMark (sym p.2)
    (taken_device c.args.grow c.args.layout.now c.args.site (named c.args.group) c.args.content.now c.sites.ensures.layout.few_sites _ taken c.in_err-check_growth.ensures.err.0))

pub returns-in-Err-clause-own : goal.returns-in-Err-clause-own
returns-in-Err-clause-own g c taken = subst IsDeviceOrMark (sym c.from.ensures) (inl (device_of c.in-Err.error (c.in-Err.ensures.own taken.own)))

pub returns-in_err-check_growth-clause-kind : goal.returns-in_err-check_growth-clause-kind
returns-in_err-check_growth-clause-kind g c =
    let p = err_from_is_err_and c.from_residual.result c.from_residual.ensures.1 in
    rw p.1 (subst IsOpenRefusal (sym p.2) c.in_err-check_growth.ensures.kind)

pub returns-in-Err-clause-kind : goal.returns-in-Err-clause-kind
returns-in-Err-clause-kind g c = (c.in-Err.error, c.from.ensures)

pub returns-in_err-check_growth-clause-due : goal.returns-in_err-check_growth-clause-due
returns-in_err-check_growth-clause-due g c =
    let p = err_from_is_err_and c.from_residual.result c.from_residual.ensures.1 in
    rw p.1 (λ fault. absurd (c.in_err-check_growth.ensures.err.1 (sym p.2 ∙ fault)))

pub returns-in-Err-clause-due : goal.returns-in-Err-clause-due
returns-in-Err-clause-due g c = λ fault. c.in-Err.ensures.due (fault_below c.in-Err.error (sym c.from.ensures ∙ fault))

pub returns-in_err-check_growth-clause-judged : goal.returns-in_err-check_growth-clause-judged
returns-in_err-check_growth-clause-judged g c =
    let p = err_from_is_err_and c.from_residual.result c.from_residual.ensures.1 in
    rw p.1 (λ other room. refl)

pub returns-in-Err-clause-judged : goal.returns-in-Err-clause-judged
returns-in-Err-clause-judged g c = λ other room. c.in-Err.ensures.judged (λ is. other (c.from.ensures ∙ ap served_error is)) (λ is. room (c.from.ensures ∙ ap served_error is))
