use Rattle.std.proofs.Common.{Bool, Err, Result, inl, sym, ap, subst, ◌∙◌}
use Rattle.std.proofs.lemmas.Bool.{both_ways}
use Rattle.std.proofs.lemmas.Result.{err_from_is_err_and}
use Rattle.store_tables.specs.declared.error.TableError.{TableError}
use Rattle.site_store.specs.Errors.{open_error}
use Rattle.site_store.specs.SiteText.{named}
use Rattle.site_store.specs.Served.{IsContentCause}
use Rattle.site_store.proofs.OwnLemmas.{fault_of}
use Rattle.site_store.proofs.ServedLemmas.{device_content, fault_below, table_device}
use Rattle.site_store.proofs.MarkedLemmas.{not_marked}
use Rattle.site_store.proofs.served.check_current.Goals as goal

abbrev error : TableError → Result Bool TableError
error e = Err e

-- ---- marked or not

pub returns-clause-marked : goal.returns-clause-marked
returns-clause-marked g c it keeps mark = λ clean. both_ways _ c.if-marked.false (c.in_ok-marked.ensures.marked it keeps mark clean)

pub returns-in_err-marked-clause-unmarked : goal.returns-in_err-marked-clause-unmarked
returns-in_err-marked-clause-unmarked g c it keeps none =
    let p = err_from_is_err_and c.from_residual.result c.from_residual.ensures.1 in
    rw p.1 (λ clean is. not_marked (open_error c.in_err-marked.field-0.0) (sym p.2 ∙ is))

pub returns-then-marked-clause-unmarked : goal.returns-then-marked-clause-unmarked
returns-then-marked-clause-unmarked g c it keeps none = λ clean is. both_ways _ (c.in_ok-marked.ensures.unmarked it keeps none clean) c.if-marked.true

-- ---- why it is refused

pub returns-in_err-marked-clause-err : goal.returns-in_err-marked-clause-err
returns-in_err-marked-clause-err g c =
    let p = err_from_is_err_and c.from_residual.result c.from_residual.ensures.1 in
    rw p.1 (λ grow. subst (IsContentCause grow c.args.layout.now c.args.site (named c.args.group) c.args.content.now) (sym p.2)
    (device_content grow c.args.layout.now c.args.site (named c.args.group) c.args.content.now _ (table_device c.in_err-marked.field-0.0 (λ is. c.in_err-marked.ensures.kind (ap error is)))))

pub returns-then-marked-clause-err : goal.returns-then-marked-clause-err
returns-then-marked-clause-err g c = λ grow. (c.outdated_refusal.ensures.cause grow).0

pub returns-in_err-marked-clause-kind : goal.returns-in_err-marked-clause-kind
returns-in_err-marked-clause-kind g c =
    let p = err_from_is_err_and c.from_residual.result c.from_residual.ensures.1 in
    rw p.1 (inl (open_error c.in_err-marked.field-0.0, p.2))

pub returns-in_err-marked-clause-refused : goal.returns-in_err-marked-clause-refused
returns-in_err-marked-clause-refused g c sound it keeps =
    let p = err_from_is_err_and c.from_residual.result c.from_residual.ensures.1 in
    rw p.1 (λ fault clean. c.in_err-marked.ensures.refused sound it keeps clean (ap error (fault_of c.in_err-marked.field-0.0 (fault_below (open_error c.in_err-marked.field-0.0) (sym p.2 ∙ fault)))))

pub returns-then-marked-clause-refused : goal.returns-then-marked-clause-refused
returns-then-marked-clause-refused g c sound it keeps = λ fault clean. absurd ((c.outdated_refusal.ensures.cause c.in_ok-marked.marked).1 fault)
