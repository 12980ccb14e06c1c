use Rattle.std.proofs.Common.{inl, inr, refl, sym, ap, subst, ◌∙◌}
use Rattle.sqlite_schema.specs.declared.schema.Schema.{Schema}
use Rattle.sqlite.specs.Effect.{Database}
use Rattle.sqlite.specs.Held.{state}
use Rattle.store_tables.proofs.RefusalLemmas.{all_on_ok}
use Rattle.site_store.specs.Errors.{open_error}
use Rattle.site_store.specs.Served.{IsOriginOf}
use Rattle.site_store.proofs.OwnLemmas.{fault_of}
use Rattle.site_store.proofs.ServedLemmas.{all_errs, device_denied, device_two, fault_below, match_err, match_ok, none_faulty, not_memory, table_device}
use Rattle.site_store.proofs.served.check_permission.Goals as goal

pub returns-in-Ok-clause-permitted : goal.returns-in-Ok-clause-permitted
returns-in-Ok-clause-permitted g c =
    let is : IsOriginOf c.schema.result.now c.origin_of.result = record { nothing = c.origin_of.ensures.nothing; store = c.origin_of.ensures.store; foreign = c.origin_of.ensures.foreign } in
    match_ok _ _ c.permit.result (c.permit.ensures.schema (state g.S.Store c.check_connection.new.conn).now.schema (subst (λ (s : Schema). IsOriginOf s c.origin_of.result) c.schema.ensures.value is))

pub returns-in-Ok-clause-granted : goal.returns-in-Ok-clause-granted
returns-in-Ok-clause-granted g c clean =
    let is : IsOriginOf c.schema.result.now c.origin_of.result = record { nothing = c.origin_of.ensures.nothing; store = c.origin_of.ensures.store; foreign = c.origin_of.ensures.foreign } in
    let same = c.schema.ensures.value ∙ ap (λ (d : Database). d.schema) (c.in-Ok.ensures.settled clean).0.now_is in
    match_ok _ _ c.permit.result (c.permit.ensures.schema (state g.S.Store c.args.connection.now).now.schema (subst (λ (s : Schema). IsOriginOf s c.origin_of.result) same is))

pub returns-in-Ok-clause-denied : goal.returns-in-Ok-clause-denied
returns-in-Ok-clause-denied g c clean =
    let is : IsOriginOf c.schema.result.now c.origin_of.result = record { nothing = c.origin_of.ensures.nothing; store = c.origin_of.ensures.store; foreign = c.origin_of.ensures.foreign } in
    let same = c.schema.ensures.value ∙ ap (λ (d : Database). d.schema) (c.in-Ok.ensures.settled clean).0.now_is in
    match_err _ _ c.permit.result (c.permit.ensures.schema (state g.S.Store c.args.connection.now).now.schema (subst (λ (s : Schema). IsOriginOf s c.origin_of.result) same is))

pub returns-in-Ok-clause-settled : goal.returns-in-Ok-clause-settled
returns-in-Ok-clause-settled g c clean =
    let idle = c.is_autocommit-is_idle.ensures.settled (rw (c.is_autocommit-is_idle.ensures.value, c.requires)) in
    let up = (c.in-Ok.ensures.settled clean).0.was_open in
    all_on_ok c.permit.result (record { is_open = up; sound = (c.schema-schema.ensures.live up).0; committed = idle up })

pub returns-in-Ok-clause-opened : goal.returns-in-Ok-clause-opened
returns-in-Ok-clause-opened g c clean = all_on_ok c.permit.result (c.in-Ok.ensures.settled clean).0.is_open

pub returns-in-Ok-clause-known : goal.returns-in-Ok-clause-known
returns-in-Ok-clause-known g c clean =
    let idle = c.is_autocommit-is_idle.ensures.settled (rw (c.is_autocommit-is_idle.ensures.value, c.requires)) in
    let up = (c.in-Ok.ensures.settled clean).0.was_open in
    all_errs c.permit.result (λ e fault memory. record { is_open = up; sound = (c.schema-schema.ensures.live up).0; committed = idle up })

pub returns-in-Ok-clause-refused : goal.returns-in-Ok-clause-refused
returns-in-Ok-clause-refused g c clean = none_faulty _ c.permit.result c.permit.ensures.kind

-- ---- the device refused

pub returns-in-Err-clause-denied : goal.returns-in-Err-clause-denied
returns-in-Err-clause-denied g c clean = rw c.from-in-Err.ensures (device_denied c.args.permission _ _ (table_device c.from.result c.from.ensures.1))

pub returns-in-Err-clause-known : goal.returns-in-Err-clause-known
returns-in-Err-clause-known g c clean = rw c.from-in-Err.ensures (λ fault memory. absurd (device_two _ (table_device c.from.result c.from.ensures.1) fault memory))

pub returns-in-Err-clause-refused : goal.returns-in-Err-clause-refused
returns-in-Err-clause-refused g c clean = λ fault.
    let is = fault_of c.from.result (fault_below (open_error c.from.result) (sym c.from-in-Err.ensures ∙ fault)) in
    elim (c.in-Err.ensures.refused clean c.in-Err.error refl) [
      | inl why ↦ why
      | inr lacked ↦ absurd (not_memory c.from.result c.in-Err.error c.from.ensures.0 is lacked.0)
    ]
