use Rattle.std.proofs.Common.{◌≡◌, ◌≢◌, ◌⊎◌, inl, inr, false, Option, Result, Ok, Err, refl, sym, ap, subst, ◌∙◌}
use Rattle.std.proofs.lemmas.Option.{none-some, same_Some}
use Rattle.std.proofs.lemmas.Result.{IfErr-at_err, err_from_is_err_and}
use Rattle.sqlite.specs.State.{HasCleanDisk}
use Rattle.sqlite.specs.Held.{state}
use Rattle.store_rows.specs.Rows.{Stored}
use Rattle.store_rows.proofs.StepLemmas.{survives_more, survives_same}
use Rattle.store_tables.specs.Kept.{CommitsNothing, IsRefusal, connection_of}
use Rattle.store_tables.specs.Reads.{IsInRange}
use Rattle.store_tables.specs.declared.error.TableError.{TableError}
use Rattle.store_tables.specs.Marking.{HasOutdatedMark, TellsOutdated}
use Rattle.store_tables.proofs.KeepLemmas.{leaves_still}
use Rattle.store_tables.proofs.LookLemmas.{if_ok_from}
use Rattle.store_content.specs.declared.index.Index.{Index}
use Rattle.site_store.specs.declared.error.StoreOpenError.TheVariants as opening
use Rattle.site_store.specs.declared.error.ServedError.{ServedError}
use Rattle.site_store.specs.declared.error.ServedError.TheVariants as served
use Rattle.site_store.specs.Errors.{open_error}
use Rattle.site_store.specs.SiteText.{named}
use Rattle.site_store.specs.Opened.{IsCurrent, IsDue}
use Rattle.site_store.specs.Served.{Finds, IsContentCause, IsDevice, IsDeviceOrMark, IsUntaken}
use Rattle.site_store.proofs.OpenLemmas.{beside_some, refused}
use Rattle.site_store.proofs.OwnLemmas.{any_of, any_of_either, fault_of, if_err_from, some_found, some_kept, table_cause}
use Rattle.site_store.proofs.RangeLemmas.{in_range}
use Rattle.site_store.proofs.ServedLemmas.{content_cause, device_of, either_taken, fault_below, kept_store, left_as, left_doubt_as, left_store, memory_is_none, not_found, ready_honest, refused_from, settled_as}
use Rattle.site_store.proofs.MarkedLemmas.{bad_unmarked, memory_unmarked, not_marked}
use Rattle.site_store.proofs.served.prepare_found.Goals as goal

abbrev error : TableError → Result (Option Stored) TableError
error e = Err e

ok_is_none : {A E : Type 0} {x : A} {e : E} → ◌≡◌ {A = Result A E} (Ok x) (Err e) → ⊥
ok_is_none is = absurd (cc)

bad_is_none : served.BadStore ≡ served.StoreFault → ⊥
bad_is_none is = absurd (cc)

-- ---- the connection is opened for a content that was found, or not

pub returns-in-Ok-Some-clause-found : goal.returns-in-Ok-Some-clause-found
returns-in-Ok-Some-clause-found g c = record {
  ready = λ it keeps. c.open_content.ensures.finds.ready it (c.in-Ok-Some.ensures.keeps.kept it keeps) (λ clean. same_Some c.in-Ok-Some.content it (sym c.in-Ok-Some.field-0-is ∙ c.in-Ok-Some.ensures.looks.read it keeps clean));
  settles = λ a b keeps. settled_as g.S.Store (connection_of c.open_content.new.tables) c.args.grow c.args.layout.now c.args.site (named c.args.group) a b _ _ _ c.in-Ok-Some.field-0 (c.in-Ok-Some.ensures.looks.settles a b keeps)
      c.in-Ok-Some.content c.in-Ok-Some.field-0-is c.open_content.result
      (λ kept same. c.open_content.ensures.finds.ready a kept (λ clean. same clean)) (λ kept same. c.open_content.ensures.finds.ready b kept (λ clean. same clean));
  settles_or = λ it keeps. let layout = c.args.layout.now in
      let conn = connection_of c.look.new.self in
      let next = connection_of c.open_content.new.tables in
      let found = c.in-Ok-Some.ensures.looks.settles_or it keeps in
      let t = c.in-Ok-Some.field-0 in
      if_ok_from c.open_content.result (λ index is.
      ready_honest g.S.Store next layout c.args.site (named c.args.group) it index (λ clean.
      let early = c.open_content.ensures.finds.honest clean in
      let kept = some_kept g.S.Store conn it _ early t found c.in-Ok-Some.content c.in-Ok-Some.field-0-is in
      let same = some_found g.S.Store conn it _ early t found c.in-Ok-Some.content c.in-Ok-Some.field-0-is in
      (subst (λ (r : Result Index ServedError). Finds g.S.Store c.args.grow layout c.args.site (named c.args.group) it next r) is (c.open_content.ensures.finds.ready it kept (λ _. same))).ready));
  own = λ a b first second keeps. if_err_from c.open_content.result (λ e is clean.
      either_taken g.S.Store (connection_of c.open_content.new.tables) c.args.grow c.args.layout.now c.args.site (named c.args.group) a b _ _ _ c.in-Ok-Some.field-0 (c.in-Ok-Some.ensures.looks.settles a b keeps)
      (c.open_content.ensures.finds.honest clean) c.in-Ok-Some.content c.in-Ok-Some.field-0-is first second e (λ taken. IfErr-at_err IsDeviceOrMark is (c.open_content.ensures.own taken)));
  left = λ a b keeps. if_err_from c.open_content.result (λ e is.
      left_as g.S.Store (connection_of c.open_content.new.tables) c.args.grow c.args.layout.now c.args.site (named c.args.group) a b _ _ _ c.in-Ok-Some.field-0 (c.in-Ok-Some.ensures.looks.settles a b keeps)
      c.in-Ok-Some.content c.in-Ok-Some.field-0-is c.open_content.result e is (λ kept same. c.open_content.ensures.finds.ready a kept (λ clean. same clean)) (λ kept same. c.open_content.ensures.finds.ready b kept (λ clean. same clean)));
  left_or = λ it keeps. if_err_from c.open_content.result (λ e is.
      left_doubt_as g.S.Store (connection_of c.open_content.new.tables) c.args.grow c.args.layout.now c.args.site (named c.args.group) it _ _ _ c.in-Ok-Some.field-0 (c.in-Ok-Some.ensures.looks.settles_or it keeps)
      c.open_content.ensures.finds.honest c.in-Ok-Some.content c.in-Ok-Some.field-0-is c.open_content.result e is (λ kept same. c.open_content.ensures.finds.ready it kept (λ clean. same clean)));
  kind = c.open_content.ensures.kind;
  marked = λ it keeps mark. c.open_content.ensures.marked it (c.in-Ok-Some.ensures.keeps.kept it keeps)
      (leaves_still g.S.Store (connection_of c.args.tables.now) (connection_of c.look.new.self) HasOutdatedMark c.in-Ok-Some.ensures.looks.unwritten mark);
  unmarked = λ it keeps none. c.open_content.ensures.unmarked it (c.in-Ok-Some.ensures.keeps.kept it keeps)
      (leaves_still g.S.Store (connection_of c.args.tables.now) (connection_of c.look.new.self) (TellsOutdated false) c.in-Ok-Some.ensures.looks.unwritten none);
  beside = λ a b others keeps beside. let still = c.in-Ok-Some.ensures.keeps.beside others beside in
      beside_some g.S.Store (connection_of c.open_content.new.tables) a b _ _ _ others c.open_content.ensures.finds.honest c.in-Ok-Some.field-0 c.in-Ok-Some.content c.in-Ok-Some.field-0-is
      (λ kept same. c.open_content.ensures.finds.beside a others kept same still) (λ kept same. c.open_content.ensures.finds.beside b others kept same still) (c.in-Ok-Some.ensures.looks.settles a b keeps);
  fault = λ sound it keeps. if_err_from c.open_content.result (λ e is fault clean.
      let s0 = state g.S.Store (connection_of c.args.tables.now) in
      let s1 = state g.S.Store (connection_of c.look.new.self) in
      let s2 = state g.S.Store (connection_of c.open_content.new.tables) in
      let early = c.open_content.ensures.finds.honest clean in
      let same = same_Some c.in-Ok-Some.content it (sym c.in-Ok-Some.field-0-is ∙ c.in-Ok-Some.ensures.looks.read it keeps early) in
      elim (IfErr-at_err (λ x. x ≡ served.StoreFault → HasCleanDisk s2 → (IsRefusal c.look.new.self c.open_content.new.tables × CommitsNothing c.look.new.self c.open_content.new.tables)
      ⊎ IsDue c.args.layout.now c.args.site (named c.args.group) c.in-Ok-Some.content) is (c.open_content.ensures.fault (c.in-Ok-Some.ensures.stops.sound ok_is_none) it (c.in-Ok-Some.ensures.keeps.kept it keeps)) fault clean) [
        | inl why ↦ inl (refused_from s0 s1 s2 c.in-Ok-Some.ensures.looks.unwritten early why.1 why.0)
        | inr due ↦ inr (subst (IsDue c.args.layout.now c.args.site (named c.args.group)) same due)
      ]);
  current = λ it current keeps clean. let early = c.open_content.ensures.finds.honest clean in
      let found = same_Some c.in-Ok-Some.content it (sym c.in-Ok-Some.field-0-is ∙ c.in-Ok-Some.ensures.looks.read it keeps early) in
      survives_more (state g.S.Store (connection_of c.args.tables.now)) (state g.S.Store (connection_of c.look.new.self)) (state g.S.Store (connection_of c.open_content.new.tables)) c.in-Ok-Some.ensures.looks.unwritten
      (c.open_content.ensures.current (subst (IsCurrent c.args.layout.now) (sym found) current));
}

pub returns-in-Ok-None-clause-found : goal.returns-in-Ok-None-clause-found
returns-in-Ok-None-clause-found g c = record {
  ready = λ it keeps. record {
    cause = λ clean. absurd (none-some it (sym c.in-Ok-None.field-0-is ∙ c.in-Ok-None.ensures.looks.read it keeps clean));
    left = kept_store g.S.Store (connection_of c.look.new.self) c.args.layout.now it served.BadStore (c.in-Ok-None.ensures.keeps.kept it keeps);
  };
  settles = λ a b keeps. tt;
  settles_or = λ it keeps. tt;
  own = λ a b first second keeps. λ clean.
      absurd (not_found g.S.Store (connection_of c.look.new.self) c.args.grow c.args.layout.now c.args.site (named c.args.group) a b _ _ _ c.in-Ok-None.field-0 (c.in-Ok-None.ensures.looks.settles a b keeps)
      clean c.in-Ok-None.field-0-is);
  left = λ a b keeps. ∣ inl (c.in-Ok-None.ensures.keeps.either a b keeps) ∣₁;
  left_or = λ it keeps. ∣ inl (c.in-Ok-None.ensures.keeps.bare_or it keeps) ∣₁;
  kind = inl (opening.BadStore, refl);
  marked = λ it keeps mark. tt;
  unmarked = λ it keeps none. λ clean. bad_unmarked;
  beside = λ a b others keeps beside. c.in-Ok-None.ensures.keeps.beside others beside;
  fault = λ sound it keeps. λ fault clean. absurd (bad_is_none fault);
  current = λ it current keeps clean. c.in-Ok-None.ensures.looks.unwritten;
}

pub returns-clause-found : goal.returns-clause-found
returns-clause-found g c = record {
  ready = λ it keeps. let conn = connection_of c.look.new.self in
      let told = refused g.S.Store conn c.args.layout.now c.args.site (named c.args.group) it c.in-Err.error
      (λ is clean content. c.in-Err.ensures.looks.own it (in_range it content) keeps clean (ap error is)) (c.in-Err.ensures.keeps.kept it keeps) in
      subst (IsUntaken g.S.Store c.args.grow c.args.layout.now c.args.site (named c.args.group) it conn) (sym c.from.ensures) (record {
        cause = λ clean. content_cause c.args.grow c.args.layout.now c.args.site (named c.args.group) it (open_error c.in-Err.error) (told.cause clean);
        left = left_store g.S.Store conn c.args.layout.now it (open_error c.in-Err.error) told.left;
      });
  settles = λ a b keeps. tt;
  settles_or = λ it keeps. tt;
  own = λ a b first second keeps. λ clean.
      inl (subst IsDevice (sym c.from.ensures) (device_of (open_error c.in-Err.error)
      (table_cause c.in-Err.error (λ is. c.in-Err.ensures.looks.good
      (any_of_either g.S.Store (connection_of c.args.tables.now) IsInRange a b (in_range a first.own.content) (in_range b second.own.content) keeps) clean (ap error is)))));
  left = λ a b keeps. ∣ inl (c.in-Err.ensures.keeps.either a b keeps) ∣₁;
  left_or = λ it keeps. ∣ inl (c.in-Err.ensures.keeps.bare_or it keeps) ∣₁;
  kind = inl (open_error c.in-Err.error, c.from.ensures);
  marked = λ it keeps mark. tt;
  unmarked = λ it keeps none. λ clean is. not_marked (open_error c.in-Err.error) (sym c.from.ensures ∙ is);
  beside = λ a b others keeps beside. c.in-Err.ensures.keeps.beside others beside;
  fault = λ sound it keeps. λ fault clean.
      inl ((c.in-Err.ensures.refused sound).any (any_of g.S.Store (connection_of c.args.tables.now) (λ _. Unit {0}) it tt keeps) clean
      (ap error (fault_of c.in-Err.error (fault_below (open_error c.in-Err.error) (sym c.from.ensures ∙ fault)))));
  current = λ it current keeps clean. c.in-Err.ensures.looks.unwritten;
}

pub returns-in_err-line-clause-found : goal.returns-in_err-line-clause-found
returns-in_err-line-clause-found g c =
    let p = err_from_is_err_and c.from_residual.result c.from_residual.ensures.1 in
    rw p.1 (record {
      ready = λ it keeps. (record {
        cause = λ clean. subst (IsContentCause c.args.grow c.args.layout.now c.args.site (named c.args.group) it) (sym p.2) tt;
        left = kept_store g.S.Store (connection_of c.args.tables.now) c.args.layout.now it p.0 keeps;
      });
      settles = λ a b keeps. tt;
      settles_or = λ it keeps. tt;
      own = λ a b first second keeps. (λ clean. inl (inr p.2));
      left = λ a b keeps. (∣ inl keeps ∣₁);
      left_or = λ it keeps. (∣ inl keeps ∣₁);
      kind = (inl (opening.Memory, p.2));
      marked = λ it keeps mark. tt;
      unmarked = λ it keeps none. (λ clean is. memory_unmarked (sym p.2 ∙ is));
      beside = λ a b others keeps beside. beside;
      fault = λ sound it keeps. (λ fault clean. absurd (memory_is_none (sym p.2 ∙ fault)));
      current = λ it current keeps clean. survives_same _;
    })

pub returns-in-Ok-Some-clause-judged : goal.returns-in-Ok-Some-clause-judged
returns-in-Ok-Some-clause-judged g c =
    if_err_from c.open_content.result (λ e is other room.
    survives_more (state g.S.Store (connection_of c.args.tables.now)) (state g.S.Store (connection_of c.look.new.self)) (state g.S.Store (connection_of c.open_content.new.tables)) c.in-Ok-Some.ensures.looks.unwritten
    (IfErr-at_err (λ x. x ≢ served.StoreFault → x ≢ served.Memory → CommitsNothing c.look.new.self c.open_content.new.tables) is c.open_content.ensures.judged other room))

pub returns-in_err-line-clause-judged : goal.returns-in_err-line-clause-judged
returns-in_err-line-clause-judged g c =
    let p = err_from_is_err_and c.from_residual.result c.from_residual.ensures.1 in
    rw p.1 (λ other room. absurd (room p.2))
