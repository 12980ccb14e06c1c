use Rattle.std.proofs.Common.{◌≡◌, ◌⊎◌, inl, inr, Option, None, Some, Ok, IfOk, OnOk, IsTrue, sym, ap, subst, ◌∙◌, arith}
use Rattle.std.proofs.lemmas.Bool.{cases_Bool}
use Rattle.sqlite_trees.specs.Tree.{Trees}
use Rattle.std.proofs.Math.Logic.{∥∥₁_elim}
use Rattle.sqlite.specs.Effect.{IsDatabase}
use Rattle.sqlite.specs.State.{HasCleanDisk}
use Rattle.sqlite.specs.Held.{state}
use Rattle.store_schema.specs.declared.Found.TheVariants.{Store}
use Rattle.store_schema.specs.Found.{found_in}
use Rattle.store_schema.proofs.TableLemmas.{found_blank}
use Rattle.store_rows.specs.Rows.{Stored}
use Rattle.store_rows.specs.Holding.{IsStoreOf, Holds, HoldsNothing}
use Rattle.store_tables.proofs.KeepLemmas.{seen_is, store_of, bare, nothing_seen, settles}
use Rattle.store_tables.proofs.LookLemmas.{if_ok_given, found_store, found_once, on_ok_given, if_ok_from}
use Rattle.store_schema.specs.Tables.{IsSchemaOf}
use Rattle.store_tables.specs.Reads.{IsInRange}
use Rattle.store_tables.proofs.RefusalLemmas.{version_once, version_of, not_blank, not_other}
use Rattle.store_tables.proofs.keeping.look_kept.Goals as goal

abbrev Some_kept : (Stored → Type 0) → Trees → Type 0
Some_kept Fits db = HoldsNothing db ⊎ ((it : Stored) × (Fits it × Holds it db))

pub returns-clause-looks : goal.returns-clause-looks
returns-clause-looks g c = record {
  read = λ it keeps clean.
      let old = c.args.conn.now in
      let early : HasCleanDisk (state g.S.Store old) = omega (arith, c.read_whole.ensures.reads.survives.clean) in
      let idle = c.is_autocommit-is_idle.ensures.settled (rw (c.is_autocommit-is_idle.ensures.value, c.requires)) in
      if_ok_given (λ found. found ≡ Some it) c.read_whole.result
      (λ up.
      let seen = seen_is g.S.Store g.met.S.Store.settled g.met.S.Store.stays old (Holds it) keeps c.schema.ensures.live idle early up in
      ∥∥₁_elim seen.1 (found_once c.read_whole.result (Some it)) (λ holds.
      let store : IsStoreOf (state g.S.Store old).now it = store_of (state g.S.Store old).now it seen.0 holds in
      let found : c.found_in-found.result ≡ Store it.version = c.found_in-found.ensures ∙ ap found_in c.schema.ensures.value ∙ found_store it.version _ store.schema in
      c.read_whole.ensures.reads.read clean it found store))
      (c.read_whole.ensures.reads.opened clean);
  own = λ it fits keeps clean bad.
      let old = c.args.conn.now in
      let early : HasCleanDisk (state g.S.Store old) = omega (arith, c.read_whole.ensures.reads.survives.clean) in
      let idle = c.is_autocommit-is_idle.ensures.settled (rw (c.is_autocommit-is_idle.ensures.value, c.requires)) in
      let up = c.read_whole.ensures.reads.judged clean bad in
      let seen = seen_is g.S.Store g.met.S.Store.settled g.met.S.Store.stays old (Holds it) keeps c.schema.ensures.live idle early up in
      ∥∥₁_elim seen.1 (λ a b. absurd a) (λ holds.
      let store : IsStoreOf (state g.S.Store old).now it = store_of (state g.S.Store old).now it seen.0 holds in
      let found : c.found_in-found.result ≡ Store it.version = c.found_in-found.ensures ∙ ap found_in c.schema.ensures.value ∙ found_store it.version _ store.schema in
      c.read_whole.ensures.reads.own clean it found store fits bad);
  good = λ keeps clean bad.
      let old = c.args.conn.now in
      let now = (state g.S.Store old).now in
      let early : HasCleanDisk (state g.S.Store old) = omega (arith, c.read_whole.ensures.reads.survives.clean) in
      let idle = c.is_autocommit-is_idle.ensures.settled (rw (c.is_autocommit-is_idle.ensures.value, c.requires)) in
      let up = c.read_whole.ensures.reads.judged clean bad in
      let seen = seen_is g.S.Store g.met.S.Store.settled g.met.S.Store.stays old (Some_kept IsInRange) keeps c.schema.ensures.live idle early up in
      ∥∥₁_elim seen.1 (λ a b. absurd a) (λ holds. elim holds [
        | inl nothing ↦ (c.read_whole.ensures.reads.blank (c.found_in-found.ensures ∙ ap found_in (c.schema.ensures.value ∙ bare now seen.0 nothing) ∙ found_blank)).1 bad
        | inr x ↦
            let store : IsStoreOf now x.0 = store_of now x.0 seen.0 x.1.1 in
            let found : c.found_in-found.result ≡ Store x.0.version = c.found_in-found.ensures ∙ ap found_in c.schema.ensures.value ∙ found_store x.0.version _ store.schema in
            c.read_whole.ensures.reads.own clean x.0 found store x.1.0 bad
      ]);
  blank = λ keeps clean.
      let old = c.args.conn.now in
      let early : HasCleanDisk (state g.S.Store old) = omega (arith, c.read_whole.ensures.reads.survives.clean) in
      let idle = c.is_autocommit-is_idle.ensures.settled (rw (c.is_autocommit-is_idle.ensures.value, c.requires)) in (
        if_ok_given (λ found. found ≡ None) c.read_whole.result
            (λ up.
            let seen = seen_is g.S.Store g.met.S.Store.settled g.met.S.Store.stays old HoldsNothing keeps c.schema.ensures.live idle early up in
            ∥∥₁_elim seen.1 (found_once c.read_whole.result None) (λ nothing.
            (c.read_whole.ensures.reads.blank (c.found_in-found.ensures ∙ ap found_in (c.schema.ensures.value ∙ bare (state g.S.Store old).now seen.0 nothing) ∙ found_blank)).0))
            (c.read_whole.ensures.reads.opened clean),
        λ bad.
            let up = c.read_whole.ensures.reads.judged clean bad in
            let seen = seen_is g.S.Store g.met.S.Store.settled g.met.S.Store.stays old HoldsNothing keeps c.schema.ensures.live idle early up in
            ∥∥₁_elim seen.1 (λ a b. absurd a) (λ nothing.
            (c.read_whole.ensures.reads.blank (c.found_in-found.ensures ∙ ap found_in (c.schema.ensures.value ∙ bare (state g.S.Store old).now seen.0 nothing) ∙ found_blank)).1 bad),
      );
  settles = λ a b keeps.
      let old = c.args.conn.now in
      let idle = c.is_autocommit-is_idle.ensures.settled (rw (c.is_autocommit-is_idle.ensures.value, c.requires)) in
      let holds_as : (it : Stored) (found : Option Stored) → c.read_whole.result ≡ Ok found → HasCleanDisk (state g.S.Store c.read_whole.new.conn) → IsDatabase (state g.S.Store old).now → Holds it (state g.S.Store old).now.trees → found ≡ Some it = λ it found is clean sound holds.
      let store : IsStoreOf (state g.S.Store old).now it = store_of (state g.S.Store old).now it sound holds in
      let has : c.found_in-found.result ≡ Store it.version = c.found_in-found.ensures ∙ ap found_in c.schema.ensures.value ∙ found_store it.version _ store.schema in
      subst (λ r. IfOk r (λ x. x ≡ Some it)) is (c.read_whole.ensures.reads.read clean it has store) in
      if_ok_from c.read_whole.result (λ found is.
      settles g.S.Store g.met.S.Store.settled g.met.S.Store.stays old c.read_whole.new.conn (Holds a) (Holds b) (found ≡ Some a) (found ≡ Some b) keeps c.schema.ensures.live idle c.read_whole.ensures.reads.survives
      (λ clean. subst (λ r. OnOk r (IsTrue (state g.S.Store old).is_open)) is (c.read_whole.ensures.reads.opened clean)) (holds_as a found is) (holds_as b found is));
  settles_or = λ it keeps.
      let old = c.args.conn.now in
      let idle = c.is_autocommit-is_idle.ensures.settled (rw (c.is_autocommit-is_idle.ensures.value, c.requires)) in
      let holds_as : (it : Stored) (found : Option Stored) → c.read_whole.result ≡ Ok found → HasCleanDisk (state g.S.Store c.read_whole.new.conn) → IsDatabase (state g.S.Store old).now → Holds it (state g.S.Store old).now.trees → found ≡ Some it = λ it found is clean sound holds.
      let store : IsStoreOf (state g.S.Store old).now it = store_of (state g.S.Store old).now it sound holds in
      let has : c.found_in-found.result ≡ Store it.version = c.found_in-found.ensures ∙ ap found_in c.schema.ensures.value ∙ found_store it.version _ store.schema in
      subst (λ r. IfOk r (λ x. x ≡ Some it)) is (c.read_whole.ensures.reads.read clean it has store) in
      if_ok_from c.read_whole.result (λ found is.
      settles g.S.Store g.met.S.Store.settled g.met.S.Store.stays old c.read_whole.new.conn HoldsNothing (Holds it) (found ≡ None) (found ≡ Some it) keeps c.schema.ensures.live idle c.read_whole.ensures.reads.survives
      (λ clean. subst (λ r. OnOk r (IsTrue (state g.S.Store old).is_open)) is (c.read_whole.ensures.reads.opened clean))
      (λ clean sound nothing. subst (λ r. IfOk r (λ x. x ≡ None)) is (c.read_whole.ensures.reads.blank (c.found_in-found.ensures ∙ ap found_in (c.schema.ensures.value ∙ bare (state g.S.Store old).now sound nothing) ∙ found_blank)).0)
      (holds_as it found is));
  cause = λ is. sym (c.found_in-found.ensures ∙ ap found_in c.schema.ensures.value) ∙ c.read_whole.ensures.reads.cause is;
  fresh = λ none.
      let old = c.args.conn.now in
      let idle = c.is_autocommit-is_idle.ensures.settled (rw (c.is_autocommit-is_idle.ensures.value, c.requires)) in
      on_ok_given c.read_whole.result
      (λ opened. nothing_seen g.S.Store g.met.S.Store.settled g.met.S.Store.stays old c.read_whole.new.conn none c.schema.ensures.live idle c.read_whole.ensures.reads.survives opened)
      c.read_whole.ensures.reads.opened;
  unwritten = c.read_whole.ensures.reads.survives;
}

pub returns-clause-refused : goal.returns-clause-refused
returns-clause-refused g c = record {
  any = λ keeps clean failed.
      let old = c.args.conn.now in
      let now = (state g.S.Store old).now in
      let early : HasCleanDisk (state g.S.Store old) = omega (arith, c.read_whole.ensures.reads.survives.clean) in
      let idle = c.is_autocommit-is_idle.ensures.settled (rw (c.is_autocommit-is_idle.ensures.value, c.requires)) in
      elim (cases_Bool (state g.S.Store old).is_open) [
        | inl up ↦
            let seen = seen_is g.S.Store g.met.S.Store.settled g.met.S.Store.stays old (Some_kept (λ _. Unit {0})) keeps c.schema.ensures.live idle early up in
            c.read_whole.ensures.reads.refused clean (λ v is. ∥∥₁_elim seen.1 (version_once v now.schema) (λ holds. elim holds [
              | inl nothing ↦ absurd (not_blank v (sym is ∙ c.found_in-found.ensures ∙ ap found_in (c.schema.ensures.value ∙ bare now seen.0 nothing) ∙ found_blank))
              | inr x ↦
                  let store : IsStoreOf now x.0 = store_of now x.0 seen.0 x.1.1 in
                  let found : c.found_in-found.result ≡ Store x.0.version = c.found_in-found.ensures ∙ ap found_in c.schema.ensures.value ∙ found_store x.0.version _ store.schema in
                  subst (λ w. IsSchemaOf w now.schema) (version_of x.0.version v (sym found ∙ is)) store.schema
            ])) failed
        | inr down ↦ inr (inl down)
      ];
  other = λ other clean failed.
      c.read_whole.ensures.reads.refused clean (λ v is. absurd (not_other v (sym is ∙ c.found_in-found.ensures ∙ ap found_in c.schema.ensures.value ∙ other))) failed;
  tables = λ v is schema clean failed.
      let now = (state g.S.Store c.args.conn.now).now in
      let found : c.found_in-found.result ≡ Store v = c.found_in-found.ensures ∙ ap found_in c.schema.ensures.value ∙ is in
      c.read_whole.ensures.reads.refused clean (λ w has. subst (λ x. IsSchemaOf x now.schema) (version_of v w (sym found ∙ has)) schema) failed;
}
