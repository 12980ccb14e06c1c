-- A look inside one transaction, from what its calls read.
use Rattle.std.proofs.Common.{◌≡◌, ◌≢◌, ◌↔◌, Bool, true, IsTrue, Option, Some, None, Result, Ok, Err, IfOk, IsErrAnd, refl, sym, ap, subst, ◌∙◌, arith}
use Rattle.sqlite_trees.specs.declared.store.Store.{Ghosts}
use Rattle.sqlite.specs.declared.error.Error.{Error}
use Rattle.sqlite.specs.declared.error.Error.TheVariants.{SqliteFailure}
use Rattle.sqlite.specs.declared.error.ErrorCode.TheVariants.{OutOfMemory}
use Rattle.sqlite.specs.declared.transaction.Transaction.{Transaction}
use Rattle.sqlite.specs.Effect.{Database}
use Rattle.sqlite.specs.Held.{Held, state}
use Rattle.sqlite.specs.State.{State, HasCleanDisk, IsUnchanged, Survives}
use Rattle.sqlite.proofs.Callers.{survives_begin}
use Rattle.store_schema.specs.Tables.{IsSchemaOf}
use Rattle.store_schema.specs.declared.Version.{Version}
use Rattle.store_schema.specs.declared.Found.{Found}
use Rattle.store_schema.specs.declared.Found.TheVariants.{Blank, Store, Other}
use Rattle.store_rows.specs.Refusals.{HasRefused}
use Rattle.store_rows.specs.Rows.{Stored}
use Rattle.store_rows.specs.Holding.{IsStoreOf}
use Rattle.store_rows.proofs.StepLemmas.{on_ok, survives_more}
use Rattle.store_tables.specs.Marking.{ReadsOutdated, TellsOutdated}
use Rattle.store_tables.specs.Reads.{IsInRange, ReadsFound}
use Rattle.store_tables.specs.declared.reads.Unread.{Unread}
use Rattle.store_tables.specs.declared.reads.Unread.TheVariants.{Bad, Memory, Failed}
use Rattle.store_tables.proofs.RefusalLemmas.{all_on_ok, not_memory, refused_since, refused_until, same_error, version_of}

-- ---- what was found in the schema

pub found_refused : (r : Result (Option Stored) Unread) (e : Error) (found : Found) (a b : State) → IsErrAnd r (λ u. (u ≡ Memory ↔ (e ≡ SqliteFailure OutOfMemory)) × (u ≢ Bad)) → (HasCleanDisk b → e ≢ SqliteFailure OutOfMemory → HasRefused a b)
    → Survives a b (λ _. ⊥) → ReadsFound found a r b
found_refused (Ok x) e found a b is refused survives = absurd is
found_refused (Err u) e found a b is refused survives = record {
  opened = λ clean. tt;
  judged = λ clean bad. absurd (is.1 (same_error bad));
  read = λ clean it has holds. tt;
  own = λ clean it has holds fits bad. is.1 (same_error bad);
  blank = λ none. (tt, λ bad. is.1 (same_error bad));
  cause = λ e. absurd (cc);
  refused = λ clean has failed. refused clean (not_memory u e is.0 (same_error failed));
  survives = survives;
}

pub found_blank : (found : Found) (a b : State) → found ≡ Blank → (HasCleanDisk b → IsTrue a.is_open) → Survives a b (λ _. ⊥) → ReadsFound found a (Ok None) b
found_blank found a b is opened survives = record {
  opened = opened;
  judged = λ clean bad. absurd (cc);
  read = λ clean it has holds. absurd (let clash : Blank ≡ Store it.version = sym is ∙ has in cc);
  own = λ clean it has holds fits bad. absurd (cc);
  blank = λ none. (refl, λ bad. cc);
  cause = λ e. is;
  refused = λ clean has failed. absurd (cc);
  survives = survives;
}

pub found_other : (found : Found) (a b : State) → found ≡ Other → (HasCleanDisk b → IsTrue a.is_open) → Survives a b (λ _. ⊥) → ReadsFound found a (Err Bad) b
found_other found a b is opened survives = record {
  opened = λ clean. tt;
  judged = λ clean bad. opened clean;
  read = λ clean it has holds. tt;
  own = λ clean it has holds fits bad. let clash : Other ≡ Store it.version = sym is ∙ has in cc;
  blank = λ none. absurd (let clash : Other ≡ Blank = sym is ∙ none in cc);
  cause = λ e. absurd (cc);
  refused = λ clean has failed. absurd (let clash : Bad ≡ Failed = same_error failed in cc);
  survives = survives;
}

-- a content that was read
abbrev pub read_as : Result Stored Unread → Result (Option Stored) Unread
read_as (Ok it) = Ok (Some it)
read_as (Err u) = Err u

pub found_store : (r : Result Stored Unread) (found : Found) (v : Version) (a b c : State) → found ≡ Store v → (HasCleanDisk b → IsUnchanged a b) → Survives a b (λ _. ⊥)
    → (HasCleanDisk c → (it : Stored) → it.version ≡ v → IsStoreOf b.now it → IfOk r (λ x. x ≡ it)) → (HasCleanDisk c → (it : Stored) → it.version ≡ v → IsStoreOf b.now it → IsInRange it → r ≢ Err Bad)
    → (HasCleanDisk c → IsSchemaOf v b.now.schema → r ≡ Err Failed → HasRefused b c) → Survives b c (λ _. ⊥) → ReadsFound found a (read_as r) c
found_store (Ok x) found v a b c is same first read own refused next =
    let early = λ (clean : HasCleanDisk c). let h : HasCleanDisk b = omega (arith, next.clean, clean) in h in
    record {
      opened = λ clean. (same (early clean)).0.was_open;
      judged = λ clean bad. absurd (cc);
      read = λ clean it has holds. ap Some (read clean it (version_of it.version v (sym has ∙ is)) (subst (λ (d : Database). IsStoreOf d it) (sym (same (early clean)).0.now_is) holds));
      own = λ clean it has holds fits bad. absurd (cc);
      blank = λ none. absurd (let clash : Store v ≡ Blank = sym is ∙ none in cc);
      cause = λ e. absurd (cc);
      refused = λ clean has failed. absurd (cc);
      survives = survives_more a b c first next;
    }
found_store (Err u) found v a b c is same first read own refused next =
    let early = λ (clean : HasCleanDisk c). let h : HasCleanDisk b = omega (arith, next.clean, clean) in h in
    record {
      opened = λ clean. tt;
      judged = λ clean bad. (same (early clean)).0.was_open;
      read = λ clean it has holds. tt;
      own = λ clean it has holds fits bad. own clean it (version_of it.version v (sym has ∙ is)) (subst (λ (d : Database). IsStoreOf d it) (sym (same (early clean)).0.now_is) holds) fits (ap Err (same_error bad));
      blank = λ none. absurd (let clash : Store v ≡ Blank = sym is ∙ none in cc);
      cause = λ e. absurd (cc);
      refused = λ clean has failed.
          let schema = subst (λ (d : Database). IsSchemaOf v d.schema) (sym (same (early clean)).0.now_is) (has v is) in
          refused_since a b c first (early clean) next.counts (refused clean schema (ap Err (same_error failed)));
      survives = survives_more a b c first next;
    }

-- an error is passed on
pub found_passed : {e : Unread} {found : Found} {a b : State} (r : Result (Option Stored) Unread) → IsErrAnd r (λ u. u ≡ e) → ReadsFound found a (Err e) b → ReadsFound found a r b
found_passed (Ok x) is one = absurd is
found_passed {found = found} {a = a} {b = b} (Err u) is one = subst (λ (v : Unread). ReadsFound found a (Err v) b) (sym is) one

pub outdated_passed : {e : Unread} {a b : State} (r : Result Bool Unread) → IsErrAnd r (λ u. u ≡ e) → ReadsOutdated a (Err e) b → ReadsOutdated a r b
outdated_passed (Ok x) is one = absurd is
outdated_passed {a = a} {b = b} (Err u) is one = subst (λ (v : Unread). ReadsOutdated a (Err v) b) (sym is) one

-- ---- the name of the mark

pub outdated_refused : (r : Result Bool Unread) (e : Error) (a b : State) → IsErrAnd r (λ u. (u ≡ Memory ↔ (e ≡ SqliteFailure OutOfMemory)) × (u ≢ Bad)) → (HasCleanDisk b → e ≢ SqliteFailure OutOfMemory → HasRefused a b) → Survives a b (λ _. ⊥)
    → ReadsOutdated a r b
outdated_refused (Ok x) e a b is refused survives = absurd is
outdated_refused (Err u) e a b is refused survives = record {
  opened = λ clean. tt;
  told = λ clean v has. tt;
  kind = λ bad. is.1 (same_error bad);
  refused = λ clean v has failed. refused clean (not_memory u e is.0 (same_error failed));
  survives = survives;
}

-- the rows of meta were read where the connection is open
pub outdated_then : (r : Result Bool Unread) (a b c : State) → (HasCleanDisk b → IsUnchanged a b) → Survives a b (λ _. ⊥) → Survives b c (λ _. ⊥) → (HasCleanDisk c → (v : Version) → IsSchemaOf v b.now.schema → IfOk r (λ found. TellsOutdated found b.now.trees))
    → r ≢ Err Bad → (HasCleanDisk c → (v : Version) → IsSchemaOf v b.now.schema → r ≡ Err Failed → HasRefused b c) → ReadsOutdated a r c
outdated_then r a b c same first next told kind refused =
    let early = λ (clean : HasCleanDisk c). let h : HasCleanDisk b = omega (arith, next.clean, clean) in h in
    let schema = λ (clean : HasCleanDisk c) (v : Version) (has : IsSchemaOf v a.now.schema). subst (λ (d : Database). IsSchemaOf v d.schema) (sym (same (early clean)).0.now_is) has in
    record {
      opened = λ clean. on_ok r (λ _. (same (early clean)).0.was_open) (all_on_ok r (tt {0}));
      told = λ clean v has. subst (λ (d : Database). IfOk r (λ found. TellsOutdated found d.trees)) (same (early clean)).0.now_is (told clean v (schema clean v has));
      kind = kind;
      refused = λ clean v has failed. refused_since a b c first (early clean) next.counts (refused clean v (schema clean v has) failed);
      survives = survives_more a b c first next;
    }

-- ---- the transaction is rolled back

module _ {S : Type 0} (g : Ghosts S) (old end : Held S) (tx mid : Transaction S) (begins : tx.conn.now ≡ record old { in_transaction = true }) (drops : Survives (state g mid.conn.now) (state g end) (λ _. ⊥)) where
  early : HasCleanDisk (state g end) → HasCleanDisk (state g mid.conn.now)
  early clean = omega (arith, drops.clean, clean)

  whole : Survives (state g (record old { in_transaction = true })) (state g mid.conn.now) (λ _. ⊥) → Survives (state g old) (state g end) (λ _. ⊥)
  whole one = survives_more (state g old) (state g mid.conn.now) (state g end) (survives_begin g old (state g mid.conn.now) (λ _. ⊥) one) drops

  pub found_whole : (r : Result (Option Stored) Unread) (found : Found) → ReadsFound found (state g tx.conn.now) r (state g mid.conn.now) → ReadsFound found (state g old) r (state g end)
  found_whole r found inside =
      let one = rw begins at inside in
      record {
        opened = λ clean. one.opened (early clean);
        judged = λ clean bad. one.judged (early clean) bad;
        read = λ clean it has holds. one.read (early clean) it has holds;
        own = λ clean it has holds fits. one.own (early clean) it has holds fits;
        blank = one.blank;
        cause = one.cause;
        refused = λ clean has failed. refused_until (state g old) (state g mid.conn.now) (state g end) (one.refused (early clean) has failed) drops.counts;
        survives = whole one.survives;
      }

  pub outdated_whole : (r : Result Bool Unread) → ReadsOutdated (state g tx.conn.now) r (state g mid.conn.now) → ReadsOutdated (state g old) r (state g end)
  outdated_whole r inside =
      let one = rw begins at inside in
      record {
        opened = λ clean. one.opened (early clean);
        told = λ clean v has. one.told (early clean) v has;
        kind = one.kind;
        refused = λ clean v has failed. refused_until (state g old) (state g mid.conn.now) (state g end) (one.refused (early clean) v has failed) drops.counts;
        survives = whole one.survives;
      }
