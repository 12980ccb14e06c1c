-- Why a call that only reads is refused.
use Rattle.std.proofs.Common.{◌≡◌, ◌≢◌, ◌⊎◌, inl, inr, ℕ, Bool, true, false, List, [], length, Option, IsSome, Result, Ok, Err, OnOk, ◌↔◌, sym, ap, subst, subst₂, ◌∙◌, arith}
use Rattle.std.proofs.lemmas.Bool.{both_ways}
use Rattle.sqlite_rules.proofs.ListLemmas.{any_has}
use Rattle.sqlite_value.specs.Order.{Row}
use Rattle.sqlite_value.specs.declared.keys.Key.{Key}
use Rattle.sqlite_trees.specs.declared.error.StoreError.{StoreError}
use Rattle.sqlite_trees.specs.declared.error.StoreError.TheVariants as store
use Rattle.sqlite_sql.specs.Term.{Term}
use Rattle.sqlite_sql.specs.Program.{overlay}
use Rattle.std.specs.Coded.{Coded-set}
use Rattle.sqlite_schema.specs.declared.schema.Schema.{Schema}
use Rattle.sqlite_schema.specs.contracts.schema.Schema.{the_row}
use Rattle.store_schema.specs.declared.Version.{Version}
use Rattle.store_schema.specs.declared.Version.TheVariants.{First, Second}
use Rattle.store_schema.specs.Tables.{IsSchemaOf, behind, others_in, schema_3, schema_4}
use Rattle.store_schema.specs.declared.Found.TheVariants.{Blank, Store, Other}
use Rattle.sqlite_schema.specs.declared.command.Command.{Command}
use Rattle.sqlite_schema.specs.declared.command.Command.TheVariants.{Select}
use Rattle.sqlite_schema.specs.declared.command.Returning.{Returning}
use Rattle.sqlite_resolve.specs.declared.compiled.Compiled.{Compiled}
use Rattle.sqlite_resolve.specs.declared.error.CompileError.{CompileError}
use Rattle.sqlite_typing.specs.Types.{accepts_program}
use Rattle.sqlite.specs.declared.error.Error.{Error}
use Rattle.sqlite.specs.declared.error.Error.TheVariants.{MultipleStatement, SqliteFailure}
use Rattle.sqlite.specs.declared.error.ErrorCode.TheVariants.{OutOfMemory}
use Rattle.sqlite.specs.Effect.{Database, RefusesToRead}
use Rattle.sqlite.specs.State.{State, HasCleanDisk, IsUnchanged, Survives, IsNotRun, IsNoStatement, Fails, FailsToQuery, FailsToShow, IsTooLate, IsStatement, Shown}
use Rattle.sqlite.specs.Listing.{understood, reads_listing, IsSourceOf}
use Rattle.sqlite.specs.Clock.{timed}
use Rattle.sqlite.proofs.Callers.{IsPlain, command_of}
use Rattle.store_rows.proofs.ReadLemmas.{query_on, shown_same}
use Rattle.store_rows.proofs.SelectLemmas.{reads}
pub use Rattle.store_rows.proofs.ChainLemmas.{refused_until, refused_since}
use Rattle.store_rows.proofs.RefusalLemmas.{IsBare, IsWhole}
use Rattle.store_tables.specs.declared.reads.Unread.{Unread}
use Rattle.store_tables.specs.declared.reads.Unread.TheVariants.{Memory, Failed}
use Rattle.store_rows.specs.Refusals.{HasRefused, HasLackedMemory}

-- ---- one call

-- a call that failed was refused, or the database had no memory for it
pub fails_either : (old new : State) (e : Error) → Fails old new ⊥ e → HasRefused old new ⊎ ((e ≡ SqliteFailure OutOfMemory) × HasLackedMemory old new)
fails_either old new e h = by h.0 h.1 h.2
  where
    by : (cause : StoreError) → e ≡ Rattle.sqlite.specs.State.store_error cause → Rattle.sqlite.specs.State.HasCause old new ⊥ cause → HasRefused old new ⊎ ((e ≡ SqliteFailure OutOfMemory) × HasLackedMemory old new)
    by store.OutOfMemory is why = inr (is, subst (λ (x : Error). Fails old new ⊥ x) is h)
    by store.Io is why = inl (inl why)
    by store.Corrupt is why = inl (inl why)
    by store.Full is why = inl (inl why)
    by store.Broken is why = inl (inr (inl why))
    by store.Unstorable is why = absurd why

fails : (old new : State) (e : Error) → e ≢ SqliteFailure OutOfMemory → Fails old new ⊥ e → HasRefused old new
fails old new e other h = elim (fails_either old new e h) [
  | inl why ↦ why
  | inr lacked ↦ absurd (other lacked.0)
]

module _ (sql : List ℕ) (old new : State) (whole : IsWhole sql (understood old.now.schema sql)) (plain : IsPlain (understood old.now.schema sql)) where
  is_statement : (e : Error) → IsNoStatement old sql [] e → ⊥
  is_statement e (inl (fault, is, same)) = subst (IsWhole sql) is whole
  is_statement e (inr (c, is, inl (some, same))) = some (let k = (subst (IsWhole sql) is whole).0 in omega (arith, k))
  is_statement e (inr (c, is, inr (inl (other, same)))) = other (ap length (sym (subst (IsWhole sql) is whole).1))
  is_statement e (inr (c, is, inr (inr (timely, same)))) = timely (subst IsPlain is plain).1

  pub not_run_refused : (e : Error) → e ≢ SqliteFailure OutOfMemory → IsNotRun old new sql [] e → HasRefused old new
  unfolding IsNotRun
  not_run_refused e other (inl h) = absurd (is_statement e h.0)
  not_run_refused e other (inr h) = fails old new e other h

  pub on_time : (e : Error) → IsTooLate sql [] old new e → ⊥
  on_time e h = absurd (let some = subst (λ (r : Option Returning). IsSome r) (subst IsPlain h.1.is plain).0 h.2 in cc)

-- a text of two statements that is not run for that leaves all as it was
not_failed : (cause : StoreError) → MultipleStatement ≡ Rattle.sqlite.specs.State.store_error cause → ⊥
not_failed store.OutOfMemory is = absurd (cc)
not_failed store.Io is = absurd (cc)
not_failed store.Corrupt is = absurd (cc)
not_failed store.Full is = absurd (cc)
not_failed store.Broken is = absurd (cc)
not_failed store.Unstorable is = absurd (cc)

pub two_same : (sql : List ℕ) (old new : State) (params : Row) → IsNotRun old new sql params MultipleStatement → IsUnchanged old new
unfolding IsNotRun
two_same sql old new params (inl h) = h.1
two_same sql old new params (inr h) = absurd (not_failed h.0 h.1)

-- and for another reason only where the device refused it or the database had no memory
pub two_refused_either : (sql : List ℕ) (old new : State) → IsBare (understood old.now.schema sql) → IsPlain (understood old.now.schema sql) → (e : Error) → e ≢ MultipleStatement → IsNotRun old new sql [] e
    → HasRefused old new ⊎ ((e ≡ SqliteFailure OutOfMemory) × HasLackedMemory old new)
unfolding IsNotRun
two_refused_either sql old new bare plain e alone (inr h) = fails_either old new e h
two_refused_either sql old new bare plain e alone (inl (inl (fault, is, same), h)) = absurd (subst IsBare is bare)
two_refused_either sql old new bare plain e alone (inl (inr (c, is, inl (some, same)), h)) = absurd (alone same)
two_refused_either sql old new bare plain e alone (inl (inr (c, is, inr (inl (given, same))), h)) = absurd (given (ap length (sym (subst IsBare is bare))))
two_refused_either sql old new bare plain e alone (inl (inr (c, is, inr (inr (timely, same))), h)) = absurd (timely (subst IsPlain is plain).1)

pub two_refused : (sql : List ℕ) (old new : State) → IsBare (understood old.now.schema sql) → IsPlain (understood old.now.schema sql) → (e : Error) → e ≢ SqliteFailure OutOfMemory → e ≢ MultipleStatement
    → IsNotRun old new sql [] e → HasRefused old new
two_refused sql old new bare plain e other alone h = elim (two_refused_either sql old new bare plain e alone h) [
  | inl why ↦ why
  | inr lacked ↦ absurd (other lacked.0)
]

-- a query on one table, all of whose rows are shown
module _ (sql : List ℕ) (old new : State) (schema : Schema) (has : old.now.schema ≡ schema) (tree : ℕ) (project : List Term) (order : List (Term × Key)) (names : List (List ℕ))
    (it : reads tree project order names schema sql) (fits : IsWhole sql (understood schema sql) × (accepts_program schema [] (query_on tree [] project order) [] ≡ true)) where
  known : (P : Result Compiled CompileError → Type 0) → P (understood schema sql) → P (understood old.now.schema sql)
  known P h = subst (λ (s : Schema). P (understood s sql)) (sym has) h

  read_refused : (db : Database) (e : Error) → db.schema ≡ schema → RefusesToRead old.step_limit (Select (record { lets = []; body = query_on tree [] project order }) names) db [] e → HasRefused old new
  read_refused db e same (inl (mismatch, untyped)) = absurd (both_ways _ (subst (λ (s : Schema). accepts_program s [] (query_on tree [] project order) [] ≡ false) same untyped) fits.1)
  read_refused db e same (inr (inl (overflow, inl sum))) = absurd sum
  read_refused db e same (inr (inl (overflow, inr fold))) = absurd (any_has (λ _. ⊥) (overlay db.trees [] tree) fold).2
  read_refused db e same (inr (inr (interrupted, limit))) = inr (inr limit)

  pub query_refused : (e : Error) → e ≢ SqliteFailure OutOfMemory → FailsToQuery sql [] old new e ⊎ IsTooLate sql [] old new e → HasRefused old new
  unfolding FailsToQuery
  query_refused e other (inl (inl h)) = not_run_refused sql old new (known (IsWhole sql) fits.0) (known IsPlain it.1) e other h
  query_refused e other (inl (inr h)) =
      let same : understood schema sql ≡ Ok h.0 = ap (λ (s : Schema). understood s sql) (sym has) ∙ h.1.is in
      let bare = subst IsPlain same it.1 in
      let shows = subst (λ (r : Option Returning). FailsToShow old new sql h.0 (timed [] h.0.formats h.1.now) e r) bare.0 h.2 in
      let db : shows.0 ≡ old.now = subst (λ (b : Bool). IsSourceOf b old.now shows.0) (ap (λ (s : Schema). reads_listing s sql) has ∙ it.2) shows.1 in
      let command : h.0.command ≡ Select (record { lets = []; body = query_on tree [] project order }) names = sym (ap command_of same) ∙ it.0 in
      let given : timed [] h.0.formats h.1.now ≡ [] = ap (λ (f : List (List ℕ)). timed [] f h.1.now) bare.1 in
      read_refused shows.0 e (ap (λ (d : Database). d.schema) db ∙ has)
      (subst₂ (λ (k : Command) (params : Row). RefusesToRead old.step_limit k shows.0 params e) command given shows.2)
  query_refused e other (inr late) = absurd (on_time sql old new (known (IsWhole sql) fits.0) (known IsPlain it.1) e late)

  -- where it is shown, nothing changes
  pub query_same : (rows : List Row) → Shown sql [] old new rows → new.now ≡ old.now
  query_same rows shown = (shown_same sql [] old new rows (known IsPlain it.1) shown).0.now_is

-- ---- answers

-- a reading that failed met no want of memory
pub not_memory : (u : Unread) (e : Error) → (u ≡ Memory ↔ (e ≡ SqliteFailure OutOfMemory)) → u ≡ Failed → e ≢ SqliteFailure OutOfMemory
not_memory u e both is oom = absurd (let m : u ≡ Memory = both.1 oom in let clash : Memory ≡ Failed = sym m ∙ is in cc)

pub one_error : {A E : Type 0} (r : Result A E) (x y : E) → r ≡ Err x → r ≡ Err y → x ≡ y
one_error {A} {E} r x y first second = let both = subst (λ (q : Result A E). q ≡ Err y) first second in cc

pub same_error : {A E : Type 0} {x y : E} → ◌≡◌ {A = Result A E} (Err x) (Err y) → x ≡ y
same_error e = cc

pub all_on_ok : {A E Q : Type 0} (r : Result A E) → Q → OnOk r Q
all_on_ok (Ok x) h = h
all_on_ok (Err e) h = tt

-- ---- schemas and versions

pub schema_once : (a b : Schema) → IsProp (a ≡ b)
schema_once a b = Coded-set the_row.coded a b

pub version_of : (v w : Version) → Store v ≡ Store w → v ≡ w
version_of v w is = cc

pub not_blank : (v : Version) → Store v ≡ Blank → ⊥
not_blank v is = absurd (cc)

pub not_other : (v : Version) → Store v ≡ Other → ⊥
not_other v is = absurd (cc)

-- a schema is that of a version in one way
pub version_once : (v : Version) (schema : Schema) → IsProp (IsSchemaOf v schema)
version_once First schema = schema_once schema schema_3
version_once Second schema = schema_once schema (behind schema_4 (others_in schema))
