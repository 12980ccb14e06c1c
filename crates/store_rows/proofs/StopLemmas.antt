-- Why a statement that writes is refused.
use Rattle.std.proofs.Common.{◌≡◌, ◌⊎◌, inl, inr, ℕ, false, List, length, Option, Some, None, Result, Ok, Err, MatchBool, refl, sym, ap, subst, subst₂, ◌∙◌, append-nil, arith}
use Rattle.std.proofs.lemmas.Bool.{cases_Bool}
use Rattle.sqlite_value.specs.Order.{Row}
use Rattle.sqlite_trees.specs.declared.error.StoreError.{StoreError}
use Rattle.sqlite_trees.specs.declared.error.StoreError.TheVariants as store
use Rattle.sqlite_schema.specs.declared.schema.Schema.{Schema}
use Rattle.sqlite_schema.specs.declared.command.Command.{Command}
use Rattle.sqlite_schema.specs.declared.command.Command.TheVariants.{Begin, Commit, Rollback, Release, RollbackTo}
use Rattle.sqlite_resolve.specs.declared.compiled.Compiled.{Compiled}
use Rattle.sqlite_resolve.specs.declared.error.CompileError.{CompileError}
use Rattle.sqlite.specs.declared.error.Error.{Error}
use Rattle.sqlite.specs.declared.error.Error.TheVariants.{SqliteFailure}
use Rattle.sqlite.specs.declared.error.ErrorCode.TheVariants.{OutOfMemory}
use Rattle.sqlite.specs.Calls.{IsWrite}
use Rattle.sqlite.specs.Clock.{timed}
use Rattle.sqlite.specs.Does.{Does}
use Rattle.sqlite.specs.Effect.{is_query}
use Rattle.sqlite.specs.Listing.{understood}
use Rattle.sqlite.specs.State.{State, ExecutesInside, ExecutesIn, EndsScope, Escapes, IsStatement, IsNoStatement, IsNotRun, IsMisplaced, RunsAlone, RunsCommand, Fails, HasCause, store_error, shows_rows, is_pragma, text_of, mode_of}
use Rattle.sqlite.proofs.Callers.{IsPlain, command_of, statement_of}
use Rattle.store_rows.specs.Refusals.{HasRefused, HasLackedMemory}

-- a call that failed was refused, or the database had no memory for it, or a row was too big
fails_so : (old new : State) (too_big : Type 0) (e : Error) → Fails old new too_big e → HasRefused old new ⊎ (((e ≡ SqliteFailure OutOfMemory) × HasLackedMemory old new) ⊎ too_big)
fails_so old new too_big e h = by h.0 h.1 h.2
  where
    by : (cause : StoreError) → e ≡ store_error cause → HasCause old new too_big cause → HasRefused old new ⊎ (((e ≡ SqliteFailure OutOfMemory) × HasLackedMemory old new) ⊎ too_big)
    by store.OutOfMemory is why = inr (inl (is, (store.OutOfMemory, refl, tt, h.3, λ kind b d. absurd (cc))))
    by store.Io is why = inl (inl why)
    by store.Corrupt is why = inl (inl why)
    by store.Full is why = inl (inl why)
    by store.Broken is why = inl (inr (inl why))
    by store.Unstorable is why = inr (inr why)

module _ (text : List ℕ) (params : Row) (old : State) where
  -- what the statement does, but for want of memory and the device, to be stopped
  abbrev IsOddRun : Compiled → Row → Error → Type 0
  IsOddRun c given e =
      MatchBool (shows_rows false c) (Unit {0})
      (IsMisplaced old c.command e ⊎ ((stop : Option Error) × Does None (mode_of old) given old.now (text_of text c) c.returning c.command (Err stop)))

  -- neither the device nor want of memory stopped it
  unfoldable pub IsOdd : Error → Type 0
  IsOdd e = IsNoStatement old text params e ⊎ (EndsScope 0 text params old ⊎ ((c : Compiled) × (it : IsStatement old text params c) × IsOddRun c (timed params c.formats it.now) e))

module _ (text : List ℕ) (params : Row) (old new : State) where
  -- where no limit is set on steps, or else the call may be refused
  stops_by : (e : Error) → (l : Option ℕ) → old.step_limit ≡ l → (c : Compiled) (it : IsStatement old text params c) → RunsAlone false old new text c (timed params c.formats it.now) (Err e)
      → HasRefused old new ⊎ (((e ≡ SqliteFailure OutOfMemory) × HasLackedMemory old new) ⊎ IsOddRun text params old c (timed params c.formats it.now) e)
  stops_by e (Some n) is c it ran = inl (inr (inr (rw is refl)))
  stops_by e None is c it ran = elim (cases_Bool (shows_rows false c)) [
    | inl shows ↦ inr (inr (rw shows tt))
    | inr runs ↦ by runs (rw runs at ran)
  ]
    where
      given : Row
      given = timed params c.formats it.now

      by : shows_rows false c ≡ false → RunsCommand old new text c given (Err e) → HasRefused old new ⊎ (((e ≡ SqliteFailure OutOfMemory) × HasLackedMemory old new) ⊎ IsOddRun text params old c given e)
      by runs (inl (inl misplaced, same)) = inr (inr (rw runs (inl misplaced)))
      by runs (inl (inr refused, same)) = inr (inr (rw runs (inr (Some e, subst (λ (l : Option ℕ). Does l (mode_of old) given old.now (text_of text c) c.returning c.command (Err (Some e))) is refused.1))))
      by runs (inr failed) = elim (fails_so old new (Does old.step_limit (mode_of old) given old.now (text_of text c) c.returning c.command (Err None)) e failed) [
        | inl why ↦ inl why
        | inr (inl lacked) ↦ inr (inl lacked)
        | inr (inr big) ↦ inr (inr (rw runs (inr (None, subst (λ (l : Option ℕ). Does l (mode_of old) given old.now (text_of text c) c.returning c.command (Err None)) is big))))
      ]

  pub stopped : (e : Error) → ExecutesInside 0 text params old new (Err e) → HasRefused old new ⊎ (((e ≡ SqliteFailure OutOfMemory) × HasLackedMemory old new) ⊎ IsOdd text params old e)
  unfolding ExecutesIn IsNotRun IsOdd
  stopped e (inr h) = inr (inr (inr (inl h.0)))
  stopped e (inl (inl (inl none), undone)) = inr (inr (inl none.0))
  stopped e (inl (inl (inr failed), undone)) = elim (fails_so old new ⊥ e failed) [
    | inl why ↦ inl why
    | inr (inl lacked) ↦ inr (inl lacked)
    | inr (inr big) ↦ absurd big
  ]
  stopped e (inl (inr (c, it, ran), undone)) = elim (stops_by e old.step_limit refl c it ran) [
    | inl why ↦ inl why
    | inr (inl lacked) ↦ inr (inl lacked)
    | inr (inr odd) ↦ inr (inr (inr (inr (c, it, odd))))
  ]

-- a text is one statement, which has as many parameters as are given
abbrev pub IsFull : List ℕ → Row → Result Compiled CompileError → Type 0
IsFull sql params (Ok c) = (c.tail ≡ length sql) × (length params ≡ length c.names)
IsFull sql params (Err e) = ⊥

module _ (text : List ℕ) (params : Row) (old : State) (schema : Schema) (has : old.now.schema ≡ schema) (command : Command) (is : command_of (understood schema text) ≡ command)
    (plain : IsPlain (understood schema text)) (full : IsFull text params (understood schema text)) (write : IsWrite command) (quiet : (is_query command ≡ false) × (is_pragma command ≡ false)) where
  known : (P : Result Compiled CompileError → Type 0) → P (understood schema text) → P (understood old.now.schema text)
  known P h = subst (λ (s : Schema). P (understood s text)) (sym has) h

  at : (c : Compiled) → IsStatement old text params c → understood schema text ≡ Ok c
  at c it = ap (λ (s : Schema). understood s text) (sym has) ∙ it.is

  command_at : (c : Compiled) → IsStatement old text params c → c.command ≡ command
  command_at c it = sym (ap command_of (at c it)) ∙ is

  no_statement : (e : Error) → IsNoStatement old text params e → ⊥
  no_statement e (inl (fault, bad, same)) = subst (IsFull text params) bad (known (IsFull text params) full)
  no_statement e (inr (c, ok, inl (some, same))) = some (let k = (subst (IsFull text params) ok (known (IsFull text params) full)).0 in omega (arith, k))
  no_statement e (inr (c, ok, inr (inl (other, same)))) = other (subst (IsFull text params) ok (known (IsFull text params) full)).1
  no_statement e (inr (c, ok, inr (inr (timely, same)))) = timely (subst IsPlain ok (known IsPlain plain)).1

  never : (k : Command) → command ≡ k → (IsWrite k → ⊥) → ⊥
  never k same not_write = not_write (subst IsWrite same write)

  escapes : (c : Compiled) → c.command ≡ command → Escapes 0 old c.command → ⊥
  escapes c same (inl (inl commit)) = never Commit (sym same ∙ commit) (λ h. h)
  escapes c same (inl (inr back)) = never Rollback (sym same ∙ back) (λ h. h)
  escapes c same (inr (name, inl release, held)) = never (Release name) (sym same ∙ release) (λ h. h)
  escapes c same (inr (name, inr back, held)) = never (RollbackTo name) (sym same ∙ back) (λ h. h)

  misplaced : (c : Compiled) (e : Error) → c.command ≡ command → IsMisplaced old c.command e → ⊥
  misplaced c e same (inl (wrong, inl (begin, inside))) = never Begin (sym same ∙ begin) (λ h. h)
  misplaced c e same (inl (wrong, inr (inl commit, outside))) = never Commit (sym same ∙ commit) (λ h. h)
  misplaced c e same (inl (wrong, inr (inr back, outside))) = never Rollback (sym same ∙ back) (λ h. h)
  misplaced c e same (inr (wrong, name, inl release, none)) = never (Release name) (sym same ∙ release) (λ h. h)
  misplaced c e same (inr (wrong, name, inr back, none)) = never (RollbackTo name) (sym same ∙ back) (λ h. h)

  -- a statement that its command does not stop is stopped by nothing odd
  pub not_odd : (e : Error) → ((stop : Option Error) → Does None (mode_of old) params (record old.now { schema = schema }) (statement_of text (understood schema text)) None command (Err stop) → ⊥) → IsOdd text params old e → ⊥
  unfolding IsOdd EndsScope
  not_odd e does (inl none) = no_statement e none
  not_odd e does (inr (inl (c, it, out))) = escapes c (command_at c it) out
  not_odd e does (inr (inr (c, it, odd))) =
      let bare = subst IsPlain (at c it) plain in
      let shows : shows_rows false c ≡ false = rw (command_at c it, bare.0, quiet.0, quiet.1) refl in
      elim (rw shows at odd) [
        | inl wrong ↦ misplaced c e (command_at c it) wrong
        | inr stop ↦ does stop.0 (subst (λ (s : Schema). Does None (mode_of old) params (record old.now { schema = s }) (statement_of text (understood schema text)) None command (Err stop.0)) has
            (subst₂ (λ k t. Does None (mode_of old) params old.now t None k (Err stop.0)) (command_at c it) (ap (statement_of text) (sym (at c it))) (rw (bare.0, bare.1, append-nil params) at stop.1)))
      ]
