-- Calls inside a transaction, one after another: what each layer passes on whole.
use Rattle.std.proofs.Common.{◌≡◌, ℕ, ◌+◌, ◌≤◌, List, Result, Ok, Err, IsErrAnd, IsTrue, refl, sym, subst, ◌∙◌, arith}
use Rattle.sqlite_value.specs.Order.{Row}
use Rattle.sqlite_trees.specs.declared.store.Store.{Ghosts}
use Rattle.sqlite.specs.declared.error.Error.{Error}
use Rattle.sqlite.specs.declared.transaction.Transaction.{Transaction}
use Rattle.sqlite.specs.Effect.{Database}
use Rattle.sqlite.specs.Held.{state}
use Rattle.sqlite.specs.State.{State, HasCleanDisk, Survives, Executes, ExecutesInside}
use Rattle.sqlite.proofs.InsideLemmas.{inside_keeps}
use Rattle.store_schema.specs.declared.Version.TheVariants.{Second}
use Rattle.store_rows.specs.Holding.{Parts}
use Rattle.store_rows.specs.Steps.{Any, Brings, HasRun, IsStopped, Puts, Runs, RunsText, Uses}
use Rattle.store_rows.proofs.ChainLemmas.{brings_if, stops_after, stops_most, uses_if, uses_more, uses_most, uses_none}
use Rattle.store_rows.proofs.StepLemmas.{goes_more, kept_more, kept_same, survives_more, survives_same}

-- the error of a statement is passed on
pub text_failed : (sql : List ℕ) (params : Row) (a b : State) (e : Error) (r : Result (Unit {0}) Error) → IsErrAnd r (λ u. u ≡ e) → ExecutesInside 0 sql params a b (Err e) → HasRun sql params a r b
text_failed sql params a b e (Ok x) is ran = absurd is
text_failed sql params a b e (Err u) is ran = subst (λ (v : Error). ExecutesInside 0 sql params a b (Err v)) (sym is) ran

module _ {S : Type 0} {g : Ghosts S} where
  -- ---- one call

  pub text_runs : {a b : Transaction S} (r : Result (Unit {0}) Error) (E : Database → Database → Type 0) (sql : List ℕ) (params : Row) → RunsText g sql params a r b
      → ((count : ℕ) → Executes sql params (state g a.conn.now) (state g b.conn.now) (Ok count) → E (state g a.conn.now).now (state g b.conn.now).now) → Runs g (λ _. E) a r b
  text_runs {a = a} {b = b} (Ok done) E sql params ran effect = record {
    same_reference = ran.same_reference;
    goes = λ clean inside. let h = ran.runs clean inside in record { inside = h.1.1.mode; committed = h.1.1.committed_is; effect = effect h.0 h.1.0 };
    kept = λ clean inside. let h = ran.runs clean inside in inside_keeps (state g a.conn.now) (state g b.conn.now) 0 _ sql params (Ok h.0) h.1;
    survives = ran.survives;
  }
  text_runs {a = a} {b = b} (Err e) E sql params ran effect = record {
    same_reference = ran.same_reference;
    goes = λ clean inside. tt;
    kept = λ clean inside. inside_keeps (state g a.conn.now) (state g b.conn.now) 0 _ sql params (Err e) (ran.runs clean inside);
    survives = ran.survives;
  }

  pub text_puts : {a b : Transaction S} (r : Result (Unit {0}) Error) (n : ℕ) (Fits : Parts → Type 0) (E : Database → Database → Type 0) (sql : List ℕ) (params : Row) → RunsText g sql params a r b
      → ((count : ℕ) → Executes sql params (state g a.conn.now) (state g b.conn.now) (Ok count) → E (state g a.conn.now).now (state g b.conn.now).now)
      → ((count : ℕ) → Executes sql params (state g a.conn.now) (state g b.conn.now) (Ok count) → Uses n Any (state g a.conn.now).now (state g b.conn.now).now)
      → ((e : Error) → ExecutesInside 0 sql params (state g a.conn.now) (state g b.conn.now) (Err e) → IsStopped n Fits (state g a.conn.now) (state g b.conn.now) e) → Puts g n Fits (λ _. E) a r b
  text_puts (Ok done) n Fits E sql params ran effect uses stops = record {
    runs = text_runs (Ok done) E sql params ran effect;
    uses = λ clean inside. let h = ran.runs clean inside in uses h.0 h.1.0;
    refused = λ clean inside e is. cc;
  }
  text_puts {a = a} {b = b} (Err u) n Fits E sql params ran effect uses stops = record {
    runs = text_runs (Err u) E sql params ran effect;
    uses = λ clean inside. tt;
    refused = λ clean inside e is. let same : u ≡ e = cc in subst (IsStopped n Fits (state g a.conn.now) (state g b.conn.now)) same (stops u (ran.runs clean inside));
  }

  -- a statement that tells how many rows it changed
  pub count_puts : {a b : Transaction S} (r : Result ℕ Error) (n : ℕ) (Fits : Parts → Type 0) (E : ℕ → Database → Database → Type 0) (sql : List ℕ) (params : Row) → b.conn.ghost_name ≡ a.conn.ghost_name
      → (HasCleanDisk (state g b.conn.now) → IsTrue a.conn.now.in_transaction → ExecutesInside 0 sql params (state g a.conn.now) (state g b.conn.now) r) → Survives (state g a.conn.now) (state g b.conn.now) (λ _. ⊥)
      → ((count : ℕ) → Executes sql params (state g a.conn.now) (state g b.conn.now) (Ok count) → E count (state g a.conn.now).now (state g b.conn.now).now)
      → ((count : ℕ) → Executes sql params (state g a.conn.now) (state g b.conn.now) (Ok count) → Uses n Any (state g a.conn.now).now (state g b.conn.now).now)
      → ((e : Error) → ExecutesInside 0 sql params (state g a.conn.now) (state g b.conn.now) (Err e) → IsStopped n Fits (state g a.conn.now) (state g b.conn.now) e) → Puts g n Fits E a r b
  count_puts {a = a} {b = b} (Ok count) n Fits E sql params same ran survives effect uses stops = record {
    runs = record {
      same_reference = same;
      goes = λ clean inside. let h = ran clean inside in record { inside = h.1.mode; committed = h.1.committed_is; effect = effect count h.0 };
      kept = λ clean inside. inside_keeps (state g a.conn.now) (state g b.conn.now) 0 _ sql params (Ok count) (ran clean inside);
      survives = survives;
    };
    uses = λ clean inside. uses count (ran clean inside).0;
    refused = λ clean inside e is. cc;
  }
  count_puts {a = a} {b = b} (Err u) n Fits E sql params same ran survives effect uses stops = record {
    runs = record {
      same_reference = same;
      goes = λ clean inside. tt;
      kept = λ clean inside. inside_keeps (state g a.conn.now) (state g b.conn.now) 0 _ sql params (Err u) (ran clean inside);
      survives = survives;
    };
    uses = λ clean inside. tt;
    refused = λ clean inside e is. let same : u ≡ e = cc in subst (IsStopped n Fits (state g a.conn.now) (state g b.conn.now)) same (stops u (ran clean inside));
  }

  -- ---- no call

  pub runs_none : {A : Type 0} {E : A → Database → Database → Type 0} {a : Transaction S} {x : A} → E x (state g a.conn.now).now (state g a.conn.now).now → Runs g E a (Ok x) a
  runs_none {a = a} effect = record {
    same_reference = refl;
    goes = λ clean inside. record { inside = inside; committed = refl; effect = effect };
    kept = λ clean inside. kept_same (state g a.conn.now);
    survives = survives_same (state g a.conn.now);
  }

  pub puts_none : {A : Type 0} {n : ℕ} {Fits : Parts → Type 0} {E : A → Database → Database → Type 0} {a : Transaction S} {x : A} → E x (state g a.conn.now).now (state g a.conn.now).now → Puts g n Fits E a (Ok x) a
  puts_none {n = n} {a = a} effect = record {
    runs = runs_none effect;
    uses = λ clean inside. let now = (state g a.conn.now).now in uses_most 0 n Any now now (omega arith) (uses_none now Any);
    refused = λ clean inside e is. cc;
  }

  -- ---- one call after another

  pub runs_then : {A B : Type 0} {E : A → Database → Database → Type 0} {F G : B → Database → Database → Type 0} {x : A} {a b c : Transaction S} (r : Result B Error) → Runs g E a (Ok x) b → Runs g F b r c
      → ((y : B) → E x (state g a.conn.now).now (state g b.conn.now).now → F y (state g b.conn.now).now (state g c.conn.now).now → G y (state g a.conn.now).now (state g c.conn.now).now) → Runs g G a r c
  runs_then {E = E} {F = F} {G = G} {x = x} {a = a} {b = b} {c = c} (Ok y) one two join =
      let early = λ (clean : HasCleanDisk (state g c.conn.now)). let h : HasCleanDisk (state g b.conn.now) = omega (arith, two.survives.clean) in h in
      record {
        same_reference = two.same_reference ∙ one.same_reference;
        goes = λ clean inside. let first = one.goes (early clean) inside in
            goes_more (state g a.conn.now) (state g b.conn.now) (state g c.conn.now) (E x) (F y) (G y) (join y) first (two.goes clean first.inside);
        kept = λ clean inside. kept_more (state g a.conn.now) (state g b.conn.now) (state g c.conn.now) (one.kept (early clean) inside) (two.kept clean (one.goes (early clean) inside).inside);
        survives = survives_more (state g a.conn.now) (state g b.conn.now) (state g c.conn.now) one.survives two.survives;
      }
  runs_then {a = a} {b = b} {c = c} (Err e) one two join =
      let early = λ (clean : HasCleanDisk (state g c.conn.now)). let h : HasCleanDisk (state g b.conn.now) = omega (arith, two.survives.clean) in h in
      record {
        same_reference = two.same_reference ∙ one.same_reference;
        goes = λ clean inside. tt;
        kept = λ clean inside. kept_more (state g a.conn.now) (state g b.conn.now) (state g c.conn.now) (one.kept (early clean) inside) (two.kept clean (one.goes (early clean) inside).inside);
        survives = survives_more (state g a.conn.now) (state g b.conn.now) (state g c.conn.now) one.survives two.survives;
      }

  -- the second call fails
  pub runs_stopped : {A B : Type 0} {E : A → Database → Database → Type 0} {F : B → Database → Database → Type 0} {x : A} {e : Error} {a b c : Transaction S} → Runs g E a (Ok x) b → Runs g F b (Err e) c → Runs g (λ (_ : B) _ _. Unit {0}) a (Err e) c
  runs_stopped {e = e} one two = runs_then (Err e) one two (λ _ _ _. tt)

  pub puts_then : {A B : Type 0} {First Fits Next : Parts → Type 0} {E : A → Database → Database → Type 0} {F G : B → Database → Database → Type 0} {x : A} {a b c : Transaction S} (r : Result B Error) (n m : ℕ) (f : Parts → Parts)
      → ((p : Parts) → p.tables ≡ Second → (f p).tables ≡ Second) → ((p : Parts) → Fits p → Next (f p)) → (E x (state g a.conn.now).now (state g b.conn.now).now → Brings Any f (state g a.conn.now).now (state g b.conn.now).now)
      → Puts g n First E a (Ok x) b → Puts g m Next F b r c
      → ((y : B) → E x (state g a.conn.now).now (state g b.conn.now).now → F y (state g b.conn.now).now (state g c.conn.now).now → G y (state g a.conn.now).now (state g c.conn.now).now) → Puts g (n + m) Fits G a r c
  puts_then {a = a} {b = b} {c = c} (Ok y) n m f still go brings one two join =
      let early = λ (clean : HasCleanDisk (state g c.conn.now)). let h : HasCleanDisk (state g b.conn.now) = omega (arith, two.runs.survives.clean) in h in
      record {
        runs = runs_then (Ok y) one.runs two.runs join;
        uses = λ clean inside. let first = one.runs.goes (early clean) inside in
            uses_more n m Any Any f (state g a.conn.now).now (state g b.conn.now).now (state g c.conn.now).now still (λ p fits. fits) (brings first.effect) (one.uses (early clean) inside) (two.uses clean first.inside);
        refused = λ clean inside e is. cc;
      }
  puts_then {Fits = Fits} {Next = Next} {a = a} {b = b} {c = c} (Err u) n m f still go brings one two join =
      let early = λ (clean : HasCleanDisk (state g c.conn.now)). let h : HasCleanDisk (state g b.conn.now) = omega (arith, two.runs.survives.clean) in h in
      record {
        runs = runs_then (Err u) one.runs two.runs join;
        uses = λ clean inside. tt;
        refused = λ clean inside e is. let first = one.runs.goes (early clean) inside in
            stops_after n m Fits Next f (state g a.conn.now) (state g b.conn.now) (state g c.conn.now) e still go one.runs.survives (early clean) two.runs.survives.counts
            (brings_if Fits f (state g a.conn.now).now (state g b.conn.now).now (brings first.effect)) (uses_if n Fits (state g a.conn.now).now (state g b.conn.now).now (one.uses (early clean) inside))
            (two.refused clean first.inside e is);
      }

  -- ---- the same answered otherwise

  -- an error is passed on
  pub runs_failed : {A B : Type 0} {E : A → Database → Database → Type 0} {F : B → Database → Database → Type 0} {a b : Transaction S} {e : Error} (r : Result B Error) → IsErrAnd r (λ u. u ≡ e) → Runs g E a (Err e) b → Runs g F a r b
  runs_failed (Ok y) is one = absurd is
  runs_failed (Err u) is one = record { same_reference = one.same_reference; goes = λ clean inside. tt; kept = one.kept; survives = one.survives }

  -- what was changed means something else
  pub runs_as : {A : Type 0} {E F : A → Database → Database → Type 0} {a b : Transaction S} (r : Result A Error) → ((x : A) → E x (state g a.conn.now).now (state g b.conn.now).now → F x (state g a.conn.now).now (state g b.conn.now).now) → Runs g E a r b → Runs g F a r b
  runs_as (Ok x) means one = record {
    same_reference = one.same_reference;
    goes = λ clean inside. let h = one.goes clean inside in record { inside = h.inside; committed = h.committed; effect = means x h.effect };
    kept = one.kept;
    survives = one.survives;
  }
  runs_as (Err e) means one = record { same_reference = one.same_reference; goes = λ clean inside. tt; kept = one.kept; survives = one.survives }

  pub puts_failed : {A B : Type 0} {Fits Less : Parts → Type 0} {E : A → Database → Database → Type 0} {F : B → Database → Database → Type 0} {a b : Transaction S} {e : Error} (r : Result B Error) (n m : ℕ) → n ≤ m → ((p : Parts) → Less p → Fits p)
      → IsErrAnd r (λ u. u ≡ e) → Puts g n Fits E a (Err e) b → Puts g m Less F a r b
  puts_failed (Ok y) n m few go is one = absurd is
  puts_failed {A = A} {Fits = Fits} {Less = Less} {a = a} {b = b} {e = e} (Err u) n m few go is one = record {
    runs = runs_failed (Err u) is one.runs;
    uses = λ clean inside. tt;
    refused = λ clean inside v same. let passed : ◌≡◌ {A = Result A Error} (Err e) (Err v) = cc in
        stops_most n m Fits Less (state g a.conn.now) (state g b.conn.now) v few go (one.refused clean inside v passed);
  }

  -- another value is told
  pub puts_told : {A B : Type 0} {Fits Less : Parts → Type 0} {E : A → Database → Database → Type 0} {F : B → Database → Database → Type 0} {x : A} {y : B} {a b : Transaction S} (n m : ℕ) → n ≤ m
      → (E x (state g a.conn.now).now (state g b.conn.now).now → F y (state g a.conn.now).now (state g b.conn.now).now) → Puts g n Fits E a (Ok x) b → Puts g m Less F a (Ok y) b
  puts_told {a = a} {b = b} n m few means one = record {
    runs = record {
      same_reference = one.runs.same_reference;
      goes = λ clean inside. let h = one.runs.goes clean inside in record { inside = h.inside; committed = h.committed; effect = means h.effect };
      kept = one.runs.kept;
      survives = one.runs.survives;
    };
    uses = λ clean inside. uses_most n m Any (state g a.conn.now).now (state g b.conn.now).now few (one.uses clean inside);
    refused = λ clean inside e is. cc;
  }

  -- fewer rowids are taken than may be, and less is asked of what fits
  pub puts_most : {A : Type 0} {Fits Less : Parts → Type 0} {E F : A → Database → Database → Type 0} {a b : Transaction S} (r : Result A Error) (n m : ℕ) → n ≤ m → ((p : Parts) → Less p → Fits p)
      → ((x : A) → E x (state g a.conn.now).now (state g b.conn.now).now → F x (state g a.conn.now).now (state g b.conn.now).now) → Puts g n Fits E a r b → Puts g m Less F a r b
  puts_most (Ok x) n m few go means one = puts_told n m few (means x) one
  puts_most (Err e) n m few go means one = puts_failed (Err e) n m few go refl one
