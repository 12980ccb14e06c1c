-- A store's move, step by step.
use Rattle.std.proofs.Common.{◌≡◌, ◌≢◌, ◌⊎◌, inl, inr, ℕ, List, Option, Some, None, Result, Ok, Err, refl, sym, subst, ap, ◌∙◌, arith}
use Rattle.std.specs.Prelude.{MatchResult}
use Rattle.sqlite_trees.specs.declared.store.Store.{Ghosts as Device}
use Rattle.sqlite.specs.Effect.{Database}
use Rattle.merge_core.specs.Layout.{LayoutState}
use Rattle.admission_core.specs.Kept.{DurableState}
use Rattle.durable_keeper.specs.declared.error.KeeperError.{KeeperError}
use Rattle.durable_keeper.specs.declared.error.KeeperError.TheVariants as keeping
use Rattle.store_rows.specs.Rows.{Stored}
use Rattle.store_rows.specs.Holding.{Holds, KeepsBeside, KeepsEither}
use Rattle.store_tables.specs.Transacts.{with_site}
use Rattle.store_tables.proofs.KeepLemmas.{leaves_first}
use Rattle.site_store.specs.declared.sql.SqlKeeper.{SqlKeeper}
use Rattle.site_store.specs.SiteText.{site_text}
use Rattle.site_store.specs.Sql.{KeepsContent, KeepsPart, below, faults_of, group_of, is_honest}
use Rattle.live_databases.specs.declared.service_end.ServiceEnd.{ServiceEnd}
use Rattle.live_databases.specs.LiveStores.{unloaded_end}
use Rattle.live_databases.specs.Moves.{BeginsNone, GivesBack, LoadsNone, Moves, MovesNot, TellsNone, TellsWhole, moved_content}

-- an answer by what is known of each kind
pub matched : {A E : Type 0} (P P2 : A → Type 0) (Q Q2 : E → Type 0) (r : Result A E) → ((x : A) → P x → P2 x) → ((e : E) → Q e → Q2 e) → MatchResult r P Q → MatchResult r P2 Q2
matched P P2 Q Q2 (Ok x) well ill is = well x is
matched P P2 Q Q2 (Err e) well ill is = ill e is

module _ {S : Type 0} (g : Device S) (layout : LayoutState) (i : ℕ) (name : List ℕ) (k l m : SqlKeeper S g) where
  -- what is kept is one of two
  pub kept_either : (it other : Stored) → KeepsContent m it → KeepsEither g (below m) it other
  kept_either it other keeps = leaves_first g (below m) (Holds it) (Holds other) keeps.kept

  content_at : (j : ℕ) (it : Stored) → j ≡ i → KeepsContent m (with_site (site_text j (Some name)) it) → KeepsContent m (moved_content i name it)
  content_at j it same keeps = subst (λ (n : ℕ). KeepsContent m (with_site (site_text n (Some name)) it)) same keeps

  either_at : (j : ℕ) (it : Stored) → j ≡ i → KeepsEither g (below m) it (with_site (site_text j (Some name)) it) → KeepsEither g (below m) it (moved_content i name it)
  either_at j it same keeps = subst (λ (n : ℕ). KeepsEither g (below m) it (with_site (site_text n (Some name)) it)) same keeps

  -- a text was made from k to l, and the store was moved from l to m
  pub has_moved : (j : ℕ) (text : List ℕ) → j ≡ i
      → TellsWhole layout i name k l text → ((it : Stored) → KeepsContent k it → KeepsContent l it) → ((d : DurableState) → KeepsPart k d → KeepsPart l d)
      → ((it : Stored) → KeepsContent l it → KeepsContent m (with_site (site_text j (Some name)) it)) → ((d : DurableState) → KeepsPart l d → KeepsPart m d)
      → group_of m ≡ Some name → (is_honest m → is_honest l) → faults_of m ≡ 0
      → ((others : Database) → KeepsBeside g (below k) others → KeepsBeside g (below l) others)
      → ((it : Stored) (others : Database) → KeepsContent l it → KeepsBeside g (below l) others → KeepsBeside g (below m) others) → Moves layout i name k m text
  has_moved j text same tells content part next next_part group honest sound beside next_beside = record {
    tells = record {
      first = tells.first;
      given = λ d keeps clean. tells.given d keeps (honest clean);
      cells = tells.cells;
      sessions = tells.sessions;
      is_text = tells.is_text;
    };
    content = λ it keeps. content_at j it same (next it (content it keeps));
    part = λ d keeps. next_part d (part d keeps);
    beside = λ it others keeps there. next_beside it others (content it keeps) (beside others there);
    in_group = group;
    sound = sound;
  }

  -- the move was refused
  pub refused_move : (j : ℕ) (error : KeeperError) (ended : ServiceEnd) → j ≡ i → ended ≡ unloaded_end error
      → ((it : Stored) → KeepsContent k it → KeepsContent l it)
      → (error ≡ keeping.StoreFault → faults_of m ≡ 1) → (error ≡ keeping.Memory → faults_of m ≡ 0)
      → ((it : Stored) → KeepsContent l it → error ≡ keeping.Memory → KeepsContent m it)
      → ((it : Stored) → KeepsContent l it → error ≡ keeping.StoreFault → KeepsEither g (below m) it (with_site (site_text j (Some name)) it))
      → ((others : Database) → KeepsBeside g (below k) others → KeepsBeside g (below l) others)
      → ((it : Stored) (others : Database) → KeepsContent l it → KeepsBeside g (below l) others → KeepsBeside g (below m) others)
      → MovesNot layout i name k m ended
  refused_move j keeping.Memory ended same is content fault no_fault memory doubt beside next_beside = record {
    why = inl (record { error = keeping.Memory; is_ended = is; fault = fault; no_fault = no_fault });
    content = λ it keeps none. memory it (content it keeps) refl;
    either = λ it keeps. kept_either it (moved_content i name it) (memory it (content it keeps) refl);
    beside = λ it others keeps there. next_beside it others (content it keeps) (beside others there);
  }
  refused_move j keeping.StoreFault ended same is content fault no_fault memory doubt beside next_beside = record {
    why = inl (record { error = keeping.StoreFault; is_ended = is; fault = fault; no_fault = no_fault });
    content = λ it keeps none. let one = fault refl in absurd (omega (arith, one, none));
    either = λ it keeps. either_at j it same (doubt it (content it keeps) refl);
    beside = λ it others keeps there. next_beside it others (content it keeps) (beside others there);
  }

  -- no text was made, and no move tried
  pub untold_move : (ended : ServiceEnd) → TellsNone layout i k m ended → ((it : Stored) → KeepsContent k it → KeepsContent m it)
      → ((others : Database) → KeepsBeside g (below k) others → KeepsBeside g (below m) others) → MovesNot layout i name k m ended
  untold_move ended why content beside = record {
    why = why;
    content = λ it keeps none. content it keeps;
    either = λ it keeps. kept_either it (moved_content i name it) (content it keeps);
    beside = λ it others keeps there. beside others there;
  }

-- want of memory is no fault
pub memory_is_none : {P : Type 0} → keeping.Memory ≡ keeping.StoreFault → P
memory_is_none is = cc

-- .. nor is a refusal for it one for a fault
pub memory_no_fault : {A P : Type 0} (r : Result A KeeperError) → r ≡ Err keeping.Memory → r ≡ Err keeping.StoreFault → P
memory_no_fault r is same = cc

-- an answer that went well is no refusal
pub ok_is_none : {A E P : Type 0} (x : A) (e : E) → Ok x ≡ Err e → P
ok_is_none x e is = cc

-- what is known of an answer of each kind
pub when_ok : {A E : Type 0} (P : A → Type 0) (Q : E → Type 0) (r : Result A E) (x : A) → r ≡ Ok x → MatchResult r P Q → P x
when_ok {A} {E} P Q r x is known = subst (λ (s : Result A E). MatchResult s P Q) is known

pub when_err : {A E : Type 0} (P : A → Type 0) (Q : E → Type 0) (r : Result A E) (e : E) → r ≡ Err e → MatchResult r P Q → Q e
when_err {A} {E} P Q r e is known = subst (λ (s : Result A E). MatchResult s P Q) is known
