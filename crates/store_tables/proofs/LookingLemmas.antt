-- A look answered otherwise, and what follows from what it leaves.
use Rattle.std.proofs.Common.{◌≡◌, ◌≢◌, ◌⊎◌, Option, None, Result, Ok, Err, ap}
use Rattle.sqlite_trees.specs.declared.store.Store.{Ghosts}
use Rattle.sqlite.specs.State.{Survives}
use Rattle.sqlite.specs.Held.{Held, state}
use Rattle.store_rows.specs.Rows.{Stored}
use Rattle.store_rows.specs.Holding.{Holds, HoldsBeside, HoldsNothing}
use Rattle.store_rows.proofs.StepLemmas.{survives_same}
use Rattle.store_tables.specs.Looking.{IsRefusedLook, KeepsAll, Looks}
use Rattle.store_tables.proofs.KeepLemmas.{leaves_still}
use Rattle.store_tables.proofs.RefusalLemmas.{same_error}

module _ {S : Type 0} {g : Ghosts S} where
  -- a content is found, or none
  pub looks_found : {E F : Type 0} {bad : E} {worse : F} {old new : Held S} {found : Option Stored} → Looks g bad old (Ok found) new → Looks g worse old (Ok found) new
  looks_found {found = found} one = record {
    read = one.read;
    own = λ it fits keeps clean is. cc;
    good = λ keeps clean is. cc;
    blank = λ keeps clean. ((one.blank keeps clean).0, λ is. cc);
    settles = one.settles;
    settles_or = one.settles_or;
    cause = λ is. let none : found ≡ None = cc in one.cause (ap Ok none);
    fresh = one.fresh;
    unwritten = one.unwritten;
  }

  -- an error is told as another
  pub looks_told : {E F : Type 0} {bad u : E} {worse v : F} {old new : Held S} → (v ≡ worse → u ≡ bad) → Looks g bad old (Err u) new → Looks g worse old (Err v) new
  looks_told is one = record {
    read = λ it keeps clean. tt;
    own = λ it fits keeps clean same. one.own it fits keeps clean (ap Err (is (same_error same)));
    good = λ keeps clean same. one.good keeps clean (ap Err (is (same_error same)));
    blank = λ keeps clean. (tt, λ same. (one.blank keeps clean).1 (ap Err (is (same_error same))));
    settles = λ a b keeps. tt;
    settles_or = λ it keeps. tt;
    cause = λ same. absurd (cc);
    fresh = λ none. tt;
    unwritten = one.unwritten;
  }

  -- nothing was looked at
  pub looks_stopped : {F : Type 0} {worse v : F} {old : Held S} → v ≢ worse → Looks g worse old (Err v) old
  looks_stopped {old = old} other = record {
    read = λ it keeps clean. tt;
    own = λ it fits keeps clean same. other (same_error same);
    good = λ keeps clean same. other (same_error same);
    blank = λ keeps clean. (tt, λ same. other (same_error same));
    settles = λ a b keeps. tt;
    settles_or = λ it keeps. tt;
    cause = λ same. absurd (cc);
    fresh = λ none. tt;
    unwritten = survives_same (state g old);
  }

  pub refused_told : {E F : Type 0} {failed u : E} {worse v : F} {old new : Held S} → (v ≡ worse → u ≡ failed) → IsRefusedLook g failed old (Err u) new → IsRefusedLook g worse old (Err v) new
  refused_told is one = record {
    any = λ keeps clean same. one.any keeps clean (ap Err (is (same_error same)));
    other = λ other clean same. one.other other clean (ap Err (is (same_error same)));
    tables = λ v found schema clean same. one.tables v found schema clean (ap Err (is (same_error same)));
  }

  pub refused_never : {F : Type 0} {worse : F} {old new : Held S} (r : Result (Option Stored) F) → r ≢ Err worse → IsRefusedLook g worse old r new
  refused_never r other = record {
    any = λ keeps clean same. absurd (other same);
    other = λ found clean same. absurd (other same);
    tables = λ v found schema clean same. absurd (other same);
  }

  -- what commits nothing keeps what was kept
  pub keeps_all : (old new : Held S) → Survives (state g old) (state g new) (λ _. ⊥) → KeepsAll g old new
  keeps_all old new survives = record {
    kept = λ it. leaves_still g old new (Holds it) survives;
    either = λ a b. leaves_still g old new (λ db. Holds a db ⊎ Holds b db) survives;
    bare = leaves_still g old new HoldsNothing survives;
    bare_or = λ it. leaves_still g old new (λ db. HoldsNothing db ⊎ Holds it db) survives;
    beside = λ others. leaves_still g old new (HoldsBeside others) survives;
  }
