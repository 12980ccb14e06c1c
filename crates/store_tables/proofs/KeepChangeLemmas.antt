-- From one transaction to what the connection keeps.
use Rattle.std.proofs.Common.{◌≡◌, Result, IsTrue, arith}
use Rattle.sqlite_trees.specs.Tree.{Trees}
use Rattle.sqlite_trees.specs.declared.store.Store.{Ghosts}
use Rattle.sqlite.specs.Effect.{Database, IsDatabase}
use Rattle.sqlite.specs.State.{IsLive}
use Rattle.sqlite.specs.Held.{Held, state}
use Rattle.store_rows.specs.Rows.{Stored}
use Rattle.store_rows.specs.Holding.{Holds, HoldsBeside, HoldsNothing}
use Rattle.store_tables.specs.Keeping.{ChangesStore, MakesStore}
use Rattle.store_tables.specs.Transacts.{Transacts, Turns}
use Rattle.store_tables.specs.declared.error.TableError.{TableError}
use Rattle.store_tables.proofs.KeepLemmas.{HoldsBoth, leaves_beside, leaves_both, leaves_done, leaves_either, leaves_still, on_ok_under, turned, turned_beside}

module _ {S : Type 0} (g : Ghosts S) (settled : (s : S) (db : Trees) → IsTrue (g.view s).is_open → g.recovers s db → db ≡ (g.view s).committed) (stays : (s : S) → IsTrue (g.view s).is_open → g.recovers s (g.view s).committed)
    (old new : Held S) (r : Result (Unit {0}) TableError) (live : IsLive (state g old)) (idle : IsTrue (state g old).is_open → (state g old).now ≡ (state g old).committed) where
  -- a store is changed
  pub changes_store : (Fits : Stored → Type 0) (f : Stored → Stored) → Transacts g (Turns Fits f) old r new → ChangesStore g Fits f old r new
  changes_store Fits f done = record {
    idle = done.idle;
    honest = λ clean. omega (arith, done.survives.clean, clean);
    done = λ it fits keeps. on_ok_under r (leaves_done g settled stays old new (Holds it) (Holds (f it)) (Turns Fits f) (turned Fits f it fits) keeps live idle done.survives) done.done;
    either = λ it fits keeps. leaves_either g settled stays old new (Holds it) (Holds (f it)) (Turns Fits f) (turned Fits f it fits) keeps live idle done.survives;
    memory = λ it keeps memory. leaves_still g old new (Holds it) (done.undone memory) keeps;
    kind = done.kind;
    beside = λ it others fits keeps beside.
        leaves_beside g new it others
        (leaves_either g settled stays old new (HoldsBoth it others) (HoldsBeside others) (Turns Fits f) (turned_beside Fits f it others fits) (leaves_both g old (Holds it) (HoldsBeside others) keeps beside) live idle done.survives);
  }

  -- a store is made
  pub makes_store : (it : Stored) (E : Database → Database → Type 0) → ((a b : Database) → IsDatabase a → HoldsNothing a.trees → E a b → Holds it b.trees) → Transacts g E old r new → MakesStore g it old r new
  makes_store it E makes done = record {
    idle = done.idle;
    honest = λ clean. omega (arith, done.survives.clean, clean);
    done = λ keeps. on_ok_under r (leaves_done g settled stays old new HoldsNothing (Holds it) E makes keeps live idle done.survives) done.done;
    either = λ keeps. leaves_either g settled stays old new HoldsNothing (Holds it) E makes keeps live idle done.survives;
    memory = λ keeps memory. leaves_still g old new HoldsNothing (done.undone memory) keeps;
    kind = done.kind;
  }
