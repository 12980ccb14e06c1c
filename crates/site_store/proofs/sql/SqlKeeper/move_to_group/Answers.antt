use Rattle.std.proofs.Common.{◌≡◌, List, ℕ, Some, Result, Err, ap, sym, arith}
use Rattle.store_rows.specs.Holding.{Holds}
use Rattle.store_tables.proofs.KeepLemmas.{leaves_first}
use Rattle.store_tables.specs.declared.error.TableError.{TableError}
use Rattle.store_tables.specs.Kept.{connection_of}
use Rattle.store_tables.specs.Transacts.{with_site}
use Rattle.durable_keeper.specs.declared.error.KeeperError.TheVariants.{Memory, StoreFault}
use Rattle.site_store.specs.Errors.{keeper_error}
use Rattle.site_store.specs.SiteText.{site_text}
use Rattle.site_store.specs.Sql.{row_of}
use Rattle.site_store.proofs.MoveLemmas.{either_moved, memory_is, stores_moved}
use Rattle.site_store.proofs.SqlLemmas.{fault_is}
use Rattle.site_store.proofs.sql.SqlKeeper.move_to_group.Goals as goal

abbrev error : TableError → Result (Unit {0}) TableError
error e = Err e

pub returns-then-faults-gt0-clause-doubt : goal.returns-then-faults-gt0-clause-doubt
returns-then-faults-gt0-clause-doubt g c it keeps same =
    let k = c.args.self.now in
    leaves_first g.S.Store (connection_of k.tables) (Holds it) (Holds (with_site (site_text k.site (Some c.args.group.now)) it)) keeps.kept

pub returns-in-Ok-clause-content : goal.returns-in-Ok-clause-content
returns-in-Ok-clause-content g c it keeps =
    let k = c.args.self.now in
    let to = site_text k.site (Some c.args.group.now) in
    let written : c.as_str.result.now ≡ to = grind (arith, c.as_str.ensures.value, c.in_ok-row.ensures) in
    let own = ap (λ (n : List ℕ). site_text k.site (Some n)) (sym c.in_ok-name.ensures.ok) in
    stores_moved g.S.Store k.layout (row_of k) c.as_str.result.now to _ (connection_of k.tables) (connection_of c.set_site.new.self) k.index it written own
    (c.in-Ok.ensures.ok it keeps.own.second keeps.kept) keeps

pub returns-in-Ok-clause-ok : goal.returns-in-Ok-clause-ok
returns-in-Ok-clause-ok g c d keeps = λ clean.
    let k = c.args.self.now in
    let to = site_text k.site (Some c.args.group.now) in
    let found = keeps (c.set_site.ensures.stops.honest clean) in
    let written : c.as_str.result.now ≡ to = grind (arith, c.as_str.ensures.value, c.in_ok-row.ensures) in
    let own = ap (λ (n : List ℕ). site_text k.site (Some n)) (sym c.in_ok-name.ensures.ok) in (
      with_site to found.0,
      (
        stores_moved g.S.Store k.layout (row_of k) c.as_str.result.now to _ (connection_of k.tables) (connection_of c.set_site.new.self) k.index found.0 written own
            (c.in-Ok.ensures.ok found.0 found.1.0.own.second found.1.0.kept) found.1.0,
        found.1.1,
      ),
    )

pub returns-in-Ok-clause-moved : goal.returns-in-Ok-clause-moved
returns-in-Ok-clause-moved g c = ap (λ (n : List ℕ). Some n) c.in_ok-name.ensures.ok

pub returns-in-Ok-clause-beside : goal.returns-in-Ok-clause-beside
returns-in-Ok-clause-beside g c it others keeps beside = c.set_site.ensures.beside it others keeps.own.second keeps.kept beside

pub returns-in-Err-clause-beside : goal.returns-in-Err-clause-beside
returns-in-Err-clause-beside g c it others keeps beside = c.set_site.ensures.beside it others keeps.own.second keeps.kept beside

pub returns-in-Err-clause-memory : goal.returns-in-Err-clause-memory
returns-in-Err-clause-memory g c it keeps memory =
    let told : keeper_error c.in-Err.error ≡ Memory = grind (arith, memory, c.keeper_error.ensures) in
    record { own = keeps.own; kept = c.in-Err.ensures.memory it keeps.own.second keeps.kept (ap error (memory_is c.in-Err.error told)); known = keeps.known }

pub returns-in-Err-clause-doubt : goal.returns-in-Err-clause-doubt
returns-in-Err-clause-doubt g c it keeps fault =
    let k = c.args.self.now in
    let to = site_text k.site (Some c.args.group.now) in
    let written : c.as_str.result.now ≡ to = grind (arith, c.as_str.ensures.value, c.in_ok-row.ensures) in
    let told : keeper_error c.in-Err.error ≡ StoreFault = grind (arith, fault, c.keeper_error.ensures) in
    let is = fault_is c.in-Err.error (λ e. c.in-Err.ensures.kind (ap error e)) told in
    either_moved g.S.Store c.as_str.result.now to (connection_of c.set_site.new.self) it written (c.in-Err.ensures.either it keeps.own.second keeps.kept (ap error is))
