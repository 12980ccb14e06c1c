use Rattle.round_keeper.specs.Rounds.{changed_all}
use Rattle.std.proofs.Common.{inl, ap, sym, subst, ◌∙◌}
use Rattle.store_rows.specs.Holding.{HoldsBeside}
use Rattle.admission_core.specs.Kept.{DurableState}
use Rattle.store_tables.specs.Kept.{connection_of}
use Rattle.store_content.proofs.TellableLemmas.{tellable}
use Rattle.store_tables.proofs.KeepLemmas.{on_ok_under}
use Rattle.site_store.specs.Rounds.{ChangesAll, after_changes}
use Rattle.std.proofs.lemmas.Result.{on_ok_weaker}
use Rattle.site_store.specs.Sql.{IsOneOf, KeepsContent, KeepsPart, row_of}
use Rattle.site_store.proofs.OpenLemmas.{if_honest, twice}
use Rattle.site_store.proofs.SqlLemmas.{either_first}
use Rattle.round_keeper.proofs.StagedLemmas.{nothing_changed}
use Rattle.site_store.proofs.RoundLemmas.{left_all, nothing_stored}
use Rattle.site_store.proofs.sql.SqlKeeper.make_changes.Goals as goal

pub returns-then-faults-gt0-clause-fault : goal.returns-then-faults-gt0-clause-fault
returns-then-faults-gt0-clause-fault g c d keeps fault = λ honest.
    let k = c.args.self.now in
    let found = keeps honest in
    let own : IsOneOf k.layout (row_of k) d (changed_all c.args.changes.now d) found.0 = record { own = found.1.0.own; part = inl found.1.1 } in
    (found.0, (found.0, (twice g.S.Store (connection_of k.tables) found.0 found.1.0.kept, (own, own))))

pub returns-clause-ok : goal.returns-clause-ok
returns-clause-ok g c d keeps =
    let k = c.args.self.now in
    let r = c.commit_round.result in
    on_ok_under r (λ f. f) (λ honest.
    let found = keeps (c.commit_round.ensures.honest honest) in
    on_ok_under r (λ f. (after_changes c.args.changes.now found.0, ((f _).stores, (f _).part ∙ ap (changed_all c.args.changes.now) found.1.1)))
    (λ (_ : Unit {0}). c.commit_round.ensures.ok k.layout (row_of k) found.0 found.1.0))

pub returns-clause-memory : goal.returns-clause-memory
returns-clause-memory g c d keeps is = λ honest.
    let k = c.args.self.now in
    let found = keeps (c.commit_round.ensures.honest honest) in
    (found.0, (c.commit_round.ensures.memory k.layout (row_of k) found.0 found.1.0 honest is, found.1.1))

pub returns-clause-fault : goal.returns-clause-fault
returns-clause-fault g c d keeps is = λ honest.
    let k = c.args.self.now in
    let found = keeps (c.commit_round.ensures.honest honest) in
    let e = c.commit_round.ensures.fault k.layout (row_of k) found.0 found.1.0 is in (
      found.0,
      (
        e.second,
        (
          e.left,
          (
            subst (λ (q : DurableState). IsOneOf k.layout (row_of k) q (changed_all c.args.changes.now q) found.0) found.1.1 e.is_first,
            subst (λ (q : DurableState). IsOneOf k.layout (row_of k) q (changed_all c.args.changes.now q) e.second) found.1.1 e.is_second,
          ),
        ),
      ),
    )

pub commit_round-requires-clause-tellable : goal.commit_round-requires-clause-tellable
commit_round-requires-clause-tellable g c k d below =
    tellable c.args.self.now.layout c.args.self.now.site _ c.sites.ensures.layout.few_sites c.sites.ensures.layout.few_records (c.requires k d below)

-- ---- the content

pub returns-then-are_empty-clause-content : goal.returns-then-are_empty-clause-content
returns-then-are_empty-clause-content g c it keeps =
    subst (KeepsContent c.args.self.now) (sym (nothing_stored c.args.changes.now it (c.are_empty.ensures.empty c.if-are_empty.true))) keeps

pub returns-then-are_empty-clause-ok : goal.returns-then-are_empty-clause-ok
returns-then-are_empty-clause-ok g c d keeps =
    subst (KeepsPart c.args.self.now) (sym (nothing_changed c.args.changes.now d (c.are_empty.ensures.empty c.if-are_empty.true))) keeps

pub returns-clause-content : goal.returns-clause-content
returns-clause-content g c it keeps =
    let k = c.args.self.now in
    on_ok_weaker c.commit_round.result (λ (f : ChangesAll g.S.Store k.layout (row_of k) c.args.changes.now it (connection_of c.commit_round.new.tables) c.commit_round.new.index). f.stores)
    (c.commit_round.ensures.ok k.layout (row_of k) it keeps)

pub returns-then-faults-gt0-clause-doubt : goal.returns-then-faults-gt0-clause-doubt
returns-then-faults-gt0-clause-doubt g c it keeps fault =
    let k = c.args.self.now in
    either_first g.S.Store (connection_of k.tables) it (after_changes c.args.changes.now it) (twice g.S.Store (connection_of k.tables) it keeps.kept)

pub returns-clause-doubt : goal.returns-clause-doubt
returns-clause-doubt g c it keeps fault =
    let k = c.args.self.now in
    left_all g.S.Store (connection_of c.commit_round.new.tables) k.layout (row_of k) c.args.changes.now it keeps.own (c.commit_round.ensures.fault k.layout (row_of k) it keeps fault)

-- ---- the other tables

pub returns-clause-beside : goal.returns-clause-beside
returns-clause-beside g c d others keeps beside =
    let k = c.args.self.now in
    if_honest g.S.Store (connection_of c.commit_round.new.tables) (HoldsBeside others)
    (λ clean. let found = keeps (c.commit_round.ensures.honest clean) in c.commit_round.ensures.beside k.layout (row_of k) found.0 others found.1.0 beside)
