use Rattle.std.proofs.Common.{inl, ap, sym, subst, ◌∙◌}
use Rattle.store_rows.specs.Holding.{HoldsBeside}
use Rattle.admission_core.specs.Kept.{DurableState}
use Rattle.store_tables.specs.Kept.{connection_of}
use Rattle.store_content.proofs.TellableLemmas.{tellable}
use Rattle.store_tables.proofs.KeepLemmas.{on_ok_under}
use Rattle.durable_keeper.specs.Keeping.{changed}
use Rattle.store_content.specs.Plan.{after_change}
use Rattle.std.proofs.lemmas.Result.{on_ok_weaker}
use Rattle.site_store.specs.Sql.{Changes, IsOneOf, KeepsContent, row_of}
use Rattle.site_store.proofs.OpenLemmas.{if_honest, twice}
use Rattle.site_store.proofs.SqlLemmas.{either_first, lacks_some, left_or, nothing_after}
use Rattle.site_store.proofs.sql.SqlKeeper.make_change.Goals as goal

pub returns-then-faults-gt0-clause-fault : goal.returns-then-faults-gt0-clause-fault
returns-then-faults-gt0-clause-fault g c d keeps fault = λ honest.
    let k = c.args.self.now in
    let found = keeps honest in
    let own : IsOneOf k.layout (row_of k) d (changed c.args.change.now d) found.0 = record { own = found.1.0.own; part = inl found.1.1 } in
    (found.0, (found.0, (twice g.S.Store (connection_of k.tables) found.0 found.1.0.kept, (own, own))))

pub returns-clause-ok : goal.returns-clause-ok
returns-clause-ok g c d keeps =
    let k = c.args.self.now in
    let r = c.commit_rows.result in
    on_ok_under r (λ f. f) (λ honest.
    let found = keeps (c.commit_rows.ensures.honest honest) in
    on_ok_under r (λ f. (after_change c.args.change.now found.0, ((f _).stores, (f _).part ∙ ap (changed c.args.change.now) found.1.1)))
    (λ (_ : Unit {0}). c.commit_rows.ensures.ok k.layout (row_of k) found.0 found.1.0))

pub returns-clause-memory : goal.returns-clause-memory
returns-clause-memory g c d keeps is = λ honest.
    let k = c.args.self.now in
    let found = keeps (c.commit_rows.ensures.honest honest) in
    (found.0, (c.commit_rows.ensures.memory k.layout (row_of k) found.0 found.1.0 is, found.1.1))

pub returns-clause-fault : goal.returns-clause-fault
returns-clause-fault g c d keeps is = λ honest.
    let k = c.args.self.now in
    let found = keeps (c.commit_rows.ensures.honest honest) in
    let e = c.commit_rows.ensures.fault k.layout (row_of k) found.0 found.1.0 is in (
      found.0,
      (
        e.second,
        (
          e.left,
          (
            subst (λ (q : DurableState). IsOneOf k.layout (row_of k) q (changed c.args.change.now q) found.0) found.1.1 e.is_first,
            subst (λ (q : DurableState). IsOneOf k.layout (row_of k) q (changed c.args.change.now q) e.second) found.1.1 e.is_second,
          ),
        ),
      ),
    )

pub commit_rows-requires-clause-tellable : goal.commit_rows-requires-clause-tellable
commit_rows-requires-clause-tellable g c = tellable c.args.self.now.layout c.args.self.now.site c.args.change.now c.sites.ensures.layout.few_sites c.sites.ensures.layout.few_records c.requires

-- ---- the content

pub returns-then-is_empty-clause-content : goal.returns-then-is_empty-clause-content
returns-then-is_empty-clause-content g c it keeps =
    let k = c.args.self.now in
    let none = c.is_empty.ensures.0 c.if-is_empty.true in
    subst (KeepsContent k) (sym (nothing_after c.args.change.now it none.0 none.1)) keeps

pub returns-clause-content : goal.returns-clause-content
returns-clause-content g c it keeps =
    let k = c.args.self.now in
    on_ok_weaker c.commit_rows.result (λ (f : Changes g.S.Store k.layout (row_of k) c.args.change.now it (connection_of c.commit_rows.new.tables) c.commit_rows.new.index). f.stores)
    (c.commit_rows.ensures.ok k.layout (row_of k) it keeps)

pub returns-then-faults-gt0-clause-doubt : goal.returns-then-faults-gt0-clause-doubt
returns-then-faults-gt0-clause-doubt g c it keeps fault =
    let k = c.args.self.now in
    either_first g.S.Store (connection_of k.tables) it (after_change c.args.change.now it) (twice g.S.Store (connection_of k.tables) it keeps.kept)

pub returns-clause-doubt : goal.returns-clause-doubt
returns-clause-doubt g c it keeps fault =
    let k = c.args.self.now in
    left_or g.S.Store (connection_of c.commit_rows.new.tables) k.layout (row_of k) c.args.change.now it keeps.own (c.commit_rows.ensures.fault k.layout (row_of k) it keeps fault)

pub returns-then-is_empty-clause-full : goal.returns-then-is_empty-clause-full
returns-then-is_empty-clause-full g c it keeps lacks =
    absurd (lacks_some c.args.change.now it (c.is_empty.ensures.0 c.if-is_empty.true).1 lacks)

pub returns-clause-full : goal.returns-clause-full
returns-clause-full g c it keeps lacks = c.commit_rows.ensures.full c.args.self.now.layout (row_of c.args.self.now) it keeps lacks

-- ---- the other tables

pub returns-clause-beside : goal.returns-clause-beside
returns-clause-beside g c d others keeps beside =
    let k = c.args.self.now in
    if_honest g.S.Store (connection_of c.commit_rows.new.tables) (HoldsBeside others)
    (λ clean. let found = keeps (c.commit_rows.ensures.honest clean) in c.commit_rows.ensures.beside k.layout (row_of k) found.0 others found.1.0 beside)

-- ---- why it is refused
