use Rattle.std.proofs.Common.{◌≡◌, None, rules, sym, subst, ◌∙◌}
use Rattle.store_rows.specs.Changes.{changed}
use Rattle.store_rows.specs.Holding.{Holds, Leaves}
use Rattle.store_rows.specs.Rows.{Stored}
use Rattle.store_tables.proofs.TransactLemmas.{none_of, nothing_changed}
use Rattle.store_tables.proofs.KeepLemmas.{leaves_first}
use Rattle.store_tables.proofs.tables.Tables.commit.Goals as goal

pub returns-then-self-clause-either : goal.returns-then-self-clause-either
returns-then-self-clause-either g c it takes keeps fault = leaves_first g.S.Store c.args.self.now.conn (Holds it) (Holds (changed c.args.cells.now c.args.notices.now c.args.edit it)) keeps

pub returns-then-is_none-clause-ok : goal.returns-then-is_none-clause-ok
returns-then-is_none-clause-ok g c it fits keeps =
    let a = none_of c.args.cells.now (sym c.is_empty.ensures ∙ c.if-is_empty.true) in
    let b = none_of c.args.notices.now (sym c.is_empty-then-is_empty.ensures ∙ c.if-is_empty-2.true) in
    let d : c.args.edit ≡ None = search rules in
    subst (λ (x : Stored). Leaves g.S.Store c.args.self.now.conn (Holds x)) (sym (nothing_changed c.args.cells.now c.args.notices.now c.args.edit it a b d)) keeps
