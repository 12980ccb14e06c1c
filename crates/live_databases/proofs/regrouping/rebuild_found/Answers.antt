use Rattle.std.proofs.Common.{List, ℕ, inl, inr, string_bytes, subst, sym}
use Rattle.rebuild_engine.specs.Parts.{IsBuiltOf}
use Rattle.live_databases.proofs.MoveLemmas.{when_err, when_ok}
use Rattle.live_databases.proofs.regrouping.rebuild_found.Goals as goal

pub make_rebuilt_over-made-requires-clause-cells : goal.make_rebuilt_over-made-requires-clause-cells
make_rebuilt_over-made-requires-clause-cells g c = c.in-Ok.ensures.is_change

pub returns-in-Err-open_once : goal.returns-in-Err-open_once
returns-in-Err-open_once g c =
    let rebuilt = c.in-Ok.rebuilt in
    inl (record {
      core = rebuilt.core;
      cells = rebuilt.cells.items;
      text = string_bytes rebuilt.shown;
      built = c.in-Ok.ensures;
      unopened = c.in-Err-open_once.ensures.unopened;
    })

pub returns-in-Ok-made : goal.returns-in-Ok-made
returns-in-Ok-made g c =
    let made = when_ok _ _ c.make_rebuilt_over-made.result.0 c.in-Ok-made.shown c.in-Ok-made.is c.make_rebuilt_over-made.ensures in
    let rebuilt = c.in-Ok.rebuilt in
    record {
      core = rebuilt.core;
      cells = rebuilt.cells.items;
      built = subst (λ (t : List ℕ). IsBuiltOf c.args.layout c.args.site c.args.lost.now c.args.name.now c.args.bytes.now rebuilt.core rebuilt.cells.items t) (sym made.0) c.in-Ok.ensures;
      c = c.in-Ok-open_once.opened.0;
      after = c.make_rebuilt_over-made.result.1;
      found = c.in-Ok-open_once.ensures.opened;
      made = made.1;
    }

pub returns-in-Err-made : goal.returns-in-Err-made
returns-in-Err-made g c =
    let rebuilt = c.in-Ok.rebuilt in
    inr (record {
      core = rebuilt.core;
      cells = rebuilt.cells.items;
      text = string_bytes rebuilt.shown;
      built = c.in-Ok.ensures;
      c = c.in-Ok-open_once.opened.0;
      after = c.make_rebuilt_over-made.result.1;
      found = c.in-Ok-open_once.ensures.opened;
      refused = when_err _ _ c.make_rebuilt_over-made.result.0 c.in-Err-made.ended c.in-Err-made.is c.make_rebuilt_over-made.ensures;
    })
