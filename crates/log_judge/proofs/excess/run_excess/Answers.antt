use Rattle.std.proofs.Common.{List, [], ap, sym, subst, ◌∙◌, map, get_or, arith}
use Rattle.merge_core.specs.declared.delta.Row.{Row}
use Rattle.log_judge.specs.Cut.{rows_brought}
use Rattle.log_judge.specs.Excess.{NoneAhead, IsFirstAhead}
use Rattle.log_replay.proofs.ListLemmas.{parts, none_left}
use Rattle.log_judge.proofs.ExcessLemmas.{here_now, here_next, none_more, none_behind}
use Rattle.log_judge.proofs.excess.run_excess.Goals as goal

pub returns-then-at-left : goal.returns-then-at-left
returns-then-at-left c = λ k below. c.entries.invariant.none k (omega (arith, below, c.if-at-left.true))

pub returns : goal.returns
returns c = λ k below.
    none_behind c.args.tables.now (map (rows_brought c.args.kept) c.args.entries.now) c.entries.at c.entries.invariant.none
    (λ j. c.entries.invariant.here j ∙ ap (λ (es : List _). get_or (map (rows_brought c.args.kept) es) j []) (none_left c.entries.rest.now c.in_default.len_below)) k

pub entries-preserved : goal.entries-preserved
entries-preserved c =
    let split = parts c.entries.rest.now c.entry-item.result c.in-len1-up.len_at_least c.entry-item.is in
    let now = here_now (rows_brought c.args.kept) c.args.entries.now c.entries.rest.now _ c.entry-item.result c.entries.at split c.entries.invariant.here in
    let none : NoneAhead c.args.tables.now (rows_brought c.args.kept c.entry-item.result) = c.in_default-entry_excess.ensures in
    record {
      before = omega (arith, c.if-at-left.false);
      none = none_more c.args.tables.now (map (rows_brought c.args.kept) c.args.entries.now) c.entries.at c.entries.invariant.none
          (subst (λ (rows : List Row). NoneAhead c.args.tables.now rows) (sym now) none);
      here = here_next (rows_brought c.args.kept) c.args.entries.now c.entries.rest.now _ c.entry-item.result c.entries.at split c.entries.invariant.here;
    }

pub returns-in-Some : goal.returns-in-Some
returns-in-Some c =
    let split = parts c.entries.rest.now c.entry-item.result c.in-len1-up.len_at_least c.entry-item.is in
    let now = here_now (rows_brought c.args.kept) c.args.entries.now c.entries.rest.now _ c.entry-item.result c.entries.at split c.entries.invariant.here in
    let found : IsFirstAhead c.args.tables.now (rows_brought c.args.kept c.entry-item.result) c.in-Some.it.rec c.in-Some.it.origin = c.in-Some.ensures in (
      c.if-at-left.false,
      subst (λ (rows : List Row). IsFirstAhead c.args.tables.now rows c.in-Some.it.rec c.in-Some.it.origin) (sym now) found,
      c.entries.invariant.none,
    )
