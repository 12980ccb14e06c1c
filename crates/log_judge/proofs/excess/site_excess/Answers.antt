use Rattle.std.proofs.Common.{◌≡◌, List, [], ap, sym, ◌∙◌, length, map, get_or, arith}
use Rattle.std.proofs.lemmas.List.{length-map}
use Rattle.desk_log.specs.declared.transcript.Run.{Run}
use Rattle.log_judge.specs.Cut.{rows_brought}
use Rattle.log_judge.specs.Excess.{brought_by}
use Rattle.log_replay.proofs.ListLemmas.{parts, none_left}
use Rattle.log_judge.proofs.ExcessLemmas.{none_behind, none_along, found_along, found_within, behind_next, opened}
use Rattle.log_judge.proofs.excess.site_excess.Goals as goal

pub returns : goal.returns
returns c = λ k below.
    none_behind c.args.tables.now (brought_by c.args.flags.now c.args.runs.now) c.runs.at c.runs.invariant.none
    (λ j. c.runs.invariant.here j ∙ ap (λ (rest : List Run). get_or (brought_by c.runs.flags_left.now rest) j []) (none_left c.runs.rest.now c.in_default.len_below)) k

pub runs-preserved : goal.runs-preserved
runs-preserved c =
    let split = parts c.runs.rest.now c.run-item.result c.in-len1-up.len_at_least c.run-item.is in
    let behind = opened (brought_by c.args.flags.now c.args.runs.now) c.runs.at c.runs.flags_left.now c.split_flags-kept.result.1.now c.split_flags-kept.result.0 c.runs.rest.now _ c.run-item.result c.as_slice.result.now split
    c.split_flags-kept.ensures.first c.split_flags-kept.ensures.later c.as_slice.ensures c.runs.invariant.here in
    let size : length (map (rows_brought c.split_flags-kept.result.0) c.as_slice.result.now) ≡ c.len-here.result =
    length-map c.as_slice.result.now (rows_brought c.split_flags-kept.result.0) ∙ (ap (λ (es : List _). length es) c.as_slice.ensures ∙ sym c.len-here.ensures) in
    record {
      sum = omega (arith, c.if-left-here.false, c.runs.invariant.sum);
      none = none_along c.args.tables.now (brought_by c.args.flags.now c.args.runs.now) (map (rows_brought c.split_flags-kept.result.0) c.as_slice.result.now) _ c.runs.at c.runs.left c.len-here.result c.runs.invariant.none behind
          c.in_default-run_excess.ensures (omega (arith, c.if-left-here.false)) (omega (arith, size));
      here = behind_next (brought_by c.args.flags.now c.args.runs.now) (map (rows_brought c.split_flags-kept.result.0) c.as_slice.result.now) _ c.runs.at c.len-here.result size behind;
    }

pub returns-then-left-here : goal.returns-then-left-here
returns-then-left-here c = λ k below.
    let split = parts c.runs.rest.now c.run-item.result c.in-len1-up.len_at_least c.run-item.is in
    let behind = opened (brought_by c.args.flags.now c.args.runs.now) c.runs.at c.runs.flags_left.now c.split_flags-kept.result.1.now c.split_flags-kept.result.0 c.runs.rest.now _ c.run-item.result c.as_slice.result.now split
    c.split_flags-kept.ensures.first c.split_flags-kept.ensures.later c.as_slice.ensures c.runs.invariant.here in
    let size : length (map (rows_brought c.split_flags-kept.result.0) c.as_slice.result.now) ≡ c.len-here.result =
    length-map c.as_slice.result.now (rows_brought c.split_flags-kept.result.0) ∙ (ap (λ (es : List _). length es) c.as_slice.ensures ∙ sym c.len-here.ensures) in
    none_along c.args.tables.now (brought_by c.args.flags.now c.args.runs.now) (map (rows_brought c.split_flags-kept.result.0) c.as_slice.result.now) _ c.runs.at c.runs.left c.runs.left c.runs.invariant.none behind
    c.in_default-run_excess.ensures (omega arith) (omega (arith, size, c.if-left-here.true)) k (omega (arith, below, c.runs.invariant.sum))

pub returns-in-Some : goal.returns-in-Some
returns-in-Some c =
    let split = parts c.runs.rest.now c.run-item.result c.in-len1-up.len_at_least c.run-item.is in
    let behind = opened (brought_by c.args.flags.now c.args.runs.now) c.runs.at c.runs.flags_left.now c.split_flags-kept.result.1.now c.split_flags-kept.result.0 c.runs.rest.now _ c.run-item.result c.as_slice.result.now split
    c.split_flags-kept.ensures.first c.split_flags-kept.ensures.later c.as_slice.ensures c.runs.invariant.here in
    let found = c.in-Some.ensures in
    let inside = found_within c.args.tables.now (map (rows_brought c.split_flags-kept.result.0) c.as_slice.result.now) c.in-Some.it.at c.in-Some.it.rec c.in-Some.it.origin found.1 in (
      omega (arith, found.0, c.runs.invariant.sum),
      found_along c.args.tables.now (brought_by c.args.flags.now c.args.runs.now) (map (rows_brought c.split_flags-kept.result.0) c.as_slice.result.now) _ c.runs.at c.in-Some.it.at c.in-Some.it.rec c.in-Some.it.origin behind found.1,
      none_along c.args.tables.now (brought_by c.args.flags.now c.args.runs.now) (map (rows_brought c.split_flags-kept.result.0) c.as_slice.result.now) _ c.runs.at c.in-Some.it.at c.in-Some.it.at c.runs.invariant.none behind
          found.2 (omega arith) (omega (arith, inside)),
    )
