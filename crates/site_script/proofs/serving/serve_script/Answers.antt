use Rattle.std.proofs.Common.{rules, ◌≡◌, true, false, string_bytes, arith}
use Rattle.text_input.specs.Lines.{lines_of}
use Rattle.desk_log.specs.Desk.{account_of, is_frozen}
use Rattle.site_script.specs.Served.{places_of}
use Rattle.site_script.proofs.LineLemmas.{if_err, line_lost, line_read, line_not_read, all_served, all_stopped, all_frozen, opening_kept, grows_on, stays_on}
use Rattle.site_script.proofs.serving.serve_script.Goals as goal

pub returns-then-not-branch-clause-served : goal.returns-then-not-branch-clause-served
returns-then-not-branch-clause-served g c =
    let s = c.args.desk.now in
    let d = c.loop-rest.desk in
    let e = c.serve_line.new.desk in
    let lines = lines_of c.args.script.now in
    let new = string_bytes c.serve_line.new.text in
    let read : c.in_ok-serve_line.field-0 ≡ false = search rules in
    λ ran runs.
    all_served (is_frozen s) (account_of s) (places_of s) e s.core.layout.records lines false new
    (line_not_read s d e lines c.loop-rest.rest.now c.cut_line.result.0.now c.cut_line.result.1.now c.loop-rest.number (string_bytes c.loop-rest.text) new c.in_ok-serve_line.field-0
    c.loop-rest.invariant.so_far c.loop-rest.invariant.opening.layout c.cut_line.ensures.lines c.in_ok-serve_line.ensures.line read) ran runs

pub returns-then-not-branch-clause-stopped : goal.returns-then-not-branch-clause-stopped
returns-then-not-branch-clause-stopped g c =
    let s = c.args.desk.now in
    let d = c.loop-rest.desk in
    let e = c.serve_line.new.desk in
    let lines = lines_of c.args.script.now in
    let new = string_bytes c.serve_line.new.text in
    let read : c.in_ok-serve_line.field-0 ≡ false = search rules in
    λ ran frozen.
    all_stopped (is_frozen s) (account_of s) (places_of s) e s.core.layout.records lines false new
    (line_not_read s d e lines c.loop-rest.rest.now c.cut_line.result.0.now c.cut_line.result.1.now c.loop-rest.number (string_bytes c.loop-rest.text) new c.in_ok-serve_line.field-0
    c.loop-rest.invariant.so_far c.loop-rest.invariant.opening.layout c.cut_line.ensures.lines c.in_ok-serve_line.ensures.line read) ran frozen

pub returns-then-not-branch-clause-stays : goal.returns-then-not-branch-clause-stays
returns-then-not-branch-clause-stays g c =
    let s = c.args.desk.now in
    let d = c.loop-rest.desk in
    let e = c.serve_line.new.desk in
    let lines = lines_of c.args.script.now in
    let new = string_bytes c.serve_line.new.text in
    let read : c.in_ok-serve_line.field-0 ≡ false = search rules in
    λ stood.
    all_frozen (is_frozen s) (account_of s) (places_of s) e s.core.layout.records lines false new
    (line_not_read s d e lines c.loop-rest.rest.now c.cut_line.result.0.now c.cut_line.result.1.now c.loop-rest.number (string_bytes c.loop-rest.text) new c.in_ok-serve_line.field-0
    c.loop-rest.invariant.so_far c.loop-rest.invariant.opening.layout c.cut_line.ensures.lines c.in_ok-serve_line.ensures.line read) stood

pub loop-rest-preserved : goal.loop-rest-preserved
loop-rest-preserved g c =
    let s = c.args.desk.now in
    let d = c.loop-rest.desk in
    let e = c.serve_line.new.desk in
    let read : c.in_ok-serve_line.field-0 ≡ true = search rules in
    record {
      so_far =
          line_read s d e (lines_of c.args.script.now) c.loop-rest.rest.now c.cut_line.result.0.now c.cut_line.result.1.now c.loop-rest.number (string_bytes c.loop-rest.text) (string_bytes c.serve_line.new.text) c.in_ok-serve_line.field-0
          c.loop-rest.invariant.so_far c.loop-rest.invariant.opening.layout c.cut_line.ensures.lines c.in_ok-serve_line.ensures.line read;
      still = stays_on s d e c.loop-rest.invariant.still c.in_ok-serve_line.ensures.still;
      opening = opening_kept s d e c.loop-rest.invariant.opening c.in_ok-serve_line.ensures.opening;
      grown = grows_on c.args.pass s d e c.loop-rest.invariant.grown c.in_ok-serve_line.ensures.grown;
      counted = omega (arith, c.loop-rest.invariant.counted, c.cut_line.ensures.shorter);
    }

pub returns-in_err-serve_line-clause-lost : goal.returns-in_err-serve_line-clause-lost
returns-in_err-serve_line-clause-lost g c =
    if_err _ c.from_residual.result
    (line_lost c.args.desk.now c.loop-rest.desk c.serve_line.new.desk (lines_of c.args.script.now) c.loop-rest.rest.now c.cut_line.result.0.now c.cut_line.result.1.now
    c.loop-rest.number (string_bytes c.loop-rest.text) c.loop-rest.invariant.so_far c.loop-rest.invariant.opening.layout c.cut_line.ensures.lines c.in_err-serve_line.ensures.lost)
