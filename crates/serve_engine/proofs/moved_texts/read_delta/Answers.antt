use Rattle.std.proofs.Common.{rules, List, ℕ, subst}
use Rattle.serve_engine.specs.Moved.{IsTold}
use Rattle.serve_engine.proofs.MovedLemmas.{stop_told}
use Rattle.serve_engine.proofs.moved_texts.read_delta.Goals as goal

pub returns-in-Err : goal.returns-in-Err
returns-in-Err c = stop_told c.args.layout.now.records c.args.name.now c.args.alone c.args.line.now c.in-Err.stop c.in-Err.ensures

pub returns-in-Ok-decode : goal.returns-in-Ok-decode
returns-in-Ok-decode c =
    let exact = c.in-Ok-decode.ensures.exact in
    (exact.0, subst (λ (t : List ℕ). IsTold c.args.layout.now.records c.args.name.now c.args.alone c.args.line.now t) exact.1 c.in-Ok.ensures)

pub returns-in-Err-decode : goal.returns-in-Err-decode
returns-in-Err-decode c = (c.in-Ok.text.now, c.in-Ok.ensures, c.in-Err-decode.ensures.exact, search rules)
