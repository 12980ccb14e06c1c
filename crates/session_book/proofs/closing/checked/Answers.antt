use Rattle.std.proofs.Common.{List, Result, Ok, Err, subst, rules, arith}
use Rattle.std.specs.Prelude.{All, IfOk, IfErr}
use Rattle.std.proofs.lemmas.List.{take_all}
use Rattle.session_book.specs.Passes.{PassState}
use Rattle.session_book.specs.Sites.{BearsOut}
use Rattle.session_book.proofs.closing.checked.Goals as goal

if_ok : {T E P : Type 0} → (r : Result T E) → P → IfOk r (λ _. P)
if_ok (Ok x) p = p
if_ok (Err e) p = tt

if_err : {T E : Type 0} {P : E → Type 0} → (r : Result T E) → ((e : E) → P e) → IfErr r P
if_err (Ok x) p = tt
if_err (Err e) p = p e

pub passes-init : goal.passes-init
passes-init g c = search rules

pub returns-clause-each : goal.returns-clause-each
returns-clause-each g c =
    if_ok c.map_err.result
    (subst (λ (ps : List PassState). All (BearsOut c.args.limit c.args.desk.now.log.entries) ps) (take_all c.passes.i c.args.passes.now (omega arith)) c.passes.invariant)

pub returns-clause-lacks : goal.returns-clause-lacks
returns-clause-lacks g c =
    if_err c.map_err.result
    (λ e is same. subst (λ (ps : List PassState). All (BearsOut c.args.limit c.args.desk.now.log.entries) ps) (take_all c.passes.i c.args.passes.now (omega arith)) c.passes.invariant)
