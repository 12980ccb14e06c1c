use Rattle.std.proofs.Common.{rules, true, ◌≡◌, ℕ, ◌+◌, ◌++◌, ◌∷◌, [], ◌∙◌, List, Option, Some, ap, sym, subst}
use Rattle.judge_engine.specs.declared.reading.Reading.{Reading}
use Rattle.judge_engine.specs.Reading.{Knows}
use Rattle.judge_engine.proofs.ReadingLemmas.{knows_now, line_read}
use Rattle.judge_engine.proofs.reading.Reading.read_snapshot.Goals as goal

pub returns-clause-read : goal.returns-clause-read
returns-clause-read c = λ yes layout cut keeping earlier front reads.
    let old = c.args.self.now in
    let line = c.args.line.now in
    let new : Reading = record old { logs = c.add_snapshot.new.logs; lines = c.in_ok-number.number } in
    let so = knows_now layout cut keeping earlier front old c.requires.none reads in
    let knows = subst (λ (o : Option ℕ). Knows layout cut keeping earlier front o old.logs) c.in-Some.is so.1 in
    let truth : c.in_ok-add_snapshot.field-0 ≡ true = search rules in
    let after = c.in_ok-add_snapshot.ensures.added truth layout cut keeping earlier front knows in
    line_read layout cut keeping earlier front line new reads.0 c.requires.none (c.in_ok-number.ensures ∙ ap (λ (n : ℕ). n + 1) so.0)
    (subst (λ (o : Option ℕ). Knows layout cut keeping earlier (front ++ line ∷ []) o new.logs) (sym c.in-Some.is) after)
