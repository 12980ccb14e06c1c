use Rattle.std.proofs.Common.{◌≡◌, ◌+◌, ◌-◌, ◌∙◌, suc, ◌∷◌, length, take, drop, sym, ap, arith, take_all}
use Rattle.std.proofs.lemmas.List.{length-drop}
use Rattle.text_input.specs.Lines.{lines_of}
use Rattle.text_input.proofs.LineLemmas.{first_line, only_line_of}
use Rattle.text_input.proofs.lines.cut_line.Goals as goal

pub returns-in-Some-clause-lines : goal.returns-in-Some-clause-lines
returns-in-Some-clause-lines c =
    let bs = c.args.bytes.now in
    let k = c.in-Some.end in
    let found = c.in-Some.ensures in
    let whole : take (length bs - (k + 1)) (drop (k + 1) bs) ≡ drop (k + 1) bs = take_all _ _ (omega (arith, length-drop (k + 1) bs)) in
    let next : k + 1 ≡ suc k = omega arith in
    first_line bs k found.0.high (λ j low. found.0.before j (omega arith) low) found.1
    ∙ ap (λ rest. take k bs ∷ lines_of rest) (ap (λ n. drop n bs) (sym next) ∙ sym whole)

pub returns-in-None-clause-lines : goal.returns-in-None-clause-lines
returns-in-None-clause-lines c =
    let bs = c.args.bytes.now in
    let none : length bs - length bs ≡ 0 = omega arith in
    rw none (only_line_of bs c.requires (λ j low. c.in-None.ensures j (omega arith) low))
