use Rattle.std.proofs.Common.{◌≡◌, ℕ, List, ◌+◌, ◌∙◌, suc, take, drop, Some, sym, ap, arith}
use Rattle.std.proofs.lemmas.List.{take_rest}
use Rattle.transcript_reader.proofs.CutLemmas.{cut_found, no_cut}
use Rattle.transcript_reader.proofs.quoted.cut_at.Goals as goal

pub returns-in-Some : goal.returns-in-Some
returns-in-Some c =
    let bs = c.args.bytes.now in
    let k = c.in-Some.end in
    let found = c.in-Some.ensures in
    let next : k + 1 ≡ suc k = omega arith in
    cut_found c.args.byte bs k found.0.high (λ j low. found.0.before j (omega arith) low) found.1
    ∙ ap (λ (rest : List ℕ). Some (take k bs, rest)) (ap (λ (n : ℕ). drop n bs) (sym next) ∙ sym (take_rest bs (k + 1)))

pub returns-in-None : goal.returns-in-None
returns-in-None c = no_cut c.args.byte c.args.bytes.now (λ j low. c.in-None.ensures j (omega arith) low)
