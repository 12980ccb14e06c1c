use Rattle.std.proofs.Common.{◌≡◌, ◌++◌, ℕ, codes, decimal, subst}
use Rattle.merge_core.specs.Lent.{lent_row}
use Rattle.transcript_text.specs.Quoted.{escaped}
use Rattle.transcript_reader.proofs.ShownLemmas.{row_of_parts, then_some}
use Rattle.transcript_reader.proofs.shown.behind_row.Goals as goal

pub returns : goal.returns
returns c =
    then_some c.behind.result _ _
    (λ rest e. row_of_parts (lent_row c.args.row.now) c.args.bytes.now c.in_ok-rest.rest.now c.in_ok-rest-2.rest.now c.in_ok-rest-3.rest.now c.in_ok-rest-4.rest.now c.in_ok-rest-5.rest.now c.in_ok-rest-6.rest.now rest.now
    c.in_ok-rest.ensures c.in_ok-rest-2.ensures c.in_ok-rest-3.ensures
    (subst (λ (n : ℕ). c.in_ok-rest-3.rest.now ≡ codes "],\\\"r\\\":" ++ (escaped (decimal n) ++ c.in_ok-rest-4.rest.now)) c.from.ensures c.in_ok-rest-4.ensures)
    (subst (λ (n : ℕ). c.in_ok-rest-4.rest.now ≡ codes ",\\\"s\\\":" ++ (escaped (decimal n) ++ c.in_ok-rest-5.rest.now)) c.from-2.ensures c.in_ok-rest-5.ensures)
    c.in_ok-rest-6.ensures e)
    c.behind.ensures
