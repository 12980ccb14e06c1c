use Rattle.std.proofs.Common.{◌≡◌, Bool, true, false, refl, sym, ◌∙◌, eqb, eq-eqb, eqb-true}
use Rattle.std.proofs.lemmas.Bool.{false≢true}
use Rattle.merge_core.specs.Tests.{overfull}
use Rattle.merge_core.proofs.TestLemmas.{few_moved-from, overfull-none}
use Rattle.merge_core.proofs.book.validity.has_few_moved.Goals as goal

pub returns : goal.returns
returns c = at c.are_limited.result refl (eqb (overfull c.args.row.now) 0) refl
  where
    at : (b : Bool) → c.are_limited.result ≡ b → (t : Bool) → eqb (overfull c.args.row.now) 0 ≡ t → c.are_limited.result ≡ eqb (overfull c.args.row.now) 0
    at true e t few =
        e
        ∙ sym (eq-eqb (overfull c.args.row.now) 0 (overfull-none c.args.row.now (rw c.from.ensures at (c.are_limited.ensures.0 e))))
    at false e true few =
        absurd (false≢true (sym e ∙ c.are_limited.ensures.1 (rw c.from.ensures (few_moved-from c.args.row.now (eqb-true (overfull c.args.row.now) 0 few)))))
    at false e false few = e ∙ sym few
