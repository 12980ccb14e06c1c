use Rattle.std.proofs.Common.{◌≡◌, ◌++◌, ◌∷◌, [], length, ap, ◌∙◌, arith, length-append}
use Rattle.session_book.specs.Passes.{receipts_in}
use Rattle.session_book.proofs.PassLemmas.{receipts_in-push}
use Rattle.session_book.proofs.closing.gathered.Goals as goal

pub passes-preserved : goal.passes-preserved
passes-preserved g c =
    let items : c.passes.passes.items ≡ c.pop.new.self.items ++ c.in-Some.pass ∷ [] = c.in-Some.ensures.items in
    record {
      parts = omega (arith, c.merge.ensures.parts, c.into_share.ensures.parts, c.passes.invariant.parts, simp length-append at (ap length items));
      amount = omega (arith, c.merge.ensures.amount, c.into_share.ensures.amount, c.passes.invariant.amount, ap receipts_in items ∙ receipts_in-push c.pop.new.self.items c.in-Some.pass);
    }
