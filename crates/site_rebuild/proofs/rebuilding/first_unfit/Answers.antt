use Rattle.std.proofs.Common.{◌<◌, length, sym, subst, ◌∙◌, arith}
use Rattle.std.proofs.lemmas.Bool.{false≢true}
use Rattle.std.proofs.lemmas.List.{get_or_default}
use Rattle.merge_core.specs.Book.{book_shape}
use Rattle.site_rebuild.specs.Rebuilt.{IsFit}
use Rattle.site_rebuild.proofs.RebuiltLemmas.{each_turn}
use Rattle.site_rebuild.proofs.rebuilding.first_unfit.Goals as goal

pub loop-i-init : goal.loop-i-init
loop-i-init c = λ k d below. absurd (omega arith)

pub loop-i-preserved : goal.loop-i-preserved
loop-i-preserved c =
    each_turn (IsFit (book_shape c.args.book.now)) c.args.deltas.now c.loop-i.i c.index-deltas-i.result (omega arith) c.index-deltas-i.is c.loop-i.invariant
    (c.is_fit.ensures.0 c.if-not-is_fit.false)

pub returns-then-not-is_fit : goal.returns-then-not-is_fit
returns-then-not-is_fit c =
    let there : c.loop-i.i < length c.args.deltas.now = omega arith in
    record {
      there = there;
      unfit = λ m fits.
          false≢true (sym c.if-not-is_fit.true
          ∙ c.is_fit.ensures.1 (subst (IsFit (book_shape c.args.book.now)) (sym (c.index-deltas-i.is ∙ get_or_default c.args.deltas.now c.loop-i.i c.index-deltas-i.result m there)) fits));
      before = c.loop-i.invariant;
    }

pub returns : goal.returns
returns c = λ k d below. c.loop-i.invariant k d (omega arith)
