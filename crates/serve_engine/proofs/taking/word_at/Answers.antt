use Rattle.std.proofs.Common.{arith}
use Rattle.std.proofs.lemmas.Bool.Decides.{nat_tests}
use Rattle.serve_engine.proofs.WordLemmas.{first_word, no_first_word, one_word_only}
use Rattle.serve_engine.proofs.taking.word_at.Goals as goal

pub returns-in_default : goal.returns-in_default
returns-in_default c = one_word_only c.args.bytes.now c.cut_word.result.0.now (rw c.in_default.is at c.cut_word.ensures.words)

pub returns-then-is_empty : goal.returns-then-is_empty
returns-then-is_empty c =
    no_first_word c.args.bytes.now c.cut_word.result.0.now c.in-Some.rest.now (rw c.in-Some.is at c.cut_word.ensures.words) (grind (arith, nat_tests))

pub returns : goal.returns
returns c = (
  first_word c.args.bytes.now c.cut_word.result.0.now c.in-Some.rest.now (rw c.in-Some.is at c.cut_word.ensures.words) (grind (arith, nat_tests)),
  rw c.in-Some.is at c.cut_word.ensures.bytes,
)
