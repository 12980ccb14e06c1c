use Rattle.std.proofs.Common.{◌==◌, ap, arith}
use Rattle.script_text.proofs.WordLemmas.{first_slice, only_word}
use Rattle.script_text.proofs.words.cut_word.Goals as goal

pub returns-in-Some-clause-words : goal.returns-in-Some-clause-words
returns-in-Some-clause-words c =
    let found = c.in-Some.ensures in
    first_slice c.args.line.now c.in-Some.end found.0.high (λ j low. found.0.before j (omega arith) low) found.1

pub returns-in-None-clause-words : goal.returns-in-None-clause-words
returns-in-None-clause-words c = only_word c.args.line.now (λ j low. c.in-None.ensures j (omega arith) low)

pub returns-then-line-end-eq32-clause-words : goal.returns-then-line-end-eq32-clause-words
returns-then-line-end-eq32-clause-words c =
    first_slice c.args.line.now c.loop-end.end c.loop-end-test.true c.loop-end.invariant (ap (λ b. b == 32) c.if-line-end-eq32.true)

pub returns-clause-words : goal.returns-clause-words
returns-clause-words c = only_word c.args.line.now (λ j low. c.loop-end.invariant j (omega arith))
