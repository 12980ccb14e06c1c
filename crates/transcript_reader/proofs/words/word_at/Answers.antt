use Rattle.std.proofs.Common.{sym, ◌∙◌, arith}
use Rattle.transcript_reader.proofs.CutLemmas.{word_found, no_word}
use Rattle.transcript_reader.proofs.words.word_at.Goals as goal

pub returns-then-ends_word : goal.returns-then-ends_word
returns-then-ends_word c =
    sym (word_found c.args.bytes.now c.loop-end.end c.loop-end-test.true c.loop-end.invariant (sym c.ends_word.ensures ∙ c.if-ends_word.true))

pub returns : goal.returns
returns c = sym (no_word c.args.bytes.now (λ j low. c.loop-end.invariant j (omega (arith, low, c.loop-end-test.false))))
