use Rattle.script_text.proofs.WordLemmas.{gift_and_more}
use Rattle.script_text.proofs.asks.gift_in.Goals as goal

pub returns-in_default-Some-cut_word-2 : goal.returns-in_default-Some-cut_word-2
returns-in_default-Some-cut_word-2 c =
    let first = rw c.in_default-Some.is-1 at c.cut_word.ensures.words in
    let second = rw (c.in_default-Some-cut_word.is-1, c.in_default-Some.rest-is) at c.cut_word-2.ensures.words in
    let third = rw (c.in_default-Some-cut_word-2.is-1, c.in_default-Some-cut_word.rest-is) at c.cut_word-3.ensures.words in
    gift_and_more c.args.layout.now.records c.args.words.now c.cut_word.result.0.now c.in_default-Some.rest.now c.cut_word-2.result.0.now c.in_default-Some-cut_word.rest.now c.cut_word-3.result.0.now c.in_default-Some-cut_word-2.field-0-1.now first second third
