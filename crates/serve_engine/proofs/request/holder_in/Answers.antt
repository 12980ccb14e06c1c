use Rattle.script_text.proofs.WordLemmas.{holder_and_more}
use Rattle.serve_engine.proofs.request.holder_in.Goals as goal

pub returns-in_default-Some-cut_word : goal.returns-in_default-Some-cut_word
returns-in_default-Some-cut_word c =
    let first = rw c.in_default-Some.is-1 at c.cut_word.ensures.words in
    let second = rw (c.in_default-Some-cut_word.is-1, c.in_default-Some.rest-is) at c.cut_word-2.ensures.words in
    holder_and_more c.args.layout.now.records c.args.words.now c.cut_word.result.0.now c.in_default-Some.rest.now c.cut_word-2.result.0.now c.in_default-Some-cut_word.field-0-1.now first second
