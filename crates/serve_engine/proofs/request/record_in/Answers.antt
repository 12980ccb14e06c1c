use Rattle.script_text.proofs.WordLemmas.{record_and_more}
use Rattle.serve_engine.proofs.request.record_in.Goals as goal

pub returns-in_default-Some : goal.returns-in_default-Some
returns-in_default-Some c =
    let first = rw c.in_default-Some.is-1 at c.cut_word.ensures.words in
    record_and_more c.args.layout.now.records c.args.words.now c.cut_word.result.0.now c.in_default-Some.field-0-1.now first
