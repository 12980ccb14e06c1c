use Rattle.std.proofs.Common.{◌≡◌, ◌∷◌, ◌∙◌}
use Rattle.script_text.specs.Words.{words_of}
use Rattle.world_script.proofs.WordLemmas.{verb_and_more}
use Rattle.world_script.proofs.events.event_at.Goals as goal

pub returns : goal.returns
returns c =
    let first = rw c.in-Some.is at c.cut_word.ensures.words in
    c.event_behind.ensures ∙ verb_and_more c.args.layout.now.records c.args.site c.args.bytes.now c.cut_word.result.0.now c.in-Some.words.now first
