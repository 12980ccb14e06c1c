use Rattle.std.proofs.Common.{◌≡◌, ◌∙◌, List, ℕ, Some, inl, subst}
use Rattle.serve_engine.specs.Marks.{IsFault, IsMarked, mark_of, records_digest}
use Rattle.serve_engine.specs.Moved.{moved_word}
use Rattle.serve_engine.proofs.MovedLemmas.{taken_err, taken_ok}
use Rattle.serve_engine.proofs.moved_texts.told_text.Goals as goal

pub returns-in-Ok-taken : goal.returns-in-Ok-taken
returns-in-Ok-taken c =
    let word : c.as_str.result.now ≡ moved_word c.args.name.now = c.as_str.ensures.value ∙ c.in-Ok.ensures in
    let text = c.in-Ok-taken.text.now in
    inl (subst (λ (w : List ℕ). IsMarked c.args.line.now (mark_of (Some w) (records_digest c.args.layout.now.records) text) text) word
    (taken_ok _ _ _ _ c.in-Ok-taken.is c.in-Ok-text_behind.ensures))

pub sent_text-requires : goal.sent_text-requires
sent_text-requires c =
    let word : c.as_str.result.now ≡ moved_word c.args.name.now = c.as_str.ensures.value ∙ c.in-Ok.ensures in
    subst (λ (w : List ℕ). IsFault (Some w) (records_digest c.args.layout.now.records) c.args.line.now c.in-Err.fault) word
    (taken_err _ _ _ _ c.in-Err.is c.in-Ok-text_behind.ensures)
