use Rattle.transcript_text.proofs.WritingLemmas.{front_pushed}
use Rattle.std.proofs.Common.{◌∙◌}
use Rattle.transcript_text.proofs.openings.push_front.Goals as goal

pub returns : goal.returns
returns c =
    front_pushed c.args.layout.now.records c.args.site c.from.result c.args.told.now c.args.sessions.now c.as_str.result.now _ _ _ _ _ _
    (c.as_str.ensures.value ∙ c.in_ok-book.ensures) c.from.ensures
    c.in_ok-push_str.ensures.bytes c.in_ok-push_escaped.ensures c.in_ok-push_str-2.ensures.bytes c.in_ok-push_sessions.ensures c.in_ok-push_field.ensures
