use Rattle.std.proofs.Common.{◌≡◌, ◌++◌, ap, ◌∙◌, string_bytes}
use Rattle.delta_codec.specs.DeltaText.{row_text}
use Rattle.text_parts.specs.Lists.{joined}
use Rattle.delta_codec.proofs.WritingLaws.{delta_pushed}
use Rattle.delta_codec.proofs.writing.push_delta.Goals as goal

pub returns : goal.returns
returns c =
    let rows : string_bytes c.push_joined.new.text ≡ string_bytes c.push_str.new.self ++ joined row_text c.args.delta.now.rows = c.in_ok-push_joined.ensures ∙ ap (λ ps. string_bytes c.push_str.new.self ++ joined row_text ps) c.rows.ensures.rows in
    delta_pushed c.args.delta.now _ _ _ _ _ _ (c.from.ensures ∙ c.from_site.ensures.label) c.in_ok-push_field.ensures c.in_ok-push_str.ensures.bytes rows c.in_ok-push_str-2.ensures.bytes
