use Rattle.delta_codec.proofs.WritingLaws.{row_pushed}
use Rattle.delta_codec.proofs.writing.push_row.Goals as goal

pub returns : goal.returns
returns c = row_pushed c.args.row.now _ _ _ _ _ _ _ _ _ _ _ _ c.as_slice.ensures.counters c.from.ensures c.from-2.ensures c.in_ok-push_field.ensures c.in_ok-push_field-2.ensures c.in_ok-push_str.ensures.bytes c.in_ok-push_joined.ensures c.in_ok-push_field-3.ensures c.in_ok-push_field-4.ensures c.in_ok-push_field-5.ensures c.in_ok-push_str-2.ensures.bytes
