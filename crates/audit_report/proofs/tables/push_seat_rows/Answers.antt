use Rattle.std.proofs.Common.{string_bytes}
use Rattle.audit_report.specs.Tables.{seat_row}
use Rattle.audit_report.proofs.TextLemmas.{one_text}
use Rattle.audit_report.proofs.tables.push_seat_rows.Goals as goal

pub loop-i-preserved : goal.loop-i-preserved
loop-i-preserved c = λ m stands.
    one_text (seat_row m c.args.r) c.loop-i.i (string_bytes c.args.text.now) (string_bytes c.loop-i.text) (string_bytes c.push_seat_row.new.text)
    (c.loop-i.invariant m stands) (c.in_ok-push_seat_row.ensures m stands)
