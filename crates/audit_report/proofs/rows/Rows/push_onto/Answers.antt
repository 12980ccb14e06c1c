use Rattle.std.proofs.Common.{[], get_or, map, ap, ◌∙◌, ◌++◌, List, ℕ}
use Rattle.std.specs.String.{string_bytes}
use Rattle.audit_report.proofs.TextLemmas.{one_text, in_view}
use Rattle.audit_report.proofs.rows.Rows.push_onto.Goals as goal

pub loop-lines-preserved : goal.loop-lines-preserved
loop-lines-preserved c =
    one_text (λ r. get_or c.args.self.now r []) c.loop-lines.lines-index (string_bytes c.args.text.now) (string_bytes c.loop-lines.text) (string_bytes c.push_str.new.self) c.loop-lines.invariant
    (c.in_ok-push_str.ensures.bytes ∙ ap (λ (t : List ℕ). string_bytes c.loop-lines.text ++ t) (c.as_str.ensures.value ∙ in_view string_bytes c.deref-lines-items.result.now c.args.self.now c.loop-lines.lines-index c.lines-item.result (ap (map string_bytes) c.deref-lines-items.ensures.value ∙ c.self.view_is) c.lines-item.is c.loop-lines-test.true))
