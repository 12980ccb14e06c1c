use Rattle.std.proofs.Common.{◌++◌, ◌∙◌, ap, List, ℕ, string_bytes, length, get_or, []}
use Rattle.audit_report.specs.Lines.{texts_below}
use Rattle.audit_report.proofs.SessionLemmas.{rows_told}
use Rattle.audit_report.proofs.tables.session_table.Goals as goal

pub returns : goal.returns
returns c = λ m stands.
    rows_told m c.args.world.now c.in_ok-rows.rows (string_bytes c.push_onto.new.text) c.in_ok-rows.ensures stands
    (c.in_ok-push_onto.ensures ∙ ap (λ (t : List ℕ). t ++ texts_below (length c.in_ok-rows.rows) (λ r. get_or c.in_ok-rows.rows r [])) c.in_ok-text.ensures.ok)
