use Rattle.std.proofs.lemmas.Result.{IfOk-weaker}
use Rattle.std.specs.String.{string_bytes}
use Rattle.audit_report.proofs.TextLemmas.{view_with}
use Rattle.audit_report.proofs.rows.Rows.push_session.Goals as goal

pub returns : goal.returns
returns c = IfOk-weaker c.push_session_line.result _ _ (λ x grown. view_with string_bytes c.self.inside.texts.items c.args.self.now c.args.session.r c.from.result c.index_mut-text.result.now c.push_session_line.new.text _ c.self.view_is c.from.ensures c.index_mut-text.ensures.value c.requires grown) c.push_session_line.ensures
