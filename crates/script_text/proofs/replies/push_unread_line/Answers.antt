use Rattle.std.proofs.Common.{◌++◌, List, ℕ, ap, ◌∙◌, append_assoc, codes, decimal}
use Rattle.script_text.proofs.replies.push_unread_line.Goals as goal

pub returns : goal.returns
returns c =
    c.in_ok-push_str.ensures.bytes
    ∙ (ap (λ (t : List ℕ). t ++ codes " refused BadWord\n") c.in_ok-push_field.ensures
    ∙ append_assoc _ (codes "line " ++ decimal c.args.number) (codes " refused BadWord\n"))
