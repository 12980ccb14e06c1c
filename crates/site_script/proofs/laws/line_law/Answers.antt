use Rattle.site_script.proofs.LawLemmas.{one_said}
use Rattle.site_script.proofs.laws.line_law.Goals as goal

pub returns : goal.returns
returns c = one_said
