use Rattle.program_shell.proofs.RefusalLemmas.{says_both}
use Rattle.std.proofs.Common.{rules}
use Rattle.program_shell.proofs.refused_layout.end_without_layout.Goals as goal

pub returns : goal.returns
returns g c = record {
  status = search rules;
  said = search (says_both, rules);
}
