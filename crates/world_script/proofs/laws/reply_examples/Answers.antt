use Rattle.std.proofs.Common.{refl}
use Rattle.script_text.proofs.ExampleLemmas.{zero_written, two_written}
use Rattle.world_script.proofs.laws.reply_examples.Goals as goal

pub returns-clause-lines : goal.returns-clause-lines
returns-clause-lines c = rw (zero_written, two_written) refl
