use Rattle.std.proofs.Common.{rules}
use Rattle.exchange_threads.proofs.telling.Telling.text.Goals as goal

pub returns-then-self-ne0 : goal.returns-then-self-ne0
returns-then-self-ne0 c = search rules
