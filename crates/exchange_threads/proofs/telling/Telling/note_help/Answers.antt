use Rattle.std.proofs.Common.{rules}
use Rattle.exchange_threads.proofs.telling.Telling.note_help.Goals as goal

pub returns-in_default-turn-clause-report : goal.returns-in_default-turn-clause-report
returns-in_default-turn-clause-report c = search rules
