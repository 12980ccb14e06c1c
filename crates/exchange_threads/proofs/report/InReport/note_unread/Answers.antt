use Rattle.std.proofs.Common.{rules}
use Rattle.exchange_threads.proofs.report.InReport.note_unread.Goals as goal

pub returns : goal.returns
returns c = search rules
