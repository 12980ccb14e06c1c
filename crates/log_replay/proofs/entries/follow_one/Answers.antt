use Rattle.std.proofs.Common.{sym, ◌∙◌}
use Rattle.admission_model.specs.View.{view_of}
use Rattle.log_replay.proofs.EntryLemmas.{fault_is_other}
use Rattle.log_replay.proofs.entries.follow_one.Goals as goal

pub returns-then-is_fault-clause-same : goal.returns-then-is_fault-clause-same
returns-then-is_fault-clause-same c = λ a stands. fault_is_other c.args.entry.now.reply (view_of a) c.args.entry.now.call (sym c.is_fault.ensures ∙ c.if-is_fault.true)
