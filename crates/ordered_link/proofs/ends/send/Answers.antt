use Rattle.crossbeam_channel.specs.Claims.{view}
use Rattle.ordered_link.proofs.Rules.{puts, put_on, put_back, finished_on, finished_back, late_on, late_back}
use Rattle.ordered_link.proofs.ends.send.Goals as goal
use Rattle.ordered_link.proofs.ends.send.Goals.{in-Ok, in-Err}

pub send_as-requires-clause-rule : goal.send_as-requires-clause-rule
send_as-requires-clause-rule g c = (puts _ _ _ _ c.requires.capacity c.requires.role, λ items views rule at. tt)

pub returns-clause-put : goal.returns-clause-put
returns-clause-put g c = elim c.match-send_as.branch [
  | in-Ok w ↦ put_on (view c.args.pass.now) (view c.send_as.new.pass) c.args.parcel c.match-send_as.result w.result-is w.in-Ok.ensures.rule
  | in-Err w ↦ put_back (view c.args.pass.now) (view c.send_as.new.pass) c.args.parcel c.match-send_as.result w.result-is w.in-Err.ensures.rule.1
]

pub returns-clause-finished : goal.returns-clause-finished
returns-clause-finished g c = elim c.match-send_as.branch [
  | in-Ok w ↦ finished_on (view c.args.pass.now) (view c.send_as.new.pass) c.args.parcel c.match-send_as.result w.result-is w.in-Ok.ensures.rule
  | in-Err w ↦ finished_back (view c.args.pass.now) (view c.send_as.new.pass) c.args.parcel c.match-send_as.result w.result-is w.in-Err.ensures.rule.1
]

pub returns-clause-late : goal.returns-clause-late
returns-clause-late g c = elim c.match-send_as.branch [
  | in-Ok w ↦ late_on (view c.args.pass.now) (view c.send_as.new.pass) c.args.parcel c.match-send_as.result w.result-is w.in-Ok.ensures.rule
  | in-Err w ↦ late_back (view c.args.pass.now) (view c.send_as.new.pass) c.args.parcel c.match-send_as.result w.result-is w.in-Err.ensures.rule.1
]
