use Rattle.crossbeam_channel.specs.Claims.{view}
use Rattle.ordered_link.proofs.Rules.{takes, took_texts, took_word}
use Rattle.ordered_link.proofs.ends.take_parcel.Goals as goal

pub recv_as-requires-clause-rule : goal.recv_as-requires-clause-rule
recv_as-requires-clause-rule g c = (takes _ _ c.requires.role, λ items views rule at. tt)

pub returns-in-Ok-clause-taken : goal.returns-in-Ok-clause-taken
returns-in-Ok-clause-taken g c = took_texts (view c.args.pass.now) (view c.recv_as.new.pass) c.in-Ok.parcel c.in-Ok.ensures.rule

pub returns-in-Ok-clause-ended : goal.returns-in-Ok-clause-ended
returns-in-Ok-clause-ended g c = took_word (view c.args.pass.now) (view c.recv_as.new.pass) c.in-Ok.parcel c.in-Ok.ensures.rule
