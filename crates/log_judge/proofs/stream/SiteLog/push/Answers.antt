use Rattle.std.proofs.Common.{refl}
use Rattle.log_judge.proofs.stream.SiteLog.push.Goals as goal

pub returns : goal.returns
returns c = record { same = refl; dropped = refl; it = record { at = c.args.at; delta = c.args.delta }; items = c.in_ok-push.ensures.items; at_is = refl; rows_are = refl }
