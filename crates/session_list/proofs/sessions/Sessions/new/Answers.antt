-- A map with no entries is numbered.
use Rattle.std.proofs.Common.{rules}
use Rattle.session_list.proofs.KeptLemmas.{numbered_empty}
use Rattle.session_list.proofs.sessions.Sessions.new.Goals as goal

pub invariant_of-result : goal.invariant_of-result
invariant_of-result c = search (rules, numbered_empty)
