use Rattle.std.proofs.Common.{rules}
use denote.Param.{param}
use denote.Param.Send.{IsSend, IsSync, sendable}
use Rattle.std.proofs.Crossing.{crosses}
use Rattle.session_book.specs.contracts.site.Site as site
use Rattle.session_book.proofs.Sharing.{site_sync}
use Rattle.session_book.proofs.pass.Pass.TheSendSync as pass
use Rattle.ruled_pair.proofs.pair.Direction.TheSendSync as direction
use Rattle.ruled_pair.proofs.pair.run_both.Goals as goal

pub join_mut-requires-send-F : goal.join_mut-requires-send-F
join_mut-requires-send-F g c κs within =
    let first : IsSync (site.the_row (param 0 g.row.K) (param 1 g.row.L) g.K.Keeper g.L.Opening g.L.Ledger) = site_sync (param 0 g.row.K) g.K.Keeper (param 1 g.row.L) g.L.Opening g.L.Ledger c.type_bounds.send-K in
    let second : IsSync (site.the_row (param 3 g.row.N) (param 4 g.row.M) g.N.Keeper g.M.Opening g.M.Ledger) = site_sync (param 3 g.row.N) g.N.Keeper (param 4 g.row.M) g.M.Opening g.M.Ledger c.type_bounds.send-N in
    let runtime : IsSync (param 6 g.row.R) = c.type_bounds.sync-R in
    let name : IsSend (param 1 g.row.L) = c.type_bounds.send-L in
    let other : IsSend (param 4 g.row.M) = c.type_bounds.send-M in
    let gate : IsSend (param 2 g.row.G) = c.type_bounds.send-G in
    search (crosses, sendable, pass.the_send, direction.the_send) depth 60 fits 20000

pub returns-clause-there : goal.returns-clause-there
returns-clause-there g c = search rules depth 30 fits 20000

pub returns-clause-back : goal.returns-clause-back
returns-clause-back g c = search rules depth 30 fits 20000
