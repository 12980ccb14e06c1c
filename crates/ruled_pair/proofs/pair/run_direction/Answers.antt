use denote.Param.{param}
use denote.Param.Send.{IsSend, IsSync, sendable}
use Rattle.std.proofs.Crossing.{crosses}
use Rattle.session_book.specs.contracts.site.Site as site
use Rattle.session_book.proofs.Sharing.{site_sync}
use Rattle.session_book.proofs.pass.Pass.TheSendSync as pass
use Rattle.ruled_pair.proofs.inlet.RuledInlet.TheSendSync as inlet
use Rattle.ruled_pair.proofs.pair.run_direction.Goals as goal

pub join_mut-got-requires-send-F : goal.join_mut-got-requires-send-F
join_mut-got-requires-send-F g c κs within =
    let shared : IsSync (site.the_row (param 3 g.row.N) (param 4 g.row.M) g.N.Keeper g.M.Opening g.M.Ledger) = site_sync (param 3 g.row.N) g.N.Keeper (param 4 g.row.M) g.M.Opening g.M.Ledger c.type_bounds.send-N in
    let runtime : IsSync (param 5 g.row.R) = c.type_bounds.sync-R in
    let name : IsSend (param 4 g.row.M) = c.type_bounds.send-M in
    search (crosses, sendable, pass.the_send, inlet.the_send) depth 60 fits 20000
