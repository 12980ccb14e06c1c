use denote.Param.{param}
use denote.Param.Send.{IsSend, IsSync, sendable}
use Rattle.std.proofs.Crossing.{crosses}
use Rattle.session_book.specs.contracts.site.Site as site
use Rattle.session_book.proofs.Sharing.{site_sync}
use Rattle.run_engine.proofs.tasks.Caller.TheSendSync as caller
use Rattle.run_engine.proofs.pairs.call_both.Goals as goal

pub join_mut-requires-send-F : goal.join_mut-requires-send-F
join_mut-requires-send-F g c κs within =
    let shared : IsSync (site.the_row (param 0 g.row.K) (param 1 g.row.L) g.K.Keeper g.L.Opening g.L.Ledger) = site_sync (param 0 g.row.K) g.K.Keeper (param 1 g.row.L) g.L.Opening g.L.Ledger c.type_bounds.send-K in
    let runtime : IsSync (param 4 g.row.R) = c.type_bounds.sync-R in
    let name : IsSend (param 1 g.row.L) = c.type_bounds.send-L in
    search (crosses, sendable, caller.the_send) depth 60 fits 20000
