use denote.Param.{param}
use denote.Param.Send.{IsSend, IsSync, sendable}
use Rattle.std.proofs.Crossing.{crosses}
use Rattle.session_book.specs.contracts.site.Site as site
use Rattle.session_book.proofs.Sharing.{site_sync}
use Rattle.ruled_pair.proofs.pair.RuledEnd.TheSendSync as end
use Rattle.run_engine.proofs.tasks.AlwaysOpen.TheSendSync as gate
use Rattle.run_engine.proofs.pairs.work_both.Goals as goal

pub join_mut-linked-requires-send-F : goal.join_mut-linked-requires-send-F
join_mut-linked-requires-send-F g c κs within =
    let first : IsSync (site.the_row (param 0 g.row.K) (param 1 g.row.L) g.K.Keeper g.L.Opening g.L.Ledger) = site_sync (param 0 g.row.K) g.K.Keeper (param 1 g.row.L) g.L.Opening g.L.Ledger c.type_bounds.send-K in
    let second : IsSync (site.the_row (param 2 g.row.N) (param 3 g.row.M) g.N.Keeper g.M.Opening g.M.Ledger) = site_sync (param 2 g.row.N) g.N.Keeper (param 3 g.row.M) g.M.Opening g.M.Ledger c.type_bounds.send-N in
    let runtime : IsSync (param 4 g.row.R) = c.type_bounds.sync-R in
    let name : IsSend (param 1 g.row.L) = c.type_bounds.send-L in
    let other : IsSend (param 3 g.row.M) = c.type_bounds.send-M in
    search (crosses, sendable, end.the_send, gate.the_send) depth 60 fits 20000
