use denote.Param.{param}
use denote.Param.Send.{IsSend, IsSync, sendable}
use Rattle.std.proofs.Crossing.{crosses}
use Rattle.session_book.specs.contracts.site.Site as site
use Rattle.session_book.proofs.Sharing.{site_sync}
use Rattle.run_engine.proofs.tasks.Task.TheSendSync as task
use Rattle.run_engine.proofs.tasks.start_task.Goals as goal

pub spawn_with-requires-send-F : goal.spawn_with-requires-send-F
spawn_with-requires-send-F g c κs within =
    let shared : IsSync (site.the_row (param 1 g.row.K) (param 2 g.row.L) g.K.Keeper g.L.Opening g.L.Ledger) = site_sync (param 1 g.row.K) g.K.Keeper (param 2 g.row.L) g.L.Opening g.L.Ledger c.type_bounds.send-K in
    let runtime : IsSync (param 3 g.row.R) = c.type_bounds.sync-R in
    let name : IsSend (param 2 g.row.L) = c.type_bounds.send-L in
    search (crosses, sendable, task.the_send) depth 60 fits 20000
