-- Threads may share a site whose keeper may go to another thread. The check finds this by itself for a type that has no
-- snapshot in it. A desk has one, which may go to any thread; so its parts, and the tokens of a ledger, are listed here.
use denote.RattleType.{RattleType}
use denote.Param.Send.{IsSend, IsSync, sendable}
use Rattle.std.proofs.Crossing.{crosses}
use Rattle.std.proofs.sync.Mutex.TheSendSync as mutex
use Rattle.std.proofs.sync.ledger.Book.TheSendSync as book
use Rattle.std.proofs.sync.ledger.Share.TheSendSync as share
use Rattle.std.specs.declared.sync.ledger.Ledger as ledger
use Rattle.merge_core.proofs.layout.Layout.TheSendSync as layout
use Rattle.admission_core.proofs.durable.Durable.TheSendSync as durable
use Rattle.admission_core.proofs.site_core.SiteCore.TheSendSync as core
use Rattle.durable_keeper.specs.declared.keeper.Keeper as keeper
use Rattle.desk_log.specs.contracts.desk.Desk as desk
use Rattle.desk_log.proofs.log.Log.TheSendSync as log
use Rattle.session_book.specs.declared.opening.Opening as opening
use Rattle.session_book.specs.contracts.locked.Locked as locked
use Rattle.session_book.specs.contracts.site.Site as site

module _ (K : RattleType) (g : keeper.Ghosts K.Denot) where
  desk_send : IsSend K → IsSend (desk.the_row K g)
  desk_send s = search (crosses, sendable, core.the_send, log.the_send) depth 60 fits 20000

  module _ (L : RattleType) (o : opening.Ghosts L.Denot) (l : ledger.Ghosts L.Denot) where
    locked_send : IsSend K → IsSend (locked.the_row K L g o l)
    locked_send s = search (crosses, sendable, desk_send, book.the_send, share.the_send) depth 60 fits 20000

    pub site_sync : IsSend K → IsSync (site.the_row K L g o l)
    site_sync s = let inside = mutex.the_sync (locked.the_row K L g o l) (locked_send s) in
        search (crosses, sendable, layout.the_sync, durable.the_sync) depth 60 fits 20000
