use Rattle.live_databases.proofs.MoveLemmas.{matched}
use Rattle.live_databases.proofs.UntoldLemmas.{rebuilds_none, rebuilds_some}
use Rattle.live_databases.proofs.databases.HostRuntimeLiveDatabases.rebuild_store.Goals as goal

pub returns : goal.returns
returns c =
    matched _ _ _ _ c.rebuild_found.result (λ text found. rebuilds_some c.args.layout c.args.site c.args.lost.now c.args.name.now c.args.bytes.now _ _ _ found)
    (λ ended none. rebuilds_none c.args.layout c.args.site c.args.lost.now c.args.name.now c.args.bytes.now _ _ ended none) c.rebuild_found.ensures
