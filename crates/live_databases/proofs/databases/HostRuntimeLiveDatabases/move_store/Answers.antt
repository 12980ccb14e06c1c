use Rattle.sqlite_wal.specs.Files.{image_at}
use Rattle.live_databases.proofs.MoveLemmas.{matched}
use Rattle.live_databases.proofs.UntoldLemmas.{moves_some, untold_unmoved}
use Rattle.live_databases.proofs.databases.HostRuntimeLiveDatabases.move_store.Goals as goal

pub returns : goal.returns
returns c =
    matched _ _ _ _ c.regroup_found.result (λ text found. moves_some _ c.args.layout c.args.site c.args.group.now _ _ found)
    (λ ended unmoved. untold_unmoved c.args.layout c.args.site c.requires _ c.args.group.now _ ended unmoved) c.regroup_found.ensures
