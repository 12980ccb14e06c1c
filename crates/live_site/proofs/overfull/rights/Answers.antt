use Rattle.admission_core.proofs.CoreLemmas.{rights_shown}
use Rattle.live_site.proofs.overfull.rights.Goals as goal

pub returns : goal.returns
returns c =
    let shown = rights_shown c.args.core.now c.requires.core c.args.r c.requires.record in cc
