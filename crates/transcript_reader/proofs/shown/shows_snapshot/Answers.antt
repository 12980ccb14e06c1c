use Rattle.std.proofs.Common.{◌≡◌, codes, subst}
use Rattle.merge_core.specs.Layout.{IsLayout}
use Rattle.transcript_reader.proofs.ShownLemmas.{shows}
use Rattle.transcript_reader.proofs.shown.shows_snapshot.Goals as goal

pub returns-in-Some : goal.returns-in-Some
returns-in-Some c = λ truth.
    shows c.args.core.now c.args.line.now c.in-Ok._pass c.in-Ok.rest.now c.in-Some.rest.now (subst IsLayout c.layout.ensures c.sites.ensures.layout)
    c.in-Ok.ensures c.in-Some.ensures (c.is_same.ensures.0 truth)
