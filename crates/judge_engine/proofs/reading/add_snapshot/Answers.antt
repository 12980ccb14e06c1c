use Rattle.std.proofs.Common.{rules, refl}
use Rattle.std.specs.Prelude.{IsTrue}
use Rattle.transcript_reader.specs.Shown.{snapshot_entry}
use Rattle.judge_engine.proofs.ReadingLemmas.{adds_knows, adds_ready, knows_some}
use Rattle.judge_engine.proofs.reading.add_snapshot.Goals as goal

pub is_snapshot_line-requires-clause-site : goal.is_snapshot_line-requires-clause-site
is_snapshot_line-requires-clause-site c = let it = c.requires in (knows_some it.0 it.1 it.2 it.3 it.4 c.args.site c.args.logs.now it.5).1

pub is_snapshot_line-requires-clause-some : goal.is_snapshot_line-requires-clause-some
is_snapshot_line-requires-clause-some c = let it = c.requires in (knows_some it.0 it.1 it.2 it.3 it.4 c.args.site c.args.logs.now it.5).0

pub add_snapshot-requires : goal.add_snapshot-requires
add_snapshot-requires c =
    let it = c.requires in
    let truth : IsTrue c.is_snapshot_line.result = search rules in
    let shown = c.is_snapshot_line.ensures truth in
    let e = snapshot_entry shown.2.pass shown.0 in
    let ready = adds_ready it.0 it.1 it.2 it.3 it.4 c.args.site c.args.logs.now e shown.2.fits it.5 in
    (ready.0, ready.1, ready.2, ready.3, ready.4, e, ready.5, ready.6, ready.7, ready.8)

pub returns-clause-added : goal.returns-clause-added
returns-clause-added c = λ yes layout cut keeping earlier front knows.
    let truth : IsTrue c.is_snapshot_line.result = search rules in
    let shown = c.is_snapshot_line.ensures truth in
    let e = snapshot_entry shown.2.pass shown.0 in
    let facts = c.in_ok-add_snapshot.ensures in
    adds_knows layout cut keeping earlier front c.args.site c.args.logs.now c.add_snapshot.new.self c.args.line.now e shown.2.fits (shown.2.text layout.records) knows facts.keeping
    (facts.logs shown.0 e shown.1 (refl, refl))
