use Rattle.std.proofs.Common.{rules, ◌≡◌, ◌∙◌, true, List, ap}
use Rattle.merge_core.specs.Delta.{DeltaState}
use Rattle.rebuild_engine.specs.Parts.{is_alone, is_moved_name}
use Rattle.rebuild_engine.specs.Shown.{shown_text}
use Rattle.rebuild_engine.proofs.PartLemmas.{has_built}
use Rattle.rebuild_engine.proofs.rebuilding.rebuilt_site.Goals as goal

pub returns-in-Ok-shown_text : goal.returns-in-Ok-shown_text
returns-in-Ok-shown_text c =
    let core = c.in_ok-core.core in
    let moved : is_moved_name c.args.name.now ≡ true = search rules in
    has_built c.args.layout c.in_ok-core.ensures.layout c.args.site c.args.lost.now c.args.name.now c.args.bytes.now core c.in_ok-core.deltas.items c.in-Ok.cells.items _
    moved c.in_ok-core.ensures.answer c.in-Ok.ensures
    (λ a stands. c.in-Ok-shown_text.ensures a stands ∙ ap (λ (ds : List DeltaState). shown_text a core.layout (is_alone c.args.lost.now) ds) c.deref.ensures.value)
