use Rattle.std.proofs.Common.{rules, ◌≡◌, ℕ, List, inr, Ok, subst, ap}
use Rattle.merge_core.specs.declared.layout.RecordSpec.{RecordSpec}
use Rattle.merge_core.specs.Layout.{LayoutState}
use Rattle.multi_site_world.specs.World.{start_world}
use Rattle.multi_site_world.specs.Worlds.{MayBeFirst, StandsForWorld}
use Rattle.text_input.specs.Input.{ReadsInput}
use Rattle.play_engine.specs.Plays.{AnswersScript, first_sites}
use Rattle.exit_status.proofs.EngineLemmas.{too_long}
use Rattle.play_engine.proofs.ScriptLemmas.{ends_script}
use Rattle.play_engine.proofs.scripts.play_engine.Goals as goal

pub returns-in-Ok-read_input : goal.returns-in-Ok-read_input
returns-in-Ok-read_input g c =
    let layout = c.args.layout in
    let first = first_sites c.args.first layout in
    let begun : MayBeFirst first layout × StandsForWorld (start_world first layout) c.in-Ok.world =
    subst (λ (n : ℕ). MayBeFirst n layout × StandsForWorld (start_world n layout) c.in-Ok.world) c.first_sites-first.ensures c.in-Ok.ensures.begun in
    let bytes = c.as_slice.result.now in
    let read : ReadsInput c.args.source.now c.read_input.new.source (Ok bytes) = search rules in
    ends_script layout c.args.first c.args.tables c.args.source.now c.read_input.new.source c.args.sink.now c.answer_script.new.sink bytes c.answer_script.result
    begun.0 read
    (subst (λ (records : List RecordSpec). AnswersScript (start_world first layout) records c.args.tables bytes c.args.sink.now c.answer_script.new.sink c.answer_script.result)
    (ap (λ (l : LayoutState). l.records) begun.1.layout) (c.answer_script.ensures (start_world first layout) begun.1))

pub returns-in-Err-TooLong : goal.returns-in-Err-TooLong
returns-in-Err-TooLong g c =
    let layout = c.args.layout in
    let begun : MayBeFirst (first_sites c.args.first layout) layout =
    subst (λ (n : ℕ). MayBeFirst n layout) c.first_sites-first.ensures c.in-Ok.ensures.begun.0 in (
      begun,
      inr (
        too_long c.args.source.now c.read_input.new.source c.in-Err-TooLong.field-0 c.in-Err-TooLong.field-0-is c.in-Err-TooLong.ensures,
        search rules,
      ),
    )
