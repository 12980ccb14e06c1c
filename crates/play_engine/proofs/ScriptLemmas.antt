-- From the answer to a script to the end of the engine.
use Rattle.std.proofs.Common.{◌≡◌, ℕ, ◌+◌, ◌≤◌, Bool, List, length, Option, inl, inr, Ok, Err, arith}
use Rattle.merge_core.specs.Layout.{LayoutState}
use Rattle.multi_site_world.specs.World.{start_world}
use Rattle.multi_site_world.specs.Worlds.{MayBeFirst}
use Rattle.text_input.specs.Input.{Loses, LosesSome, ReadsInput, input_limit}
use Rattle.text_input.specs.Source.{SourceState}
use Rattle.text_input.specs.Sink.{SinkState}
use Rattle.exit_status.specs.declared.status.Status.{Status}
use Rattle.exit_status.specs.declared.status.Status.TheVariants.{Done, Usage, NoLayout, NoStore, Fault, Refused, Memory, Io}
use Rattle.play_engine.specs.Plays.{AnswersScript, EndsPlay, first_sites}

-- what was read is within one byte past the limit
loses_some : (source source_after : SourceState) (bytes : List ℕ) → Loses source source_after input_limit bytes → LosesSome source source_after (input_limit + 1)
loses_some source source_after bytes loses = (bytes, record { lost = loses.lost; bounded = omega (arith, loses.bounded) })

-- the input was read, and its answer was written
pub ends_script : (layout : LayoutState) (first : Option ℕ) (tables : Bool) (source source_after : SourceState) (sink sink_after : SinkState) (bytes : List ℕ) (status : Status)
    → MayBeFirst (first_sites first layout) layout → ReadsInput source source_after (Ok bytes)
    → AnswersScript (start_world (first_sites first layout) layout) layout.records tables bytes sink sink_after status
    → EndsPlay layout first tables source source_after sink sink_after status
ends_script layout first tables source source_after sink sink_after bytes Done may read answers = (may, (bytes, read, answers))
ends_script layout first tables source source_after sink sink_after bytes Refused may read answers = (may, inl (bytes, read, answers))
ends_script layout first tables source source_after sink sink_after bytes Memory may read answers = (may, loses_some source source_after bytes read.0, inl read.2, answers)
ends_script layout first tables source source_after sink sink_after bytes Io may read answers = (may, loses_some source source_after bytes read.0, inr answers)
ends_script layout first tables source source_after sink sink_after bytes Usage may read answers = absurd answers
ends_script layout first tables source source_after sink sink_after bytes (NoLayout fault) may read answers = absurd answers
ends_script layout first tables source source_after sink sink_after bytes (NoStore refusal) may read answers = absurd answers
ends_script layout first tables source source_after sink sink_after bytes Fault may read answers = absurd answers
