-- The closed logs of a run as text (this project's own format).
use Rattle.std.specs.Prelude.{◌≡◌, ℕ, List, All, Option, Some, None}
use Rattle.std.specs.List.{flat_map}
use Rattle.merge_core.specs.Layout.{LayoutState}
use Rattle.desk_log.specs.declared.transcript.Transcript.{Transcript}
use Rattle.text_input.specs.Sink.{SinkState, Writes}
use Rattle.transcript_text.specs.Texts.{transcript_text, MayBegin}

-- each run of the transcript may begin as it does
abbrev pub MayBeWritten : LayoutState → Transcript → Type 0
MayBeWritten layout t = All (λ run. MayBegin layout t.site run.sites run.first) t.runs

-- the lines of transcripts, one after another
abbrev pub logs_text : LayoutState → List Transcript → List ℕ
logs_text layout ts = flat_map (transcript_text layout) ts

-- the text was written to the sink, where there is one
abbrev pub WritesIfAny : Option SinkState → Option SinkState → List ℕ → Type 0
WritesIfAny None new text = new ≡ None
WritesIfAny (Some old) None text = ⊥
WritesIfAny (Some old) (Some new) text = Writes old new text
