-- From the runs of all sites to what is written of them, and from the answer to a script to the end of the engine.
use Rattle.std.proofs.Common.{◌≡◌, ℕ, ◌+◌, ◌<◌, List, [], slice_index_or, All, Option, None, inl, inr, Ok, sym, subst, arith}
use Rattle.std.proofs.lemmas.List.Elements.{All-cons, All-nil}
use Rattle.merge_core.specs.Layout.{LayoutState, IsLayout, layout_fault, at_sites}
use Rattle.multi_site_world.proofs.WorldCode.{no_fault}
use Rattle.admission_model.specs.declared.ask.Ask.{Ask}
use Rattle.admission_model.specs.Restoring.{AreCells, AreSessions}
use Rattle.desk_log.specs.declared.transcript.Run.{Run}
use Rattle.desk_log.specs.declared.transcript.Transcript.{Transcript}
use Rattle.log_judge.specs.Cut.{no_transcript}
use Rattle.log_judge.specs.Verdict.{AreOfSites}
use Rattle.transcript_text.specs.Texts.{MayBegin}
use Rattle.text_input.specs.Input.{Loses, LosesSome, ReadsInput, input_limit}
use Rattle.text_input.specs.Source.{SourceState}
use Rattle.text_input.specs.Sink.{SinkState}
use Rattle.exit_status.specs.declared.status.Status.{Status}
use Rattle.exit_status.specs.declared.status.Status.TheVariants.{Done, Usage, NoLayout, NoStore, Fault, Refused, Memory, Io}
use Rattle.run_engine.specs.declared.script.Asked.{Asked}
use Rattle.run_engine.specs.Scripts.{asks_of}
use Rattle.run_engine.specs.Runs.{IsSiteRun, AreSiteRuns}
use Rattle.run_engine.specs.Logs.{MayBeWritten}
use Rattle.run_engine.specs.Engine.{AnswersScript, EndsRun}

-- the runs of all sites are in order of sites
pub runs_of_sites : (layout : LayoutState) (asked : List Asked) (ts : List Transcript) → AreSiteRuns layout asked ts → AreOfSites layout ts
runs_of_sites layout asked ts runs = record {
  number = runs.number;
  in_order = λ i below. (runs.each i no_transcript below).of_site;
}

-- the run of a site may be written
site_may_begin : (layout : LayoutState) (i : ℕ) (asks : List Ask) (t : Transcript) → IsLayout layout → i < layout.sites → (site : IsSiteRun layout i asks t) → MayBegin layout i site.run.sites site.run.first
site_may_begin layout i asks t is below site = record {
  site_there = subst (λ (n : ℕ). i < n) (sym site.sites) below;
  no_more = omega (arith, site.sites);
  records_fit = subst (λ (n : ℕ). layout_fault n layout.records ≡ None) (sym site.sites) (no_fault layout is);
  cells = subst (λ (n : ℕ). AreCells (at_sites n layout) i site.run.first.cells) (sym site.sites) site.cells;
  sessions = subst (λ (n : ℕ). AreSessions (at_sites n layout) i site.run.first.cells site.run.first.sessions) (sym site.sites) site.sessions;
}

site_may_be_written : (layout : LayoutState) (i : ℕ) (asks : List Ask) (t : Transcript) → IsLayout layout → i < layout.sites → IsSiteRun layout i asks t → MayBeWritten layout t
site_may_be_written layout i asks t is below site =
    let begins : MayBegin layout t.site site.run.sites site.run.first =
    subst (λ (n : ℕ). MayBegin layout n site.run.sites site.run.first) (sym site.of_site) (site_may_begin layout i asks t is below site) in
    let P : Run → Type 0 = λ run. MayBegin layout t.site run.sites run.first in
    subst (λ (runs : List Run). All P runs) (sym site.one_run) (All-cons P site.run [] begins (All-nil P))

-- so may those of all sites
pub runs_may_be_written : (layout : LayoutState) (asked : List Asked) (ts : List Transcript) → IsLayout layout → AreSiteRuns layout asked ts → All (MayBeWritten layout) ts
runs_may_be_written layout asked ts is runs i d below =
    site_may_be_written layout i (asks_of i asked) (slice_index_or ts i d) is (subst (λ (n : ℕ). i < n) runs.number below) (runs.each i d below)

-- what was read is within one byte past the limit
loses_some : (source source_after : SourceState) (bytes : List ℕ) → Loses source source_after input_limit bytes → LosesSome source source_after (input_limit + 1)
loses_some source source_after bytes loses = (bytes, record { lost = loses.lost; bounded = omega (arith, loses.bounded) })

-- the input was read, and was answered
pub ends_script : (layout : LayoutState) (source source_after : SourceState) (sink sink_after : SinkState) (logs logs_after : Option SinkState) (bytes : List ℕ) (status : Status)
    → ReadsInput source source_after (Ok bytes) → AnswersScript layout bytes sink sink_after logs logs_after status
    → EndsRun layout source source_after sink sink_after logs logs_after status
ends_script layout source source_after sink sink_after logs logs_after bytes Done read answers = (bytes, read, answers)
ends_script layout source source_after sink sink_after logs logs_after bytes Refused read answers = (inl (bytes, read, answers.0), answers.1)
ends_script layout source source_after sink sink_after logs logs_after bytes Memory read answers = (loses_some source source_after bytes read.0, inl read.2, answers)
ends_script layout source source_after sink sink_after logs logs_after bytes Io read answers = (loses_some source source_after bytes read.0, inr answers)
ends_script layout source source_after sink sink_after logs logs_after bytes Usage read answers = absurd answers
ends_script layout source source_after sink sink_after logs logs_after bytes (NoLayout fault) read answers = absurd answers
ends_script layout source source_after sink sink_after logs logs_after bytes (NoStore refusal) read answers = absurd answers
ends_script layout source source_after sink sink_after logs logs_after bytes Fault read answers = absurd answers
