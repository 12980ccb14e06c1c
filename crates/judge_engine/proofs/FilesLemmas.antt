-- Files that were read, one after another.
use Rattle.std.proofs.Common.{◌≡◌, ◌≢◌, ℕ, ◌+◌, ◌<◌, ◌⊎◌, inl, inr, List, [], ◌∷◌, ◌++◌, get_or, Option, refl, sym, ap, subst, ◌∙◌, append_assoc, append-nil, length-append, arith, Result, Ok, Err, MatchResult}
use Rattle.std.proofs.lemmas.Bool.{cases_eq}
use Rattle.std.proofs.lemmas.List.{get_or_append_left, get_or_push}
use Rattle.std.specs.Global.{Vec}
use Rattle.std.specs.Io.KnownBytes.{Consumes, IsAtEnd}
use Rattle.std.proofs.KnownBytes.{Consumes-whole}
use Rattle.merge_core.specs.declared.delta.Row.{Row}
use Rattle.merge_core.specs.Layout.{LayoutState}
use Rattle.desk_log.specs.declared.transcript.Transcript.{Transcript}
use Rattle.log_judge.specs.declared.keeping.Keeping.{Keeping}
use Rattle.log_judge.specs.declared.keeping.Keeping.TheVariants.{Above}
use Rattle.log_judge.specs.declared.stream.Logs.{Logs}
use Rattle.log_judge.specs.Cut.{cut_account}
use Rattle.log_judge.specs.Stream.{AreAllLogs, HasNoFault, IsUntold, TellAll}
use Rattle.log_judge.specs.Verdict.{IsCut}
use Rattle.text_input.specs.Lines.{lines_of}
use Rattle.text_input.specs.Source.{HasFault, SourceState}
use Rattle.text_input.specs.Sink.{SinkState, Writes}
use Rattle.transcript_reader.specs.declared.runs.SiteRun.{SiteRun}
use Rattle.transcript_reader.specs.Reading.{AreLines, IsRefusedAt, transcripts_below}
use Rattle.judge_engine.specs.declared.files.FilesError.{FilesError}
use Rattle.judge_engine.specs.declared.files.FilesError.TheVariants.{Refused, Unread, Changed, Memory, Unwritten}
use Rattle.judge_engine.specs.Cuts.{lengths_of}
use Rattle.judge_engine.specs.Engine.{IsJudgement}
use Rattle.judge_engine.specs.Files.{AreRunsOf, AreTextsOf, EndsFiles, Fails, FailsAt, HadText, Holds, IsFileFault, IsReadFault, IsSourceFault, ReadsFiles}
use Rattle.judge_engine.specs.Reading.{AreLogsOf, IsUnjudged}

-- the runs of one text more
runs_more : (layout : LayoutState) (texts : List (List ℕ)) (text : List ℕ) (runs more : List SiteRun) → AreRunsOf layout texts runs → AreLines layout (lines_of text) more → AreRunsOf layout (texts ++ text ∷ []) (runs ++ more)
runs_more layout [] text runs more none lines = (more, [], ap (λ (rs : List SiteRun). rs ++ more) none ∙ sym (append-nil more), lines, refl)
runs_more layout (t ∷ ts) text runs more are lines =
    (are.0, are.1 ++ more, ap (λ (rs : List SiteRun). rs ++ more) are.2 ∙ append_assoc are.0 are.1 more, are.3, runs_more layout ts text are.1 more are.4 lines)

-- one text more
texts_more : (holds : Holds) (number : ℕ) (texts : List (List ℕ)) (text : List ℕ) → AreTextsOf holds number texts → HadText holds number text → AreTextsOf holds (number + 1) (texts ++ text ∷ [])
texts_more holds number texts text held had = record {
  number_is = omega (arith, length-append texts (text ∷ []), held.number_is);
  each = λ file below. at file below (cases_eq file number);
}
  where
    at : (file : ℕ) → file < number + 1 → (file ≡ number) ⊎ (file ≡ number → ⊥) → HadText holds file (get_or (texts ++ text ∷ []) file [])
    at file below (inl last) =
        subst (λ (n : ℕ). HadText holds n (get_or (texts ++ text ∷ []) n [])) (sym last)
        (subst (HadText holds number) (sym (get_or_push texts text [] number held.number_is)) had)
    at file below (inr other) =
        let within : file < number = omega (arith, below, other) in
        subst (HadText holds file) (sym (get_or_append_left texts (text ∷ []) [] file (omega (arith, within, held.number_is)))) (held.each file within)

-- no file was read
pub files_none : (layout : LayoutState) (holds : Holds) → ReadsFiles layout holds 0 []
files_none layout holds = record {
  texts = [];
  held = record { number_is = refl; each = λ file below. absurd (omega (arith, below)) };
  are_runs = refl;
}

-- one file more was read
pub files_more : (layout : LayoutState) (holds : Holds) (number : ℕ) (runs more : List SiteRun) (text : List ℕ) → ReadsFiles layout holds number runs → HadText holds number text → AreLines layout (lines_of text) more → ReadsFiles layout holds (number + 1) (runs ++ more)
files_more layout holds number runs more text read had lines = record {
  texts = read.texts ++ text ∷ [];
  held = texts_more holds number read.texts text read.held had;
  are_runs = runs_more layout read.texts text runs more read.are_runs lines;
}

-- a source whose text came to its end is read as the lines of runs, or refused
pub source_ended : {T : Type 0} (layout : LayoutState) (old new : SourceState) (file : ℕ) (text : List ℕ) (Reads : List SiteRun → Type 0) (result : Result T FilesError) → Consumes old.remaining new.remaining text → IsAtEnd new.remaining
    → MatchResult result (λ _. (runs : List SiteRun) × AreLines layout (lines_of text) runs × Reads runs) (λ error. (line : ℕ) × (error ≡ Refused file line) × IsRefusedAt layout (lines_of text) line)
    → MatchResult result (λ _. (bytes : List ℕ) × (runs : List SiteRun) × Consumes old.remaining new.remaining bytes × IsAtEnd new.remaining × AreLines layout (lines_of bytes) runs × Reads runs) (IsSourceFault layout old new file)
source_ended layout old new file text Reads (Ok x) lost end ended = (text, ended.0, lost, end, ended.1, ended.2)
source_ended layout old new file text Reads (Err error) lost end ended = subst (IsSourceFault layout old new file) (sym ended.1) (refl, text, lost, end, ended.2)

-- all that a source had is the text of its file
had_text : (holds : Holds) (file : ℕ) (had : Option (List ℕ)) (old new : SourceState) (text : List ℕ) → old.remaining ≡ had → holds file had → Consumes old.remaining new.remaining text → IsAtEnd new.remaining → HadText holds file text
had_text holds file had old new text same held lost end =
    (had, held, Consumes-whole had new.remaining text (λ bytes. bytes ≡ text) (subst (λ (h : Option (List ℕ)). Consumes h new.remaining text) same lost) end refl)

-- a file is read as its source is
pub file_read : {T : Type 0} (layout : LayoutState) (holds : Holds) (fails : Fails) (file : ℕ) (had : Option (List ℕ)) (old new : SourceState) (Reads : List SiteRun → Type 0) (result : Result T FilesError) → old.remaining ≡ had → holds file had
    → MatchResult result (λ _. (bytes : List ℕ) × (runs : List SiteRun) × Consumes old.remaining new.remaining bytes × IsAtEnd new.remaining × AreLines layout (lines_of bytes) runs × Reads runs) (IsSourceFault layout old new file)
    → MatchResult result (λ _. (bytes : List ℕ) × (runs : List SiteRun) × HadText holds file bytes × AreLines layout (lines_of bytes) runs × Reads runs) (IsFileFault layout holds fails file)
file_read layout holds fails file had old new Reads (Ok x) same held read = (read.0, read.1, had_text holds file had old new read.0 same held read.2 read.3, read.4, read.5)
file_read layout holds fails file had old new Reads (Err (Refused at line)) same held fault = (fault.0, fault.1, had_text holds file had old new fault.1 same held fault.2 fault.3, fault.4)
file_read layout holds fails file had old new Reads (Err (Unread at)) same held fault = (fault.0, inr (had, new.fault, held, fault.1))
file_read layout holds fails file had old new Reads (Err Memory) same held fault = tt
file_read layout holds fails file had old new Reads (Err Changed) same held fault = fault
file_read layout holds fails file had old new Reads (Err Unwritten) same held fault = fault

-- a file that was not read ends the reading of all
pub fails_at : (layout : LayoutState) (holds : Holds) (fails : Fails) (number : ℕ) (error : FilesError) → FailsAt layout holds fails number error → IsReadFault layout holds fails number error
fails_at layout holds fails number (Refused file line) at = at
fails_at layout holds fails number (Unread file) at = at
fails_at layout holds fails number Changed at = at.fault
fails_at layout holds fails number Memory at = tt
fails_at layout holds fails number Unwritten at = at.fault

-- .. and nothing is written then
pub unread_ends : (layout : LayoutState) (cut : Option (List ℕ)) (holds : Holds) (fails : Fails) (number : ℕ) (sink : SinkState) (error : FilesError) → IsReadFault layout holds fails number error
    → EndsFiles layout cut holds fails number sink sink (Err error)
unread_ends layout cut holds fails number sink (Refused file line) at = (at, refl)
unread_ends layout cut holds fails number sink (Unread file) at = (at, refl)
unread_ends layout cut holds fails number sink Changed at = absurd at
unread_ends layout cut holds fails number sink Memory at = refl
unread_ends layout cut holds fails number sink Unwritten at = absurd at

-- a judgement was written, or a write failed
pub judgement_ends : (layout : LayoutState) (cut : Option (List ℕ)) (holds : Holds) (fails : Fails) (number : ℕ) (runs : List SiteRun) (old new : SinkState) (text : List ℕ) (result : Result (Unit {0}) FilesError)
    → ReadsFiles layout holds number runs → IsJudgement layout (transcripts_below runs layout.sites) (lengths_of cut (transcripts_below runs layout.sites)) text
    → MatchResult result (λ _. Writes old new text) (λ error. (error ≡ Unwritten) × HasFault new.fault) → EndsFiles layout cut holds fails number old new result
judgement_ends layout cut holds fails number runs old new text (Ok x) read judged written = record { runs = runs; read = read; text = text; judged = judged; written = written }
judgement_ends layout cut holds fails number runs old new text (Err error) read judged failed = subst (λ (e : FilesError). EndsFiles layout cut holds fails number old new (Err e)) (sym failed.0) failed.1

-- where the own rows of a first reading are not those of a second one, the two found different runs
pub readings_differ : (layout : LayoutState) (cut : Option (List ℕ)) (keeping : Keeping) (tables : Vec (List Row)) (first second : List SiteRun) (one other : Logs)
    → AreLogsOf layout cut keeping first one → IsUnjudged layout cut one
    → ((ts : List Transcript) (lengths : List ℕ) → AreAllLogs layout ts lengths one → IsCut ts lengths → HasNoFault one.sites.items → TellAll tables.items (cut_account layout ts lengths))
    → AreLogsOf layout cut (Above tables) second other → IsUnjudged layout cut other → first ≢ second
readings_differ layout cut keeping tables first second one other is_one unknown told is_other again same =
    let ts = transcripts_below first layout.sites in
    let lengths = lengths_of cut ts in
    let own = told ts lengths is_one.all (unknown.is_cut ts is_one.all) unknown.legal in
    let later = transcripts_below second layout.sites in
    let untold : IsUntold (Above tables) other.sites.items (cut_account layout later (lengths_of cut later)) =
    subst (λ (k : Keeping). IsUntold k other.sites.items (cut_account layout later (lengths_of cut later))) is_other.keeps (again.untold later is_other.all) in
    untold (subst (λ (rs : List SiteRun). TellAll tables.items (cut_account layout (transcripts_below rs layout.sites) (lengths_of cut (transcripts_below rs layout.sites)))) same own)
