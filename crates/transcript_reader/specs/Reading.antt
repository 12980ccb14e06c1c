-- What reading lines as the runs of all sites answers.
use Rattle.std.specs.Prelude.{◌≡◌, ◌≢◌, Bool, IsTrue, ℕ, zero, suc, ◌+◌, ◌==◌, ◌⊎◌, List, [], ◌∷◌, ◌++◌, length, map, if◌then◌else◌}
use Rattle.std.specs.List.{All}
use Rattle.merge_core.specs.declared.layout.RecordSpec.{RecordSpec}
use Rattle.merge_core.specs.Layout.{LayoutState}
use Rattle.text_input.specs.Lines.{lines_of}
use Rattle.desk_log.specs.declared.entry.Entry.{Entry}
use Rattle.desk_log.specs.declared.transcript.Run.{Run}
use Rattle.desk_log.specs.declared.transcript.Transcript.{Transcript}
use Rattle.transcript_reader.specs.declared.runs.SiteRun.{SiteRun}
use Rattle.transcript_reader.specs.declared.openings.Opening.{Opening}
use Rattle.transcript_reader.specs.declared.lines.Line.{Line}
use Rattle.transcript_reader.specs.declared.lines.Line.TheVariants.{Begins, Adds}
use Rattle.transcript_reader.specs.declared.reading.ReadError.{ReadError}
use Rattle.transcript_reader.specs.declared.reading.ReadError.TheVariants.{NotTranscript, Memory}
use Rattle.transcript_text.specs.Texts.{entry_text, opening_text, short_opening_text, MayBegin}
use Rattle.transcript_reader.specs.Fits.{FitsEntry}

-- the line begins a run: in either spelling, where the run may begin so
pub record BeginsRun (layout : LayoutState) (line : List ℕ) (it : Opening) : Type 0 where
  pub may_begin : MayBegin layout it.site it.sites it.first
  pub text : (line ≡ opening_text layout it.site it.sites it.first)
      ⊎ ((it.sites ≡ layout.sites) × (line ≡ short_opening_text layout it.site it.first))

-- no run begins with the line
abbrev pub BeginsNoRun : LayoutState → List ℕ → Type 0
BeginsNoRun layout line = (it : Opening) → ¬ BeginsRun layout line it

-- the line is that of no entry
abbrev pub IsNoEntry : List RecordSpec → List ℕ → Type 0
IsNoEntry records line = (e : Entry) → FitsEntry e → line ≢ entry_text records e

-- what a line says: a run begins with it; or it is an entry, where one has begun
abbrev pub IsLine : LayoutState → Bool → List ℕ → Line → Type 0
IsLine layout begun line (Begins it) = BeginsRun layout line it
IsLine layout begun line (Adds e) = IsTrue begun × (FitsEntry e × (line ≡ entry_text layout.records e))

-- how a run begins
abbrev pub opening_of : SiteRun → Opening
opening_of r = record { site = r.site; sites = r.run.sites; first = r.run.first }

-- The lines are those of the runs, one run after another. Each number of an entry is within the range of its type; those
-- of an opening are, where a run may begin so.
abbrev pub AreLines : LayoutState → List (List ℕ) → List SiteRun → Type 0
AreLines layout lines [] = lines ≡ []
AreLines layout lines (r ∷ rs) =
    (line : List ℕ) × (rest : List (List ℕ)) × (BeginsRun layout line (opening_of r)
    × (All FitsEntry r.run.entries
    × ((lines ≡ line ∷ (map (entry_text layout.records) r.run.entries ++ rest)) × AreLines layout rest rs)))

-- the runs of site i, in order
abbrev pub runs_of : ℕ → List SiteRun → List Run
runs_of i [] = []
runs_of i (r ∷ rs) = if r.site == i then (r.run ∷ runs_of i rs) else runs_of i rs

-- the transcripts of the first n sites
abbrev pub transcripts_below : List SiteRun → ℕ → List Transcript
transcripts_below rs zero = []
transcripts_below rs (suc n) = transcripts_below rs n ++ record { site = n; runs = runs_of n rs } ∷ []

-- Lines are refused at one of them: those in front of it are the lines of runs, no run begins with it, and it is no entry
-- of the last of these runs.
pub record IsRefusedAt (layout : LayoutState) (lines : List (List ℕ)) (number : ℕ) : Type 0 where
  pub runs : List SiteRun
  pub front : List (List ℕ)
  pub line : List ℕ
  pub rest : List (List ℕ)
  pub is_front : lines ≡ front ++ line ∷ rest
  pub is_number : number ≡ length front + 1
  pub are_runs : AreLines layout front runs
  pub no_run : BeginsNoRun layout line
  pub no_entry : (runs ≡ []) ⊎ IsNoEntry layout.records line

-- Transcripts are those of bytes: a transcript for each site, where the bytes are the lines of runs, whatever the order of
-- runs of different sites.
abbrev pub AreTranscriptsOf : LayoutState → List ℕ → List Transcript → Type 0
AreTranscriptsOf layout bytes transcripts =
    (rs : List SiteRun) × (AreLines layout (lines_of bytes) rs × (transcripts ≡ transcripts_below rs layout.sites))

-- what a fault says of bytes: it names the first line that is refused; memory may run out over any bytes
abbrev pub IsFaultOf : LayoutState → List ℕ → ReadError → Type 0
IsFaultOf layout bytes (NotTranscript line) = IsRefusedAt layout (lines_of bytes) line
IsFaultOf layout bytes Memory = Unit {0}
