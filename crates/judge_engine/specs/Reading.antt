-- What the lines of a text of closed logs came to so far, behind those of the texts before it and whatever comes behind them
-- (no public contract cites these).
use Rattle.std.specs.Prelude.{◌≡◌, ℕ, ◌<◌, ◌==◌, List, [], ◌++◌, length, map, if◌then◌else◌, Option, None, Some}
use Rattle.std.specs.List.{All}
use Rattle.merge_core.specs.Layout.{LayoutState}
use Rattle.text_input.specs.Lines.{lines_of}
use Rattle.desk_log.specs.declared.entry.Entry.{Entry}
use Rattle.desk_log.specs.declared.transcript.Transcript.{Transcript}
use Rattle.log_judge.specs.declared.keeping.Keeping.{Keeping}
use Rattle.log_judge.specs.declared.keeping.Keeping.TheVariants.{All as KeepsAll}
use Rattle.log_judge.specs.declared.stream.Logs.{Logs}
use Rattle.log_judge.specs.Cut.{cut_account}
use Rattle.log_judge.specs.Stream.{AreAllLogs, AreLogs, HasNoFault, IsUntold}
use Rattle.log_judge.specs.Verdict.{IsCut}
use Rattle.transcript_text.specs.Texts.{entry_text}
use Rattle.transcript_reader.specs.declared.runs.SiteRun.{SiteRun}
use Rattle.transcript_reader.specs.Fits.{FitsEntry}
use Rattle.transcript_reader.specs.Reading.{AreLines, IsRefusedAt, runs_of, transcripts_below}
use Rattle.judge_engine.specs.Cuts.{lengths_of}
use Rattle.judge_engine.specs.declared.reading.Reading.{Reading}

-- lines of further entries of a run, and then of further runs
abbrev pub AreLeft : LayoutState → List (List ℕ) → List Entry → List SiteRun → Type 0
AreLeft layout lines more rs =
    (rest : List (List ℕ)) × All FitsEntry more × (lines ≡ map (entry_text layout.records) more ++ rest) × AreLines layout rest rs

-- the entries that are to come at a site: those of the run that has begun, if it is one of this site
abbrev pub left_at : Option ℕ → List Entry → ℕ → List Entry
left_at None more i = []
left_at (Some site) more i = if i == site then more else []

-- where no run has begun, no entry comes first
abbrev pub MayAdd : Option ℕ → List Entry → Type 0
MayAdd None more = more ≡ []
MayAdd (Some site) more = Unit {0}

-- of these runs, and of any others behind them, the logs know all but these entries, these last runs and the others
abbrev pub KnowAllBut : LayoutState → Option (List ℕ) → List SiteRun → (ℕ → List Entry) → List SiteRun → Logs → Type 0
KnowAllBut layout cut runs more rs logs =
    (others : List SiteRun)
    → AreLogs layout (transcripts_below (runs ++ others) layout.sites) (lengths_of cut (transcripts_below (runs ++ others) layout.sites)) more (λ i. runs_of i (rs ++ others)) logs

-- The lines so far, and these behind them, are those of runs. Of the runs of earlier texts, of these, and of any others the
-- logs know all but what is to come.
pub record Follows (layout : LayoutState) (cut : Option (List ℕ)) (earlier : List SiteRun) (front tail : List (List ℕ)) (site : Option ℕ) (more : List Entry) (rs : List SiteRun)
    (logs : Logs) : Type 0 where
  pub runs : List SiteRun
  pub lines : AreLines layout (front ++ tail) runs
  pub known : KnowAllBut layout cut (earlier ++ runs) (left_at site more) rs logs

-- Logs that keep so know the runs of earlier texts and the lines of this one so far: with whatever further entries and runs behind
-- them these are lines of runs, of which the logs know all but what is to come.
pub record Knows (layout : LayoutState) (cut : Option (List ℕ)) (keeping : Keeping) (earlier : List SiteRun) (front : List (List ℕ)) (site : Option ℕ) (logs : Logs) : Type 0 where
  pub keeps : logs.keeping ≡ keeping
  pub none_begun : site ≡ None → front ≡ []
  pub there : (s : ℕ) → site ≡ Some s → s < layout.sites
  pub any : (tail : List (List ℕ)) (more : List Entry) (rs : List SiteRun) → AreLeft layout tail more rs → MayAdd site more → Follows layout cut earlier front tail site more rs logs

-- what is known once these lines came: of all of them, or that one is refused, whatever follows
abbrev pub AreRead : LayoutState → Option (List ℕ) → Keeping → List SiteRun → List (List ℕ) → Option ℕ → ℕ → Option ℕ → Logs → Type 0
AreRead layout cut keeping earlier lines None number site logs = (number ≡ length lines) × Knows layout cut keeping earlier lines site logs
AreRead layout cut keeping earlier lines (Some refused) number site logs = (rest : List (List ℕ)) → IsRefusedAt layout (lines ++ rest) refused

abbrev pub ReadsLines : LayoutState → Option (List ℕ) → Keeping → List SiteRun → List (List ℕ) → Reading → Type 0
ReadsLines layout cut keeping earlier lines r = (r.layout ≡ layout) × AreRead layout cut keeping earlier lines r.refused r.lines r.site r.logs

-- some lines were read, under some layout, for some cut and behind some earlier texts
abbrev pub HasReadLines : Reading → Type 0
HasReadLines r = (layout : LayoutState) × (cut : Option (List ℕ)) × (keeping : Keeping) × (earlier : List SiteRun) × (front : List (List ℕ)) × ReadsLines layout cut keeping earlier front r

-- behind whatever was read these lines were read
abbrev pub ReadsOn : Reading → List (List ℕ) → Reading → Type 0
ReadsOn old lines new =
    (layout : LayoutState) (cut : Option (List ℕ)) (keeping : Keeping) (earlier : List SiteRun) (front : List (List ℕ))
    → ReadsLines layout cut keeping earlier front old → ReadsLines layout cut keeping earlier (front ++ lines) new

-- what is known once these bytes came: of all lines whose ends came, the front of one more being pending; or that one is
-- refused, whatever follows
abbrev pub AreReadBytes : LayoutState → Option (List ℕ) → Keeping → List SiteRun → List ℕ → Option ℕ → List ℕ → ℕ → Option ℕ → Logs → Type 0
AreReadBytes layout cut keeping earlier bytes None pending number site logs =
    (front : List (List ℕ)) × ((more : List ℕ) → lines_of (bytes ++ more) ≡ front ++ lines_of (pending ++ more)) × AreRead layout cut keeping earlier front None number site logs
AreReadBytes layout cut keeping earlier bytes (Some refused) pending number site logs = (more : List ℕ) → IsRefusedAt layout (lines_of (bytes ++ more)) refused

abbrev pub ReadsBytes : LayoutState → Option (List ℕ) → Keeping → List SiteRun → List ℕ → Reading → Type 0
ReadsBytes layout cut keeping earlier bytes r = (r.layout ≡ layout) × AreReadBytes layout cut keeping earlier bytes r.refused r.pending.items r.lines r.site r.logs

-- what is known at the end: of all lines of the bytes, or that one is refused
abbrev pub EndsBy : LayoutState → Option (List ℕ) → Keeping → List SiteRun → List ℕ → Option ℕ → Option ℕ → Logs → Type 0
EndsBy layout cut keeping earlier bytes None site logs = Knows layout cut keeping earlier (lines_of bytes) site logs
EndsBy layout cut keeping earlier bytes (Some refused) site logs = IsRefusedAt layout (lines_of bytes) refused

abbrev pub EndsReading : LayoutState → Option (List ℕ) → Keeping → List SiteRun → List ℕ → LayoutState → Option ℕ → Option ℕ → Logs → Type 0
EndsReading layout cut keeping earlier bytes its refused site logs = (its ≡ layout) × EndsBy layout cut keeping earlier bytes refused site logs

-- some bytes were read, under some layout, for some cut and behind some earlier texts
abbrev pub HasReadBytes : Reading → Type 0
HasReadBytes r = (layout : LayoutState) × (cut : Option (List ℕ)) × (keeping : Keeping) × (earlier : List SiteRun) × (bytes : List ℕ) × ReadsBytes layout cut keeping earlier bytes r

-- what was kept is what these bytes came to, behind no earlier text, and memory did not run out
abbrev pub IsTakenIn : LayoutState → Option (List ℕ) → List ℕ → Option Reading → Type 0
IsTakenIn layout cut bytes None = ⊥
IsTakenIn layout cut bytes (Some r) = ReadsBytes layout cut KeepsAll [] bytes r

-- what is kept is what some bytes came to
abbrev pub IsOfBytes : Option Reading → Type 0
IsOfBytes None = Unit {0}
IsOfBytes (Some r) = HasReadBytes r

-- behind whatever bytes of a text were read these were read
abbrev pub AddsBytes : Reading → List ℕ → Reading → Type 0
AddsBytes old part new =
    (layout : LayoutState) (cut : Option (List ℕ)) (keeping : Keeping) (earlier : List SiteRun) (bytes : List ℕ)
    → ReadsBytes layout cut keeping earlier bytes old → ReadsBytes layout cut keeping earlier (bytes ++ part) new

-- whatever bytes of a text were read, they are all
abbrev pub EndsBytes : Reading → Reading → Type 0
EndsBytes old new =
    (layout : LayoutState) (cut : Option (List ℕ)) (keeping : Keeping) (earlier : List SiteRun) (bytes : List ℕ)
    → ReadsBytes layout cut keeping earlier bytes old → EndsReading layout cut keeping earlier bytes new.layout new.refused new.site new.logs

-- behind earlier texts with these runs, nothing of the next one was read
abbrev pub ReadsTexts : LayoutState → Option (List ℕ) → Keeping → List SiteRun → Reading → Type 0
ReadsTexts layout cut keeping earlier r = ReadsBytes layout cut keeping earlier [] r

-- whatever text was read to its end, it is the lines of runs, and the next one begins
abbrev pub BeginsText : Reading → Reading → Type 0
BeginsText old new =
    (layout : LayoutState) (cut : Option (List ℕ)) (keeping : Keeping) (earlier : List SiteRun) (text : List ℕ)
    → EndsReading layout cut keeping earlier text old.layout old.refused old.site old.logs
    → (runs : List SiteRun) × AreLines layout (lines_of text) runs × ReadsTexts layout cut keeping (earlier ++ runs) new

-- where a text began, these bytes of it were read
abbrev pub TakesBytes : Reading → List ℕ → Reading → Type 0
TakesBytes old bytes new =
    (layout : LayoutState) (cut : Option (List ℕ)) (keeping : Keeping) (earlier : List SiteRun)
    → ReadsTexts layout cut keeping earlier old → ReadsBytes layout cut keeping earlier bytes new

-- where a text began, it was read to its end
abbrev pub TakesText : Reading → List ℕ → Reading → Type 0
TakesText old text new =
    (layout : LayoutState) (cut : Option (List ℕ)) (keeping : Keeping) (earlier : List SiteRun)
    → ReadsTexts layout cut keeping earlier old → EndsReading layout cut keeping earlier text new.layout new.refused new.site new.logs

-- some texts were read, under some layout and for some cut
abbrev pub HasReadTexts : Reading → Type 0
HasReadTexts r = (layout : LayoutState) × (cut : Option (List ℕ)) × (keeping : Keeping) × (earlier : List SiteRun) × ReadsTexts layout cut keeping earlier r

-- these are the logs of all these runs, of which merges were kept so
pub record AreLogsOf (layout : LayoutState) (cut : Option (List ℕ)) (keeping : Keeping) (runs : List SiteRun) (logs : Logs) : Type 0 where
  pub keeps : logs.keeping ≡ keeping
  pub all : AreAllLogs layout (transcripts_below runs layout.sites) (lengths_of cut (transcripts_below runs layout.sites)) logs

-- the verdict on logs is not known: the cut is one, no log has a fault, and too little was kept
pub record IsUnjudged (layout : LayoutState) (cut : Option (List ℕ)) (logs : Logs) : Type 0 where
  pub legal : HasNoFault logs.sites.items
  pub is_cut : (ts : List Transcript) → AreAllLogs layout ts (lengths_of cut ts) logs → IsCut ts (lengths_of cut ts)
  pub untold : (ts : List Transcript) → AreAllLogs layout ts (lengths_of cut ts) logs → IsUntold logs.keeping logs.sites.items (cut_account layout ts (lengths_of cut ts))
