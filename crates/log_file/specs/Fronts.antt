-- What a crash may leave of a log's first line (this project's own): the front of a line with which the log can begin.
use Rattle.std.specs.Prelude.{◌≡◌, ℕ, List, [], ◌∷◌, ◌++◌}
use Rattle.merge_core.specs.Layout.{LayoutState}
use Rattle.text_input.specs.Lines.{HasNoLf}
use Rattle.desk_log.specs.declared.transcript.Run.{Run}
use Rattle.transcript_reader.specs.declared.openings.Opening.{Opening}
use Rattle.transcript_reader.specs.Reading.{BeginsRun}
use Rattle.log_judge.specs.Legal.{start_account, AreLegal}

-- the run that begins so, without an entry yet
abbrev pub bare_run : Opening → Run
bare_run it = record { sites = it.sites; first = it.first; entries = [] }

-- A log of site i can begin with the line: it begins a run of the site, in either spelling, which is legal with none before
-- it.
pub record CanBegin (layout : LayoutState) (i : ℕ) (line : List ℕ) : Type 0 where
  pub it : Opening
  pub begins : BeginsRun layout line it
  pub of_site : it.site ≡ i
  pub legal : AreLegal layout i (start_account layout i (bare_run it ∷ [])) (bare_run it ∷ [])

-- bytes are the front of a line, or all of it
abbrev pub IsFrontOf : List ℕ → List ℕ → Type 0
IsFrontOf bytes line = (rest : List ℕ) × (line ≡ bytes ++ rest)

-- bytes are the front of a line with which a log of the site can begin
abbrev pub IsFrontOfRun : LayoutState → ℕ → List ℕ → Type 0
IsFrontOfRun layout i bytes = (line : List ℕ) × (CanBegin layout i line × IsFrontOf bytes line)

-- bytes without a whole line may be left of a log of the site
abbrev pub MayBeLog : LayoutState → ℕ → List ℕ → Type 0
MayBeLog layout i bytes = HasNoLf bytes → IsFrontOfRun layout i bytes

-- .. and these can't
abbrev pub IsNoFront : LayoutState → ℕ → List ℕ → Type 0
IsNoFront layout i bytes = HasNoLf bytes × (¬ IsFrontOfRun layout i bytes)
