-- Fronts of a log's first line, by the number of sites and the spelling. For private clauses.
use Rattle.std.specs.Prelude.{ℕ, List, ◌++◌, Option}
use Rattle.merge_core.specs.Layout.{LayoutState, at_sites}
use Rattle.admission_model.specs.Account.{begin, start_origin}
use Rattle.admission_core.specs.Kept.{DurableState, durable_of}
use Rattle.transcript_text.specs.Texts.{book_told, front_text, sites_text, MayBegin}
use Rattle.transcript_reader.specs.declared.openings.Opening.{Opening}
use Rattle.transcript_reader.specs.Reading.{BeginsRun}
use Rattle.log_file.specs.Fronts.{IsFrontOf}

-- the durable part of a site that knows so many sites, and of which nothing was done
abbrev pub start_part : LayoutState → ℕ → ℕ → DurableState
start_part layout i sites = durable_of (begin (start_origin (at_sites sites layout) i))

-- how its first run begins
abbrev pub start_opening : LayoutState → ℕ → ℕ → Opening
start_opening layout i sites = record { site = i; sites = sites; first = start_part layout i sites }

-- bytes are the front of a line with which that run begins
abbrev pub IsFrontAt : LayoutState → ℕ → ℕ → List ℕ → Type 0
IsFrontAt layout i sites bytes = (line : List ℕ) × (BeginsRun layout line (start_opening layout i sites) × IsFrontOf bytes line)

-- bytes are the front of the line in one spelling with which a run begins so
abbrev pub IsFrontIn : LayoutState → ℕ → ℕ → DurableState → Option ℕ → List ℕ → Type 0
IsFrontIn layout i sites first spelled bytes =
    MayBegin layout i sites first
    × IsFrontOf bytes (front_text layout.records i (book_told layout i sites first) first.sessions ++ sites_text spelled)
