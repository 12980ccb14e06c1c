use Rattle.std.proofs.Common.{◌≡◌, ◌++◌, ℕ, List, Option, length}
use Rattle.merge_core.specs.Layout.{LayoutState}
use Rattle.text_input.specs.Lines.{lines_of}
use Rattle.log_judge.specs.declared.keeping.Keeping.{Keeping}
use Rattle.transcript_reader.specs.declared.runs.SiteRun.{SiteRun}
use Rattle.judge_engine.specs.Reading.{ReadsLines}
use Rattle.judge_engine.proofs.reading.Reading.read_lines.Given as goal

abbrev pub invariant-lines : goal.invariant-lines
invariant-lines l = record {
  read : (layout : LayoutState) (cut : Option (List ℕ)) (keeping : Keeping) (earlier : List SiteRun) (front : List (List ℕ)) → ReadsLines layout cut keeping earlier front l.initial.self
      → (done : List (List ℕ)) × (lines_of l.bytes ≡ done ++ lines_of l.rest) × ReadsLines layout cut keeping earlier (front ++ done) l.self;
  kept : l.self.pending ≡ l.initial.self.pending;
}

abbrev pub decreases-lines : goal.decreases-lines
decreases-lines l = length l.rest
