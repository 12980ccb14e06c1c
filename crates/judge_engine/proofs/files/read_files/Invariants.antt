use Rattle.std.proofs.Common.{List, ℕ, Option, []}
use Rattle.merge_core.specs.Layout.{LayoutState}
use Rattle.log_judge.specs.declared.keeping.Keeping.{Keeping}
use Rattle.transcript_reader.specs.declared.runs.SiteRun.{SiteRun}
use Rattle.judge_engine.specs.Files.{ReadsFiles}
use Rattle.judge_engine.specs.Reading.{ReadsTexts}
use Rattle.judge_engine.proofs.files.read_files.Given as goal

abbrev pub invariant-files : goal.invariant-files
invariant-files g l =
    (layout : LayoutState) (cut : Option (List ℕ)) (keeping : Keeping) → ReadsTexts layout cut keeping [] l.initial.reading
    → (runs : List SiteRun) × ReadsFiles layout (g.F.LogFiles.holds l.files) l.file runs × ReadsTexts layout cut keeping runs l.reading
