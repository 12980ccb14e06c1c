-- What is left of a site's openings: a run for each, in order.
use Rattle.std.specs.Prelude.{◌≡◌, ◌≢◌, ◌++◌, Result, Ok, Err}
use Rattle.desk_log.specs.declared.transcript.AppendError.{AppendError}
use Rattle.desk_log.specs.declared.transcript.AppendError.TheVariants.{OtherSite, Memory}
use Rattle.desk_log.specs.declared.transcript.Transcript.{Transcript}

-- the second's runs come after the first's
abbrev pub appended : Transcript → Transcript → Transcript
appended t more = record t { runs = t.runs ++ more.runs }

-- A transcript is joined by another of its site. One that is refused is handed back, and the first is as it was.
abbrev pub IsAppended : Transcript → Transcript → Transcript → Result (Unit {0}) (AppendError × Transcript) → Type 0
IsAppended old new more (Ok _) = (more.site ≡ old.site) × (new ≡ appended old more)
IsAppended old new more (Err (OtherSite, back)) = (more.site ≢ old.site) × (new ≡ old) × (back ≡ more)
IsAppended old new more (Err (Memory, back)) = (more.site ≡ old.site) × (new ≡ old) × (back ≡ more)
