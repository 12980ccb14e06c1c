-- Looks at a record, part by part. For private clauses.
use Rattle.std.specs.Prelude.{ℕ, ◌==◌, Bool, false, List, [], ◌++◌, codes, decimal, if◌then◌else◌}
use Rattle.session_list.specs.declared.session.Session.{Session}
use Rattle.admission_model.specs.declared.reply.Refusal.TheVariants.{NoRecord}
use Rattle.admission_model.specs.declared.reply.Reply.TheVariants.{Refused}
use Rattle.serve_engine.specs.Answers.{separator}
use Rattle.live_site.specs.Live.{line_of}
use Rattle.script_text.specs.Replies.{phase_word}

abbrev pub no_record_line : List ℕ
no_record_line = line_of (Refused NoRecord)

-- what is written of one session
abbrev pub session_part : ℕ → Bool → Session → List ℕ
session_part r first s = if s.r == r then separator first ++ (decimal s.h ++ (codes " " ++ phase_word s.phase)) else []

-- whether none was written behind it
abbrev pub still_first : ℕ → Bool → Session → Bool
still_first r first s = if s.r == r then false else first
