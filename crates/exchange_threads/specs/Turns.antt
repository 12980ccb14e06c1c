-- How a runner goes on after a reply (this project's own).
use Rattle.std.specs.Prelude.{◌≡◌, ℕ, ◌⊎◌, true}
use Rattle.admission_model.specs.declared.reply.Refusal.TheVariants.{Memory, Frozen, LogFull}
use Rattle.admission_model.specs.declared.reply.Reply.{Reply}
use Rattle.admission_model.specs.declared.reply.Reply.TheVariants.{Refused}
use Rattle.session_book.specs.Passes.{PassState}
use Rattle.exchange_threads.specs.declared.turn.Turn.{Turn}
use Rattle.exchange_threads.specs.declared.turn.Turn.TheVariants.{GoesOn, IsOver, EndsRun}

-- want of memory ends the turn; a stopped site and a full log end the run
abbrev pub turn_after : Reply → Turn
turn_after (Refused Memory) = IsOver
turn_after (Refused Frozen) = EndsRun
turn_after (Refused LogFull) = EndsRun
turn_after _ = GoesOn

-- how many runs were ended by it
abbrev pub stops_at : Turn → ℕ
stops_at EndsRun = 1
stops_at _ = 0

-- how many turns of a run met want of memory there
abbrev pub lacks_at : Turn → ℕ
lacks_at IsOver = 1
lacks_at _ = 0

-- some call of the pass was answered that the site has stopped, or that its log is full
abbrev pub IsMarked : PassState → Type 0
IsMarked p = (p.frozen ≡ true) ⊎ (p.log_full ≡ true)
