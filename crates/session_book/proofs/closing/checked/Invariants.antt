use Rattle.std.proofs.Common.{take}
use Rattle.std.specs.Prelude.{All}
use Rattle.session_book.specs.Sites.{BearsOut}
use Rattle.session_book.proofs.closing.checked.Given as goal

abbrev pub invariant-passes : goal.invariant-passes
invariant-passes g l = All (BearsOut l.limit l.desk.log.entries) (take l.i l.passes)
