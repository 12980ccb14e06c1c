-- A conversation of one line before any turn.
use Rattle.std.proofs.Common.{◌≡◌, ℕ, Bool, true, false, List, [], refl}
use Rattle.line_conversation.specs.Begins.{nothing_written}
use Rattle.program_shell.specs.OneLine.{OneLineState, TookPlace, heard_between}

none_between : (line : List ℕ) (taken : Bool) → [] ≡ heard_between line taken taken
none_between line true = refl
none_between line false = refl

-- no line was heard, and no text was told
pub heard_nothing : (s : OneLineState) → TookPlace s [] s
heard_nothing s = record {
  line = refl;
  stays = λ was. was;
  heard = none_between s.line s.taken;
  told = λ whole. nothing_written s.sink.contents;
}
