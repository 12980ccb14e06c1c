use Rattle.std.proofs.Common.{◌≡◌, ◌++◌, ℕ, List, decimal, drop}
use Rattle.text_parts.specs.Lists.{joined, later}
use Rattle.transcript_text.specs.Quoted.{escaped}
use Rattle.transcript_reader.proofs.shown.behind_list.Given as goal

abbrev pub invariant-loop-i : goal.invariant-loop-i
invariant-loop-i l = (t : List ℕ) → l.rest ≡ escaped (later decimal (drop l.i l.numbers)) ++ t → l.bytes ≡ l.literal ++ (escaped (joined decimal l.numbers) ++ t)
