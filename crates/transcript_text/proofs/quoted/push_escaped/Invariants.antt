use Rattle.std.proofs.Common.{◌≡◌, ◌-◌, ◌<◌, ◌≤◌, ◌++◌, take, drop, string_bytes}
use Rattle.std.specs.Str.{IsCharBoundary}
use Rattle.transcript_text.specs.Quoted.{escaped}
use Rattle.transcript_text.proofs.quoted.push_escaped.Given as goal

abbrev pub invariant-loop-i : goal.invariant-loop-i
invariant-loop-i l = record {
  low : l.from ≤ l.i;
  boundary : 0 < l.from → IsCharBoundary l.part l.from;
  written : string_bytes l.text ++ take (l.i - l.from) (drop l.from l.part) ≡ string_bytes l.initial.text ++ escaped (take l.i l.part);
}
