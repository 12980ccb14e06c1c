use Rattle.std.proofs.Common.{◌≡◌, ◌+◌, ◌≤◌, true, length, string_bytes}
use Rattle.text_input.specs.Lines.{lines_of}
use Rattle.desk_log.specs.Desk.{account_of, is_frozen}
use Rattle.site_script.specs.Served.{SameOpening, Grows, places_of}
use Rattle.site_script.specs.Steps.{AnsweredFrom, AnsweredSoFar}
use Rattle.site_script.proofs.serving.serve_script.Given as goal

abbrev pub invariant-loop-rest : goal.invariant-loop-rest
invariant-loop-rest g l = record {
  so_far :
      AnsweredSoFar (AnsweredFrom (is_frozen l.initial.desk) (account_of l.initial.desk) (places_of l.initial.desk) l.desk) l.initial.desk.core.layout.records
      (lines_of l.script) (lines_of l.rest) l.number (string_bytes l.text);
  still : is_frozen l.initial.desk ≡ true → l.desk ≡ l.initial.desk;
  opening : SameOpening l.initial.desk l.desk;
  grown : Grows l.pass l.initial.desk l.desk;
  counted : l.number + length l.rest ≤ length l.script;
}

abbrev pub decreases-loop-rest : goal.decreases-loop-rest
decreases-loop-rest g l = length l.rest
