use Rattle.std.proofs.Common.{◌≡◌, true, take}
use Rattle.layout_file.specs.Places.{are_free_of}
use Rattle.layout_file.proofs.places.faulty_record.Given as goal

abbrev pub invariant-loop-i : goal.invariant-loop-i
invariant-loop-i l = are_free_of l.error l.sites (take l.i l.records) ≡ true
