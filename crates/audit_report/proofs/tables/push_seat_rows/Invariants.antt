use Rattle.std.proofs.Common.{◌≡◌, ◌++◌, string_bytes}
use Rattle.multi_site_world.specs.World.{World}
use Rattle.multi_site_world.specs.Worlds.{StandsForWorld}
use Rattle.audit_report.specs.Lines.{texts_below}
use Rattle.audit_report.specs.Tables.{seat_row}
use Rattle.audit_report.proofs.tables.push_seat_rows.Given as goal

abbrev pub invariant-loop-i : goal.invariant-loop-i
invariant-loop-i l =
    (m : World) → StandsForWorld m l.world
    → string_bytes l.text ≡ string_bytes l.initial.text ++ texts_below l.i (λ i. seat_row m l.r i)
