use Rattle.std.proofs.Common.{◌≡◌, ◌++◌, string_bytes}
use Rattle.multi_site_world.specs.World.{World}
use Rattle.multi_site_world.specs.Worlds.{StandsForWorld}
use Rattle.audit_report.specs.Lines.{texts_below}
use Rattle.audit_report.specs.Tables.{seat_row, seat_header}
use Rattle.audit_report.proofs.tables.seat_table.Given as goal

abbrev pub invariant-loop-r : goal.invariant-loop-r
invariant-loop-r l =
    (m : World) → StandsForWorld m l.world
    → string_bytes l.text ≡ seat_header ++ texts_below l.r (λ r. texts_below m.layout.sites (λ i. seat_row m r i))
