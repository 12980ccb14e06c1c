-- The report tables of a world: what each site counts for itself, and who is there (texts of the project's own).
use Rattle.std.specs.Prelude.{ℕ, ◌-◌, List, [], ◌++◌, length, slice_index_or, codes}
use Rattle.merge_core.specs.declared.cell.Cell.TheVariants.{Ann, Fin}
use Rattle.merge_core.specs.declared.layout.RecordSpec.{RecordSpec}
use Rattle.admission_model.specs.Account.{Account, own, inside, sessions_of}
use Rattle.admission_model.specs.View.{view_of, rights_of}
use Rattle.multi_site_world.specs.World.{World, account_at}
use Rattle.audit_report.specs.declared.lines.SeatCounts.{SeatCounts}
use Rattle.audit_report.specs.Lines.{texts_below, seat_line, session_lines}

-- the name of a record; one that is not there has none
abbrev pub name_in : List RecordSpec → ℕ → List ℕ
name_in records r = (slice_index_or records r (record { name = []; seats = 0; home = 0; problem = 0 })).name

-- the counts of a record in an account
abbrev pub counts_in : Account → ℕ → SeatCounts
counts_in a r = record { rights = rights_of (view_of a) r; inside = inside a r; unfinished = own a r Ann - own a r Fin }

-- the line of a record and a site, from the site's own account
abbrev pub seat_row : World → ℕ → ℕ → List ℕ
seat_row w r i = seat_line (name_in w.layout.records r) i (counts_in (account_at w i) r)

abbrev pub seat_header : List ℕ
seat_header = codes "record           site  rights  inside  unfinished\n"

-- the seat table: a line for each record and site, by record and then by site
abbrev pub seat_table : World → List ℕ
seat_table w = seat_header ++ texts_below (length w.layout.records) (λ r. texts_below w.layout.sites (λ i. seat_row w r i))

-- the lines of a record and a site, from the site's own account, in order of arrival
abbrev pub session_rows : World → ℕ → ℕ → List ℕ
session_rows w r i = session_lines (name_in w.layout.records r) i r (sessions_of (account_at w i))

abbrev pub session_header : List ℕ
session_header = codes "record           site         holder  phase\n"

-- the session table: a line for each reader, waiting writer and writer, by record, then by site, then in order of
-- arrival
abbrev pub session_table : World → List ℕ
session_table w = session_header ++ texts_below (length w.layout.records) (λ r. texts_below w.layout.sites (λ i. session_rows w r i))
