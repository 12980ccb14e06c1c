-- A row that a book lends, as a row (this project's own).
use Rattle.merge_core.specs.declared.delta.Row.{Row}
use Rattle.merge_core.specs.declared.book.lending.LentRow.{LentRow}

abbrev pub lent_row : LentRow → Row
lent_row row = record { r = row.r; s = row.s; out = row.out.now; taken = row.taken; ann = row.ann; fin = row.fin }
