-- The rows of counters: how a counter is read, and what each starts as.
use Rattle.std.specs.Prelude.{ℕ, ◌==◌, List, slice_index, slice_index_or, if◌then◌else◌}
use Rattle.merge_core.specs.declared.cell.Cell.{Cell}
use Rattle.merge_core.specs.declared.cell.Cell.TheVariants.{Out, Taken, Ann, Fin}
use Rattle.merge_core.specs.declared.delta.Row.{Row}
use Rattle.merge_core.specs.Layout.{Shape, RecordShape}

-- the counters of one row, whoever's it is
pub record RowCounters : Type 0 where
  pub out : List ℕ
  pub taken : ℕ
  pub ann : ℕ
  pub fin : ℕ

-- the counter of a row; one that the row lacks is 0
abbrev pub counter_in : RowCounters → Cell → ℕ
counter_in row (Out j) = slice_index row.out j
counter_in row Taken = row.taken
counter_in row Ann = row.ann
counter_in row Fin = row.fin

-- the counters of a delta's row
abbrev pub counters_of : Row → RowCounters
counters_of p = record { out = p.out; taken = p.taken; ann = p.ann; fin = p.fin }

abbrev pub no_record : RecordShape
no_record = record { seats = 0; home = 0 }

-- the seats that site s is granted of record r at the start: all at the record's home, none elsewhere
abbrev pub grant : Shape → ℕ → ℕ → ℕ
grant shape r s =
    let it = slice_index_or shape.records r no_record in if s == it.home then it.seats else 0

-- a counter before any operation: the grant stands on the diagonal, and all else is 0
abbrev pub start_counter : Shape → ℕ → ℕ → Cell → ℕ
start_counter shape r s (Out j) = if j == s then grant shape r s else 0
start_counter shape r s Taken = 0
start_counter shape r s Ann = 0
start_counter shape r s Fin = 0
