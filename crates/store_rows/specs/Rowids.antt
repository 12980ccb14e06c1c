-- How many rows more the tables of a store can take, since each new row has the rowid after the last.
use Rattle.std.specs.Prelude.{ℕ, pos, ◌+ℤ◌, Bool, ◌&&◌}
use Rattle.std.specs.List.{list_all}
use Rattle.sqlite_value.specs.Order.{Row}
use Rattle.sqlite_trees.specs.Tree.{Trees, rowid}
use Rattle.sqlite_sql.specs.Ops.{fits_i64}
use Rattle.sqlite_rules.specs.Edit.{id_in}
use Rattle.store_schema.specs.Tables.{meta_tree, cells_tree, sessions_tree, notices_tree}

-- a rowid, and the one so many above it, are numbers of 64 bits
abbrev pub has_room_above : ℕ → Row → Bool
has_room_above k row = fits_i64 (id_in (rowid row)) && fits_i64 (id_in (rowid row) +ℤ pos k)

-- so many rows can be added to any of the tables
abbrev pub has_room : ℕ → Trees → Bool
has_room k db =
    fits_i64 (pos 1 +ℤ pos k)
    && (list_all (has_room_above k) (db meta_tree)
    && (list_all (has_room_above k) (db cells_tree)
    && (list_all (has_room_above k) (db sessions_tree) && list_all (has_room_above k) (db notices_tree))))
