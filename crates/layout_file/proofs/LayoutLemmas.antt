-- Layout files: the keys of a table, and the records of an array one by one.
use Rattle.std.proofs.Common.{◌≡◌, ℕ, List, [], ◌∷◌, ◌++◌, length, Option, Some, None, String, Global, refl, sym, ap, ◌∙◌, arith}
use Rattle.toml.specs.declared.value.Value.{Value}
use Rattle.toml.specs.Data.{Data, string, integer, float, boolean, datetime, array, table, as_table, Members}
use Rattle.toml.specs.View.{members_view}
use Rattle.merge_core.specs.declared.layout.RecordSpec.{RecordSpec}
use Rattle.layout_file.specs.LayoutFile.{count_members, key_count}

-- the members that stand for the entries of a map are as many
members_counted : (es : List (String Global × Value)) → count_members (members_view es) ≡ length es
members_counted [] = refl
members_counted (e ∷ es) = omega (arith, members_counted es)

keys_of_table : (d : Data) (ms : Members) → Some ms ≡ as_table d → key_count d ≡ count_members ms
keys_of_table (string s) ms is = cc
keys_of_table (integer z) ms is = cc
keys_of_table (float x) ms is = cc
keys_of_table (boolean b) ms is = cc
keys_of_table (datetime dt) ms is = cc
keys_of_table (array ds) ms is = cc
keys_of_table (table all) ms is = let same : ms ≡ all = cc in ap count_members (sym same)

pub keys_counted : (d : Data) (es : List (String Global × Value)) (n : ℕ) → Some (members_view es) ≡ as_table d → n ≡ length es
    → n ≡ key_count d
keys_counted d es n is count = count ∙ sym (members_counted es) ∙ sym (keys_of_table d (members_view es) is)

-- records in front of those that are read behind them
abbrev pub with_front : List RecordSpec → Option (List RecordSpec) → Option (List RecordSpec)
with_front done None = None
with_front done (Some rs) = Some (done ++ rs)
