-- The examples of schemas that this program makes, and of others.
use Rattle.std.proofs.Common.{◌≡◌, ℕ, true, false, List, get_or, codes, refl, sym, ap, ◌∙◌, ◌+◌, ◌≤◌, arith}
use Rattle.std.proofs.lemmas.Bool.{false≢true}
use Rattle.sqlite_schema.specs.Names.{same_name}
use Rattle.sqlite_schema.specs.declared.schema.Schema.{Schema}
use Rattle.store_schema.specs.declared.Version.{Version}
use Rattle.store_schema.specs.declared.Version.TheVariants.{First, Second}
use Rattle.store_schema.specs.Tables.{behind, is_own_name, meta_table, others_in, schema_3, schema_4}
use Rattle.own_schema.specs.Made.{IsForeign, IsMadeHere}
use Rattle.own_schema.specs.Examples.{with_exchange, with_index, with_reference}
use Rattle.own_schema.proofs.OriginLemmas.{first_made, table_count}

pub first_is : IsMadeHere First schema_3
first_is = first_made schema_3 refl

pub second_is : IsMadeHere Second schema_4
second_is = (refl, record { trees = tt; indexes = tt; references = tt })

lower_apart : is_own_name (codes "more") ≡ false
unfolding same_name
lower_apart = refl

pub beside_is : IsMadeHere Second (with_reference (codes "more"))
beside_is = (refl, record { trees = (omega arith, tt); indexes = tt; references = ((lower_apart, tt), tt) })

-- a schema of so many tables is foreign where it is none of the second version
four_or_more : (s : Schema) (n : ℕ) → table_count s ≡ 4 + n → ¬ IsMadeHere Second s → IsForeign s
four_or_more s n many no_second = record {
  some = λ none. (let count : table_count s ≡ 0 = ap table_count none in omega (arith, many, count));
  elsewhere = by;
}
  where
    by : (v : Version) → ¬ IsMadeHere v s
    by First = λ made. (let count : table_count s ≡ 3 = ap table_count made.0 in omega (arith, many, count))
    by Second = no_second

refers : (parent : List ℕ) → is_own_name parent ≡ true → IsForeign (with_reference parent)
refers parent own = four_or_more (with_reference parent) 1 refl (λ made. (let apart : is_own_name parent ≡ false = made.1.references.0.0 in false≢true (sym apart ∙ own)))

pub cells_is : is_own_name (codes "cells") ≡ true
unfolding same_name
cells_is = refl

pub capital_is : is_own_name (codes "Cells") ≡ true
unfolding same_name
capital_is = refl

pub referring_is : IsForeign (with_reference (codes "cells"))
referring_is = refers (codes "cells") cells_is

pub any_case_is : IsForeign (with_reference (codes "Cells"))
any_case_is = refers (codes "Cells") capital_is

-- the first letter of the first table
first_letter : Schema → ℕ
first_letter s = get_or (get_or s.tables 0 meta_table).name 0 0

pub exchanged_is : IsForeign with_exchange
unfolding first_letter
exchanged_is = four_or_more with_exchange 0 refl (λ made. (let clash : first_letter with_exchange ≡ first_letter (behind schema_4 (others_in with_exchange)) = ap first_letter made.0 in let apart : ◌≡◌ {A = ℕ} 99 109 = clash in omega (arith, apart)))

pub indexed_is : IsForeign with_index
indexed_is = four_or_more with_index 0 refl (λ made. (let apart : 9 ≤ 2 = made.1.indexes.0 in omega (arith, apart)))
