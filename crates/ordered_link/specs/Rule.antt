-- The rule of a channel with one pass that puts and one that takes: the parcels put so far are those taken so far, and
-- behind them those that it still holds, of which there are at most 16 (this project's own; a bounded first-in first-out
-- queue).
use Rattle.std.specs.Prelude.{◌≡◌, ◌≤◌, ℕ, Bool, true, List, ◌++◌, length}
use mathlib.Core.Option.{some}
use lib.ListN.{get_elem?}
use Rattle.ordered_link.specs.declared.rule.Parcel.{Parcel}
use Rattle.ordered_link.specs.declared.rule.Log.{Log}

-- how many parcels a link holds at most
abbrev pub link_capacity : ℕ
link_capacity = 16

abbrev pub log : Bool → Bool → List Parcel → List Parcel → Log
log puts takes put taken = record { puts = puts; takes = takes; put = put; taken = taken }

-- a pass that puts has the number of the one that does, and knows what was put; and so of takes
abbrev pub Fits : ℕ → ℕ → List Parcel → List Parcel → ℕ → Log → Type 0
Fits putter taker put taken port v = (v.puts ≡ true → (port ≡ putter) × (v.put ≡ put)) × (v.takes ≡ true → (port ≡ taker) × (v.taken ≡ taken))

abbrev pub InOrder : List Parcel → List Log → Type 0
InOrder items views = (putter : ℕ) × (taker : ℕ) × (put : List Parcel) × (taken : List Parcel) × (put ≡ taken ++ items)
    × ((port : ℕ) (v : Log) → get_elem? views port ≡ some v → Fits putter taker put taken port v) × (length items ≤ link_capacity)
