-- What an index knows of a content, and how much more it takes.
use Rattle.std.specs.Prelude.{◌≡◌, ◌⊎◌, ⊤, ℕ, ◌+◌, ◌<◌, ◌≤◌, ◌==◌, ◌&&◌, Bool, false, List, length, max, Option, Some, None, unwrap_or, Result, Ok, Err}
use Rattle.std.specs.List.{IsDistinct, fold}
use Rattle.std.specs.Map.{keys_of, lookup, values_of}
use Rattle.indexmap.specs.IndexMap.{spare}
use Rattle.store_rows.specs.declared.content.StoredSession.{StoredSession}
use Rattle.store_rows.specs.declared.content.SessionEdit.{SessionEdit}
use Rattle.store_rows.specs.declared.content.SessionEdit.TheVariants.{Put, Dropped}
use Rattle.store_rows.specs.Rows.{Stored}
use Rattle.store_content.specs.declared.index.Index.{Index}
use Rattle.store_content.specs.declared.index.Full.{Full}
use Rattle.store_content.specs.Content.{place_in, greatest_place, most_places, notice_in}
use Rattle.store_content.specs.Plan.{RowsState}

-- the same record, with the same holder or site
abbrev pub same_key : ℕ × ℕ → ℕ × ℕ → Bool
same_key x y = (x.0 == y.0) && (x.1 == y.1)

-- an index has the places and notices of a content
pub record Knows (index : Index) (it : Stored) : Type 0 where
  pub places : (r h : ℕ) → lookup (same_key (r, h)) index.places.entries ≡ place_in it.sessions r h
  pub notices : (r j : ℕ) → lookup (same_key (r, j)) index.notices.entries ≡ notice_in it.notices r j
  pub unique : IsDistinct same_key (keys_of index.places.entries)
  pub greatest : index.greatest ≡ greatest_place it.sessions

-- the greatest of the values of a map, and 0 where there is none
abbrev pub greatest_value : {K : Type 0} → List (K × ℕ) → ℕ
greatest_value es = fold (λ greatest place. max greatest place) 0 (values_of es)

-- an index takes what rows put without more memory
pub record HasRoom (index : Index) (rows : RowsState) : Type 0 where
  pub places : 1 ≤ spare index.places
  pub notices : length rows.notices ≤ spare index.notices

-- a place is this number
abbrev pub is_place : ℕ → Option ℕ → Bool
is_place n None = false
is_place n (Some place) = place == n

-- the answer for a session of holder h at record r: its place or a new one, or that the greatest place is the last one
abbrev pub IsPlaceFor : ℕ → ℕ → Stored → Result ℕ Full → Type 0
IsPlaceFor r h it (Ok place) = (place ≡ unwrap_or (place_in it.sessions r h) (greatest_place it.sessions + 1)) × ((place_in it.sessions r h ≡ None) → greatest_place it.sessions < most_places)
IsPlaceFor r h it (Err _) = (place_in it.sessions r h ≡ None) × (most_places ≤ greatest_place it.sessions)

-- a session has its place among others, or is new with the place after the greatest
abbrev pub HasPlace : StoredSession → List StoredSession → Type 0
HasPlace s ss = (place_in ss s.r s.h ≡ Some s.place) ⊎ ((place_in ss s.r s.h ≡ None) × (s.place ≡ greatest_place ss + 1))

-- the session of an edit has a place
abbrev pub IsPlacedEdit : SessionEdit → List StoredSession → Type 0
IsPlacedEdit (Put s) ss = HasPlace s ss
IsPlacedEdit (Dropped r h) ss = ⊤
