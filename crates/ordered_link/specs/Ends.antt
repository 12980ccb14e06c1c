-- The two ends of a link, as contracts see them (this project's own).
use Rattle.std.specs.Prelude.{◌≡◌, ℕ, Bool, true, false, List, [], ◌∷◌, string_bytes}
use Rattle.atomic_table.specs.Seated.{TableId}
use Rattle.atomic_table.specs.declared.badge.Badge.{Badge}
use Rattle.crossbeam_channel.specs.declared.flavors.array.Key.{Key}
use Rattle.crossbeam_channel.specs.Claims.{Pass, view}
use Rattle.ordered_link.specs.declared.rule.Parcel.{Parcel}
use Rattle.ordered_link.specs.declared.rule.Parcel.TheVariants.{Text, Last}
use Rattle.ordered_link.specs.declared.rule.Log.{Log}

-- the texts among parcels, in order
abbrev pub texts_of : List Parcel → List (List ℕ)
texts_of [] = []
texts_of (Text s ∷ ps) = string_bytes s ∷ texts_of ps
texts_of (Last ∷ ps) = texts_of ps

-- the word that no text will follow is among the parcels
abbrev pub is_finished : List Parcel → Bool
is_finished [] = false
is_finished (Text s ∷ ps) = is_finished ps
is_finished (Last ∷ ps) = true

-- the texts behind the first word that no text will follow
abbrev pub late_texts : List Parcel → List (List ℕ)
late_texts [] = []
late_texts (Text s ∷ ps) = late_texts ps
late_texts (Last ∷ ps) = texts_of ps

-- what tells one link from another
abbrev pub LinkId : Type 0
LinkId = TableId × Badge (Key Parcel)

abbrev pub LinkPass : Type 0
LinkPass = Pass Parcel Log

-- the link that a pass belongs to
abbrev pub link_of : LinkPass → LinkId
link_of p = (p.table_id, p.me.0.of)

-- the texts that a pass has put, and those that it has taken
abbrev pub put_by : LinkPass → List (List ℕ)
put_by p = texts_of (view p).put

-- the pass has put the word that no text will follow
abbrev pub finished_by : LinkPass → Bool
finished_by p = is_finished (view p).put

-- the texts that it has put behind that word
abbrev pub late_by : LinkPass → List (List ℕ)
late_by p = late_texts (view p).put

abbrev pub taken_by : LinkPass → List (List ℕ)
taken_by p = texts_of (view p).taken

-- the pass has taken that word
abbrev pub ended_by : LinkPass → Bool
ended_by p = is_finished (view p).taken

-- the pass is the one that puts, or the one that takes
abbrev pub MayPut : LinkPass → Type 0
MayPut p = (view p).puts ≡ true

abbrev pub MayTake : LinkPass → Type 0
MayTake p = (view p).takes ≡ true

-- an end at which texts are put
pub record PutterState : Type 0 where
  pub link : LinkId
  -- how many parcels the link holds at most
  pub capacity : ℕ
  pub put : List (List ℕ)
  -- the word that no text will follow was put
  pub finished : Bool
  -- the texts that were put behind it
  pub late : List (List ℕ)
  -- a put was refused, since the other end is closed
  pub closed : Bool

-- an end at which texts are taken, or what is left of it
pub record TakerState : Type 0 where
  pub link : LinkId
  pub taken : List (List ℕ)
  -- the word that no text will follow was taken
  pub finished : Bool
  -- a take found that no text will come, while the end had a receiver
  pub ended : Bool
  -- it has a receiver, since it has not been closed
  pub receives : Bool
