-- What the report of a sending end says of the texts that it put (this project's own).
use Rattle.std.specs.Prelude.{◌≡◌, ℕ, ◌+◌, ◌≤◌, ⊤, List, [], ◌∷◌, length, slice_get, Option, Some, None}
use Rattle.merge_core.specs.Delta.{DeltaState}
use Rattle.session_book.specs.declared.pass.Receipt.{Receipt}
use Rattle.exchange_threads.specs.Outbox.{sent_text, shown_receipt}

-- The places rise from the first on, and each is that of the receipt of its snapshot.
abbrev pub AreShownAt : List Receipt → ℕ → List ℕ → List DeltaState → Type 0
AreShownAt rs first [] [] = ⊤
AreShownAt rs first (at ∷ ats) (d ∷ ds) = (first ≤ at) × (slice_get rs at ≡ Some (shown_receipt d)) × AreShownAt rs (at + 1) ats ds
AreShownAt rs first [] (d ∷ ds) = ⊥
AreShownAt rs first (at ∷ ats) [] = ⊥

-- The texts of snapshots from number m on, where the last text before them was that of `kept`: each 16th is whole, and
-- every other has the rows that the snapshot before it has not.
abbrev pub texts_from : ℕ → Option DeltaState → List DeltaState → List (List ℕ)
texts_from m kept [] = []
texts_from m kept (d ∷ ds) = sent_text m kept d ∷ texts_from (m + 1) (Some d) ds

-- the last of the snapshots, or the one before them
abbrev pub last_of : Option DeltaState → List DeltaState → Option DeltaState
last_of kept [] = kept
last_of kept (d ∷ ds) = last_of (Some d) ds

-- Of a pass with these receipts, of which those from the first place on are new: for each text that was put there is the
-- place of a new receipt of a snapshot, the places rise, and the texts are those of these snapshots.
pub record AreSent (rs : List Receipt) (first : ℕ) (places : List ℕ) (texts : List (List ℕ)) (n : ℕ) (last : Option DeltaState) : Type 0 where
  pub begun : first ≤ length rs
  pub snapshots : List DeltaState
  pub shown : AreShownAt rs first places snapshots
  pub texts_are : texts ≡ texts_from 0 None snapshots
  pub number : n ≡ length snapshots
  pub latest : last ≡ last_of None snapshots
