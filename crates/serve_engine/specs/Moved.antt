-- The text that a move of a site to the next generation of its group prints (the project's own): the site's whole delta behind
-- a mark of its own. No name has a colon, so no site sends such a text, and none takes it.
use Rattle.std.specs.Prelude.{◌≡◌, ◌≢◌, ◌⊎◌, ℕ, Bool, true, false, List, ◌++◌, codes, Some, Err}
use Rattle.merge_core.specs.declared.layout.RecordSpec.{RecordSpec}
use Rattle.merge_core.specs.Delta.{DeltaState}
use Rattle.delta_codec.specs.declared.fault.DecodeError.TheVariants.{Memory}
use Rattle.delta_codec.specs.Decodes.{Decodes}
use Rattle.delta_codec.specs.DeltaText.{delta_text}
use Rattle.serve_engine.specs.declared.marks.MarkFault.{MarkFault}
use Rattle.serve_engine.specs.declared.marks.MarkFault.TheVariants.{WrongGroup}
use Rattle.serve_engine.specs.declared.moved_texts.TextFault.TheVariants.{Unmarked, Unread}
use Rattle.serve_engine.specs.declared.moved_texts.TextStop.{TextStop}
use Rattle.serve_engine.specs.declared.moved_texts.TextStop.TheVariants.{NoRoom, Refused}
use Rattle.serve_engine.specs.Marks.{IsFault, IsMarked, Mark, mark_of, records_digest, text_digest, with_mark}

-- the first word of its mark
abbrev pub moved_word : List ℕ → List ℕ
moved_word name = name ++ codes ":moved"

abbrev pub moved_mark : List RecordSpec → List ℕ → List ℕ → Mark
moved_mark records name text = record { group = moved_word name; records = records_digest records; checksum = text_digest text }

abbrev pub moved_text : List RecordSpec → List ℕ → DeltaState → List ℕ
moved_text records name d = with_mark (moved_mark records name (delta_text d)) (delta_text d)

-- ---- texts of which a site is built again

-- A line is such a text behind its mark: that of a move to the group; or, where the site is lost alone, that of a text that a
-- site of the group sends.
abbrev pub IsTold : List RecordSpec → List ℕ → Bool → List ℕ → List ℕ → Type 0
IsTold records name alone line text =
    IsMarked line (moved_mark records name text) text
    ⊎ ((alone ≡ true) × IsMarked line (mark_of (Some name) (records_digest records) text) text)

-- A line is none, by the first fault at the mark of a move; or, where the site is lost alone and that mark is of another group,
-- by the first fault at the mark of a text that is sent.
pub record IsUntold (records : List RecordSpec) (name : List ℕ) (alone : Bool) (line : List ℕ) (fault : MarkFault) : Type 0 where
  pub moved : MarkFault
  pub at_moved : IsFault (Some (moved_word name)) (records_digest records) line moved
  pub sent : alone ≡ true → moved ≡ WrongGroup → IsFault (Some name) (records_digest records) line fault
  pub together : alone ≡ false → fault ≡ moved
  pub other : moved ≢ WrongGroup → fault ≡ moved

-- why a line gives no delta: memory ran out, it is not behind such a mark, or what stands there is no delta's text
abbrev pub IsTextStop : List RecordSpec → List ℕ → Bool → List ℕ → TextStop → Type 0
IsTextStop records name alone line NoRoom = Unit {0}
IsTextStop records name alone line (Refused (Unmarked fault)) = IsUntold records name alone line fault
IsTextStop records name alone line (Refused (Unread e)) =
    (text : List ℕ) × IsTold records name alone line text × Decodes text (Err e) × (e ≢ Memory)

-- .. before its text is read. For private clauses.
abbrev pub IsUntoldStop : List RecordSpec → List ℕ → Bool → List ℕ → TextStop → Type 0
IsUntoldStop records name alone line NoRoom = Unit {0}
IsUntoldStop records name alone line (Refused (Unmarked fault)) = IsUntold records name alone line fault
IsUntoldStop records name alone line (Refused (Unread e)) = ⊥
