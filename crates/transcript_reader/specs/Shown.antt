-- An entry that asks for a snapshot and is answered by the one that a core makes; and, for private clauses, how the rows of that
-- are gone through in its text.
use Rattle.std.specs.Prelude.{◌≡◌, ℕ, Bool, true, false, List, [], ◌∷◌, ◌++◌, Option, codes}
use Rattle.merge_core.specs.declared.delta.Row.{Row}
use Rattle.merge_core.specs.declared.layout.RecordSpec.{RecordSpec}
use Rattle.merge_core.specs.Book.{book_shape, counter_of}
use Rattle.merge_core.specs.Delta.{DeltaState}
use Rattle.merge_core.specs.Moved.{all_moved}
use Rattle.admission_model.specs.declared.ask.Call.TheVariants.{Snapshot}
use Rattle.admission_model.specs.declared.reply.Reply.TheVariants.{Snapshot as SnapshotReply}
use Rattle.admission_model.specs.Account.{Account}
use Rattle.admission_model.specs.Merging.{snapshot_of}
use Rattle.admission_core.specs.Core.{Core, Stands, core_view}
use Rattle.desk_log.specs.declared.entry.Entry.{Entry}
use Rattle.text_parts.specs.Lists.{joined, later}
use Rattle.text_parts.specs.Readers.{◌>>=◌, after}
use Rattle.delta_codec.specs.DeltaText.{row_text}
use Rattle.transcript_text.specs.Quoted.{escaped}
use Rattle.transcript_text.specs.Texts.{entry_text}
use Rattle.transcript_reader.specs.Fits.{FitsEntry}
use Rattle.transcript_reader.specs.Readers.{pass_behind}

-- the entry of a pass that asks for the snapshot of a core
abbrev pub snapshot_entry : ℕ → Core → Entry
snapshot_entry pass c = record { pass = pass; call = Snapshot; reply = SnapshotReply (snapshot_of (core_view c)) }

-- a line is an entry that asks for a core's snapshot and is answered by it, whatever the records' names
pub record ShowsSnapshot (c : Core) (line : List ℕ) : Type 0 where
  pub pass : ℕ
  pub fits : FitsEntry (snapshot_entry pass c)
  pub text : (records : List RecordSpec) → line ≡ entry_text records (snapshot_entry pass c)

-- it is, if the core stands for some account
abbrev pub IsOwnSnapshot : Core → List ℕ → Type 0
IsOwnSnapshot c line = (a : Account) → Stands a c → ShowsSnapshot c line

-- the same snapshot, by the book alone
abbrev pub book_snapshot : Core → DeltaState
book_snapshot c = record { from = c.site; rows = all_moved (book_shape c.book) (counter_of c.book) }

-- the text of rows, of which the first stands without a comma if no row is in front of it
abbrev pub rows_text : Bool → List Row → List ℕ
rows_text true rows = joined row_text rows
rows_text false rows = later row_text rows

-- no row is in front of what follows these
abbrev pub is_first_behind : Bool → List Row → Bool
is_first_behind first [] = first
is_first_behind first (p ∷ ps) = false

-- bytes begin with these rows between quotes; what is behind them, and whether no row is in front of that
pub record BeginsWithRows (first : Bool) (rows : List Row) (bytes : List ℕ) (still_first : Bool) (rest : List ℕ) : Type 0 where
  pub text : bytes ≡ escaped (rows_text first rows) ++ rest
  pub flag : still_first ≡ is_first_behind first rows

-- the pass of an entry that asks for a snapshot, and the bytes from its reply on
unfoldable pub pass_of_send : List ℕ → Option (ℕ × List ℕ)
pass_of_send line = do
  front ← after (codes "{\"call\":\"") line
  behind ← after (codes "send\"") front
  pass_behind behind
