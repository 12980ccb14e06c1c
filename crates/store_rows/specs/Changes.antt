-- What a commit makes of the content of a store.
use Rattle.std.specs.Prelude.{ℕ, ◌==◌, ◌&&◌, not, Bool, List, Option, Some, None}
use Rattle.std.specs.List.{filter}
use Rattle.store_rows.specs.declared.content.StoredCell.{StoredCell}
use Rattle.store_rows.specs.declared.content.StoredSession.{StoredSession}
use Rattle.store_rows.specs.declared.content.StoredNotice.{StoredNotice}
use Rattle.store_rows.specs.declared.content.SessionEdit.{SessionEdit}
use Rattle.store_rows.specs.declared.content.SessionEdit.TheVariants.{Put, Dropped}
use Rattle.store_schema.specs.declared.Version.TheVariants.{Second}
use Rattle.store_rows.specs.Rows.{Stored, cell_before, session_before, notice_before}
use Rattle.store_rows.specs.Sorted.{put, put_all}

-- a session is that of a holder at a record
abbrev pub is_of : ℕ → ℕ → StoredSession → Bool
is_of r h s = (s.r == r) && (s.h == h)

-- the sessions that are not of a holder at a record
abbrev pub without : ℕ → ℕ → List StoredSession → List StoredSession
without r h = filter (λ s. not (is_of r h s))

-- the sessions after an edit
abbrev pub edited : Option SessionEdit → List StoredSession → List StoredSession
edited None sessions = sessions
edited (Some (Put s)) sessions = put session_before s (without s.r s.h sessions)
edited (Some (Dropped r h)) sessions = without r h sessions

-- a content after a commit
abbrev pub changed : List StoredCell → List StoredNotice → Option SessionEdit → Stored → Stored
changed cells notices edit it = record it {
  cells = put_all cell_before cells it.cells;
  notices = put_all notice_before notices it.notices;
  sessions = edited edit it.sessions;
}

-- a content brought to the second version and to a layout line
abbrev pub renewed : List ℕ → Stored → Stored
renewed layout it = record it { version = Second; layout = layout }
