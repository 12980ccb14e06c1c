-- What a commit of the rows of several changes makes of the content of a store (group commit; this project's own words).
use Rattle.std.specs.Prelude.{◌≡◌, ⊤, List, [], ◌∷◌, Some, All}
use Rattle.store_schema.specs.declared.Version.TheVariants.{Second}
use Rattle.store_rows.specs.declared.content.StoredCell.{StoredCell}
use Rattle.store_rows.specs.declared.content.StoredNotice.{StoredNotice}
use Rattle.store_rows.specs.declared.content.StoredSession.{StoredSession}
use Rattle.store_rows.specs.declared.content.SessionEdit.{SessionEdit}
use Rattle.store_rows.specs.Rows.{Stored, cell_before, notice_before}
use Rattle.store_rows.specs.Sorted.{put_all}
use Rattle.store_rows.specs.Changes.{edited}
use Rattle.store_rows.specs.Holding.{Parts}
use Rattle.store_rows.specs.Steps.{HasFreePlace, IsStorable}

-- the sessions after several edits, the first one first
abbrev pub edited_all : List SessionEdit → List StoredSession → List StoredSession
edited_all [] sessions = sessions
edited_all (edit ∷ edits) sessions = edited_all edits (edited (Some edit) sessions)

-- a content after a commit of the rows of several changes
abbrev pub changed_all : List StoredCell → List StoredNotice → List SessionEdit → Stored → Stored
changed_all cells notices edits it = record it {
  cells = put_all cell_before cells it.cells;
  notices = put_all notice_before notices it.notices;
  sessions = edited_all edits it.sessions;
}

-- parts with the sessions after several edits
abbrev pub with_edits : List SessionEdit → Parts → Parts
with_edits edits p = record p { sessions = edited_all edits p.sessions }

-- no other session has the place of one that is put, once the edits before it were made
abbrev pub HaveFreePlaces : List SessionEdit → List StoredSession → Type 0
HaveFreePlaces [] sessions = ⊤
HaveFreePlaces (edit ∷ edits) sessions = HasFreePlace (Some edit) sessions × HaveFreePlaces edits (edited (Some edit) sessions)

-- the numbers of edits are such as a store takes
abbrev pub AreStorable : List SessionEdit → Type 0
AreStorable edits = All (λ edit. IsStorable (Some edit)) edits

-- such a commit asks of the content that it is of the second version and that the places of sessions are free
pub record TakesAll (edits : List SessionEdit) (it : Stored) : Type 0 where
  pub second : it.version ≡ Second
  pub free : HaveFreePlaces edits it.sessions
