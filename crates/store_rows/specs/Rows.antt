-- What a store holds, and the row that each part of it has in its table.
use Rattle.std.specs.Prelude.{ℕ, Bool, ◌==◌, ◌&&◌, ◌||◌, nat_lt, List, [], ◌∷◌, Option, Some, None, pos, codes, if◌then◌else◌}
use Rattle.sqlite_value.specs.declared.value.Value.TheVariants.{Int, Text}
use Rattle.sqlite_value.specs.Order.{Row}
use Rattle.store_schema.specs.declared.Version.{Version}
use Rattle.store_schema.specs.declared.Version.TheVariants.{First, Second}
use Rattle.store_rows.specs.declared.content.StoredCell.{StoredCell}
use Rattle.store_rows.specs.declared.content.StoredSession.{StoredSession}
use Rattle.store_rows.specs.declared.content.StoredNotice.{StoredNotice}
use Rattle.store_rows.specs.declared.content.Stage.{Stage}
use Rattle.store_rows.specs.declared.content.Stage.TheVariants.{Reader, Waiting, Writer}

-- what a store holds: two lines of its table meta beside its version, and the rows of the other tables in order
pub record Stored : Type 0 where
  pub version : Version
  pub site : List ℕ
  pub layout : List ℕ
  pub cells : List StoredCell
  pub sessions : List StoredSession
  pub notices : List StoredNotice

-- the number of a stage in the store
abbrev pub stage_number : Stage → ℕ
stage_number Reader = 1
stage_number Waiting = 2
stage_number Writer = 3

-- the stage that a number stands for
abbrev pub stage_of : ℕ → Option Stage
stage_of n = if n == 1 then Some Reader else (if n == 2 then Some Waiting else (if n == 3 then Some Writer else None))

-- counters go by record, then by slot
abbrev pub cell_before : StoredCell → StoredCell → Bool
cell_before c d = nat_lt c.r d.r || ((c.r == d.r) && nat_lt c.slot d.slot)

-- sessions go by place
abbrev pub session_before : StoredSession → StoredSession → Bool
session_before s t = nat_lt s.place t.place

-- notices go by record, then by site
abbrev pub notice_before : StoredNotice → StoredNotice → Bool
notice_before n m = nat_lt n.r m.r || ((n.r == m.r) && nat_lt n.site m.site)

-- the rows of the tables, without their rowids
abbrev pub mark_row : List ℕ → List ℕ → Row
mark_row name value = Text name ∷ Text value ∷ []

abbrev pub cell_row : StoredCell → Row
cell_row c = Int (pos c.r) ∷ Int (pos c.slot) ∷ Int (pos c.n) ∷ []

abbrev pub session_row : StoredSession → Row
session_row s = Int (pos s.r) ∷ Int (pos s.h) ∷ Int (pos (stage_number s.stage)) ∷ Int (pos s.place) ∷ []

abbrev pub notice_row : StoredNotice → Row
notice_row n = Int (pos n.r) ∷ Int (pos n.site) ∷ Int (pos n.announced) ∷ Int (pos n.finished) ∷ []

-- the text that stands for a version
abbrev pub version_text : Version → List ℕ
version_text First = codes "1"
version_text Second = codes "2"
