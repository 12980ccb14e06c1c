-- The mark of an outdated store, set and read.
use Rattle.std.proofs.Common.{◌≡◌, ◌⊎◌, inl, inr, Bool, true, false, List, IsTrue, refl, sym, ap, subst, ◌∙◌}
use Rattle.std.proofs.Math.Logic.{∥∥₁_map}
use Rattle.sqlite_value.specs.declared.value.Value.TheVariants.{Text}
use Rattle.sqlite_value.specs.Order.{Row, column}
use Rattle.sqlite_trees.specs.Tree.{Trees}
use Rattle.sqlite_trees.specs.declared.store.Store.{Ghosts}
use Rattle.sqlite_rules.specs.Lists.{Has}
use Rattle.sqlite.specs.Effect.{Database, IsDatabase}
use Rattle.sqlite.specs.State.{HasCleanDisk, Survives}
use Rattle.sqlite.specs.Held.{Held, state}
use Rattle.store_schema.specs.declared.Version.TheVariants.{Second}
use Rattle.store_schema.specs.Tables.{meta_tree}
use Rattle.store_rows.specs.Rows.{Stored}
use Rattle.store_rows.specs.Holding.{Holds, Leaves, parts_of}
use Rattle.store_rows.specs.Steps.{Brings, Any, with_mark}
use Rattle.store_tables.specs.Marking.{HasOutdatedMark, MarksOutdated, NamesOutdated, ShowsNames, TellsOutdated, outdated_mark, outdated_name}
use Rattle.store_tables.specs.Transacts.{Turns}
use Rattle.store_tables.proofs.KeepLemmas.{store_of}

-- ---- set

-- a mark more leaves a store what it is
pub marked : (a b : Database) → Brings Any (with_mark outdated_mark) a b → MarksOutdated a b
marked a b brings it second h =
    let step = brings (parts_of it) second tt h in
    let all = step.0 in (
      record {
        schema = all.schema;
        apart = all.apart;
        sound = all.sound;
        rows = all.rows;
        numbered = all.numbered;
        marks = (all.marks.0, (all.marks.1.0, (all.marks.1.1.0, tt)));
        cells = all.cells;
        sessions = all.sessions;
        notices = all.notices;
        cells_rise = all.cells_rise;
        sessions_rise = all.sessions_rise;
        notices_rise = all.notices_rise;
      },
      (all.marks.1.1.1.0, step.1),
    )

abbrev pub IsSecond : Stored → Type 0
IsSecond it = it.version ≡ Second

abbrev pub as_it_is : Stored → Stored
as_it_is it = it

-- what it holds stays
pub marks_turn : (a b : Database) → MarksOutdated a b → Turns IsSecond as_it_is a b
marks_turn a b marks it second h = let step = marks it second h in (step.0, step.1.1)

pub marks_show : (it : Stored) → IsSecond it → (a b : Database) → IsDatabase a → Holds it a.trees → MarksOutdated a b → HasOutdatedMark b.trees
marks_show it second a b sound h marks = (marks it second (store_of a it sound h)).1.0

-- one of two that are the same
pub leaves_once : {S : Type 0} (g : Ghosts S) (c : Held S) (P : Trees → Type 0) → Leaves g c (λ db. P db ⊎ P db) → Leaves g c P
leaves_once g c P keeps = record { left = λ clean db left. ∥∥₁_map (keeps.left clean db left) (λ h. elim h [ inl p ↦ p | inr p ↦ p ]) }

-- ---- read

-- the mark is a row of its name
pub mark_names : (db : Trees) → HasOutdatedMark db → NamesOutdated db
mark_names db h = record { row = h.there.0; there = h.there.1; named = ap (λ (x : Row). column x 0) h.there.2 }

pub told_marked : (db : Trees) (found : Bool) → TellsOutdated found db → HasOutdatedMark db → found ≡ true
told_marked db true tells h = refl
told_marked db false tells h = absurd (tells (mark_names db h))

pub told_current : (db : Trees) (found : Bool) → TellsOutdated found db → TellsOutdated false db → found ≡ false
told_current db true tells none = absurd (none tells)
told_current db false tells none = refl

-- what the names of the rows that were shown tell
pub tells_names : (db : Trees) (shown : List Row) (found : Bool) → ShowsNames (db meta_tree) shown → (IsTrue found → (r : Row) × Has shown r × (column r 0 ≡ Text outdated_name))
    → (found ≡ false → (r : Row) → Has shown r → column r 0 ≡ Text outdated_name → ⊥) → TellsOutdated found db
tells_names db shown true shows some none =
    let y = some refl in
    let r = shows.from y.0 y.1 outdated_name y.2 in
    record { row = r.0; there = r.1; named = r.2 }
tells_names db shown false shows some none = λ has.
    let y = shows.each has.row has.there outdated_name has.named in
    none refl y.0 y.1 y.2

module _ {S : Type 0} (g : Ghosts S) (settled : (s : S) (db : Trees) → IsTrue (g.view s).is_open → g.recovers s db → db ≡ (g.view s).committed) where
  -- what an open connection saw is what it leaves, where it committed nothing
  pub leaves_seen : (old new : Held S) (P : Trees → Type 0) → (IsTrue (state g old).is_open → (state g old).now ≡ (state g old).committed) → Survives (state g old) (state g new) (λ _. ⊥)
      → (HasCleanDisk (state g new) → IsTrue (state g old).is_open) → (HasCleanDisk (state g new) → ∥ P (state g old).now.trees ∥₁) → Leaves g new P
  leaves_seen old new P idle survives opened seen = record {
    left = λ clean db left. elim (survives.crash clean db left) [
      | inl earlier ↦
          let up = opened clean in
          let last : db ≡ (state g old).now.trees = settled old.store db up earlier ∙ sym (ap (λ (d : Database). d.trees) (idle up)) in
          subst (λ (t : Trees). ∥ P t ∥₁) (sym last) (seen clean)
      | inr lost ↦ absurd lost
    ];
  }
