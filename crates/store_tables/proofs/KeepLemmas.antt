-- What a connection keeps, over a transaction and over a look at it.
use Rattle.std.proofs.Common.{◌≡◌, ◌⊎◌, inl, inr, Result, OnOk, Ok, Err, IsTrue, sym, ap, subst, ◌∙◌, arith}
use Rattle.std.proofs.Math.Logic.{∥∥₁_elim, ∥∥₁_map}
use Rattle.std.proofs.lemmas.Bool.{cases_Bool, both_ways}
use Rattle.sqlite_trees.proofs.Doubt.{clean_of, no_doubt}
use Rattle.sqlite_trees.specs.Tree.{Trees}
use Rattle.sqlite_trees.specs.Objects.{catalog_tree}
use Rattle.sqlite_trees.specs.declared.store.Store.{Ghosts}
use Rattle.sqlite_schema.specs.declared.schema.Schema.{Schema}
use Rattle.sqlite_catalog.proofs.ReadLemmas.{lists_once}
use Rattle.sqlite.specs.Effect.{Database, IsDatabase}
use Rattle.sqlite.specs.declared.error.Error.{Error}
use Rattle.sqlite.specs.State.{State, HasCleanDisk, IsLive, IsUnchanged, KeepsCommit, Survives}
use Rattle.sqlite.specs.Steps.{FailsToCommit}
use Rattle.sqlite.proofs.StateLemmas.{survives_then}
use Rattle.sqlite.specs.Held.{Held, state}
use Rattle.store_schema.specs.Tables.{no_schema}
use Rattle.store_rows.specs.Rows.{Stored}
use Rattle.store_rows.specs.Holding.{IsStoreOf, HasBeside, Holds, HoldsBeside, HoldsNothing, Leaves}
use Rattle.store_rows.proofs.BesideLemmas.{beside_then}
use Rattle.store_tables.specs.Transacts.{HasCommitted, MayCommit, Turns, BecomesStore, made, BecomesFilled, filled}

-- a store's trees hold its content
pub store_holds : (d : Database) (it : Stored) → IsStoreOf d it → Holds it d.trees
store_holds d it h = (d.schema, h)

-- a database whose trees hold a content is a store: its list of objects lists one schema
pub store_of : (d : Database) (it : Stored) → IsDatabase d → Holds it d.trees → IsStoreOf d it
store_of d it sound h =
    let same : d.schema ≡ h.0 = lists_once (d.trees catalog_tree) d.schema h.0 sound.lists h.1.sound.lists in
    subst (λ (s : Schema). IsStoreOf (record { schema = s; trees = d.trees }) it) (sym same) h.1

-- a database whose trees have other tables has them
beside_of : (d others : Database) → IsDatabase d → HoldsBeside others d.trees → HasBeside others d
beside_of d others sound h =
    let same : d.schema ≡ h.0 = lists_once (d.trees catalog_tree) d.schema h.0 sound.lists h.1.0.lists in
    subst (λ (s : Schema). HasBeside others (record { schema = s; trees = d.trees })) (sym same) h.1.1

pub bare : (d : Database) → IsDatabase d → HoldsNothing d.trees → d.schema ≡ no_schema
bare d sound h = lists_once (d.trees catalog_tree) d.schema no_schema sound.lists h.lists

pub turned : (Fits : Stored → Type 0) (f : Stored → Stored) (it : Stored) → Fits it → (a b : Database) → IsDatabase a → Holds it a.trees → Turns Fits f a b → Holds (f it) b.trees
turned Fits f it fits a b sound h turns = store_holds b (f it) (turns it fits (store_of a it sound h)).0

-- a store with other tables behind its own, and those tables alone
abbrev pub HoldsBoth : Stored → Database → Trees → Type 0
HoldsBoth it others db = Holds it db × HoldsBeside others db

-- what stands behind a store's tables stays as it was
pub turned_beside : (Fits : Stored → Type 0) (f : Stored → Stored) (it : Stored) (others : Database) → Fits it → (a b : Database) → IsDatabase a → HoldsBoth it others a.trees → Turns Fits f a b → HoldsBeside others b.trees
turned_beside Fits f it others fits a b sound h turns =
    let step = turns it fits (store_of a it sound h.0) in
    (b.schema, (step.0.sound, beside_then others a b (beside_of a others sound h.1) step.1))

pub made_of : (site layout : _) (a b : Database) → IsDatabase a → HoldsNothing a.trees → BecomesStore site layout a b → Holds (made site layout) b.trees
made_of site layout a b sound h becomes = store_holds b (made site layout) (becomes (bare a sound h))

pub filled_of : (site layout : _) (cells : _) (notices : _) (a b : Database) → IsDatabase a → HoldsNothing a.trees → BecomesFilled site layout cells notices a b
    → Holds (filled site layout cells notices) b.trees
filled_of site layout cells notices a b sound h becomes = store_holds b (filled site layout cells notices) (becomes (bare a sound h))

-- a commit that was refused keeps the one before
refused_keeps : (old new : State) (e : Error) → FailsToCommit old new e → KeepsCommit old new
refused_keeps old new e (inl f) = record { was_open = f.3.was_open; committed = λ o. (f.3.undone o).1 }
refused_keeps old new e (inr same) = record { was_open = λ _. same.2.0.was_open; committed = λ _. same.2.0.committed_is }

module _ {S : Type 0} (g : Ghosts S) (settled : (s : S) (db : Trees) → IsTrue (g.view s).is_open → g.recovers s db → db ≡ (g.view s).committed) (stays : (s : S) → IsTrue (g.view s).is_open → g.recovers s (g.view s).committed) where
  -- the last commit of an open connection is what it leaves
  pub committed_is : (c : Held S) (P : Trees → Type 0) → Leaves g c P → HasCleanDisk (state g c) → IsTrue (state g c).is_open → ∥ P (state g c).committed.trees ∥₁
  committed_is c P keeps clean up = keeps.left clean (state g c).committed.trees (stays c.store up)

  pub leaves_committed : (c : Held S) (P : Trees → Type 0) → (HasCleanDisk (state g c) → IsTrue (state g c).is_open × ∥ P (state g c).committed.trees ∥₁) → Leaves g c P
  leaves_committed c P h = record {
    left = λ clean db left. let now = h clean in subst (λ (t : Trees). ∥ P t ∥₁) (sym (settled c.store db now.0 left)) now.1;
  }

  -- what an open connection sees outside a transaction is its last commit
  pub seen_is : (c : Held S) (P : Trees → Type 0) → Leaves g c P → IsLive (state g c) → (IsTrue (state g c).is_open → (state g c).now ≡ (state g c).committed) → HasCleanDisk (state g c) → IsTrue (state g c).is_open
      → IsDatabase (state g c).now × ∥ P (state g c).now.trees ∥₁
  seen_is c P keeps live idle clean up = ((live up).0, subst (λ (d : Database). ∥ P d.trees ∥₁) (sym (idle up)) (committed_is c P keeps clean up))

  -- a connection that was open and saw no table leaves none, whatever it read
  pub nothing_seen : (old new : Held S) → (state g old).now.schema ≡ no_schema → IsLive (state g old) → (IsTrue (state g old).is_open → (state g old).now ≡ (state g old).committed) → Survives (state g old) (state g new) (λ _. ⊥)
      → (HasCleanDisk (state g new) → IsTrue (state g old).is_open) → Leaves g new HoldsNothing
  nothing_seen old new none live idle survives opened = record {
    left = λ clean db left. elim (survives.crash clean db left) [
      | inl earlier ↦
          let up = opened clean in
          let seen : HoldsNothing (state g old).now.trees = subst (λ (s : Schema). IsDatabase (record { schema = s; trees = (state g old).now.trees })) none (live up).0 in
          let last : db ≡ (state g old).now.trees = settled old.store db up earlier ∙ sym (ap (λ (d : Database). d.trees) (idle up)) in
          ∣ subst HoldsNothing (sym last) seen ∣₁
      | inr lost ↦ absurd lost
    ];
  }

  -- a connection that was open has kept one of two, whatever it read
  pub settles : (old new : Held S) (P Q : Trees → Type 0) (A B : Type 0) → Leaves g old (λ db. P db ⊎ Q db) → IsLive (state g old) → (IsTrue (state g old).is_open → (state g old).now ≡ (state g old).committed)
      → Survives (state g old) (state g new) (λ _. ⊥) → (HasCleanDisk (state g new) → IsTrue (state g old).is_open) → (HasCleanDisk (state g new) → IsDatabase (state g old).now → P (state g old).now.trees → A)
      → (HasCleanDisk (state g new) → IsDatabase (state g old).now → Q (state g old).now.trees → B)
      → ∥ (Leaves g new P × (HasCleanDisk (state g new) → A)) ⊎ (Leaves g new Q × (HasCleanDisk (state g new) → B)) ∥₁
  settles old new P Q A B keeps live idle survives opened one other = elim (cases_Bool (state g new).is_clean) [
    | inl is ↦
        let clean : HasCleanDisk (state g new) = no_doubt (state g new).is_clean is in
        let up = opened clean in
        let seen = seen_is old (λ db. P db ⊎ Q db) keeps live idle (omega (arith, survives.clean)) up in
        ∥∥₁_map seen.1 (λ h. elim h [
          | inl p ↦ inl (stays_so P up p, λ c. one c seen.0 p)
          | inr q ↦ inr (stays_so Q up q, λ c. other c seen.0 q)
        ])
    | inr dirty ↦ ∣ inl (record { left = λ c db left. absurd (both_ways _ dirty (clean_of _ c)) }, λ c. absurd (both_ways _ dirty (clean_of _ c))) ∣₁
  ]
    where
      stays_so : (L : Trees → Type 0) → IsTrue (state g old).is_open → L (state g old).now.trees → Leaves g new L
      stays_so L up h = record {
        left = λ c db left. elim (survives.crash c db left) [
          | inl earlier ↦ ∣ subst L (sym (settled old.store db up earlier ∙ sym (ap (λ (d : Database). d.trees) (idle up)))) h ∣₁
          | inr lost ↦ absurd lost
        ];
      }

  module _ (old new : Held S) (P Q : Trees → Type 0) (E : Database → Database → Type 0) (turns : (a b : Database) → IsDatabase a → P a.trees → E a b → Q b.trees) (keeps : Leaves g old P) (live : IsLive (state g old))
      (idle : IsTrue (state g old).is_open → (state g old).now ≡ (state g old).committed) (survives : Survives (state g old) (state g new) (MayCommit (state g old) E)) where
    early : HasCleanDisk (state g new) → HasCleanDisk (state g old)
    early clean = omega (arith, survives.clean)

    pub leaves_done : (HasCleanDisk (state g new) → HasCommitted (state g old) (state g new) E) → Leaves g new Q
    leaves_done done = leaves_committed new Q (λ clean.
        let all = done clean in
        let seen = seen_is old P keeps live idle (early clean) all.was_open in
        (all.is_open, ∥∥₁_map seen.1 (λ h. turns (state g old).now (state g new).committed seen.0 h all.effect)))

    pub leaves_either : Leaves g new (λ db. P db ⊎ Q db)
    leaves_either = record {
      left = λ clean db left. elim (survives.crash clean db left) [
        | inl earlier ↦ ∥∥₁_map (keeps.left (early clean) db earlier) (λ h. inl h)
        | inr made ↦ let seen = seen_is old P keeps live idle (early clean) made.0 in
            ∥∥₁_map seen.1 (λ h. inr (subst Q made.3 (turns (state g old).now made.1 seen.0 h made.2)))
      ];
    }

  -- a commit was refused, and the connection is open with the one before: a crash leaves what it left before
  pub undone_survives : (old mid end new : Held S) (P Q : Trees → Type 0) (e : Error) → Survives (state g old) (state g mid) P → Survives (state g mid) (state g end) Q → Survives (state g end) (state g new) (λ _. ⊥)
      → (HasCleanDisk (state g mid) → KeepsCommit (state g old) (state g mid)) → (HasCleanDisk (state g end) → FailsToCommit (state g mid) (state g end) e)
      → (HasCleanDisk (state g new) → IsUnchanged (state g end) (state g new)) → Survives (state g old) (state g new) (λ _. ⊥)
  undone_survives old mid end new P Q e one two three kept fails same =
      let first = survives_then (state g old) (state g mid) (state g end) P Q (λ _. Unit {0}) (λ _ db h. tt) (λ _ db h. tt) one two in
      let all = survives_then (state g old) (state g end) (state g new) (λ _. Unit {0}) (λ _. ⊥) (λ _. Unit {0}) (λ _ db h. tt) (λ _ db h. tt) first three in
      record {
        clean = all.clean;
        shield = all.shield;
        counts = all.counts;
        limit = all.limit;
        closes = all.closes;
        crash = λ clean db left.
            let late : HasCleanDisk (state g end) = omega (arith, three.clean) in
            let early : HasCleanDisk (state g mid) = omega (arith, two.clean, late) in
            let still = (same clean).0 in
            let stop = refused_keeps (state g mid) (state g end) e (fails late) in
            let up = stop.was_open still.was_open in
            let before = (kept early).was_open up in
            let last : db ≡ (state g old).committed.trees =
            settled new.store db still.is_open left ∙ ap (λ (d : Database). d.trees) (still.committed_is ∙ stop.committed still.was_open ∙ (kept early).committed up) in
            inl (subst (λ (t : Trees). (state g old).may_leave t) (sym last) (stays old.store before));
      }

-- what is left stays left where nothing is committed
pub leaves_still : {S : Type 0} (g : Ghosts S) (old new : Held S) (P : Trees → Type 0) → Survives (state g old) (state g new) (λ _. ⊥) → Leaves g old P → Leaves g new P
leaves_still g old new P survives keeps = record {
  left = λ clean db left. elim (survives.crash clean db left) [
    | inl earlier ↦ keeps.left (omega (arith, survives.clean)) db earlier
    | inr none ↦ absurd none
  ];
}

pub leaves_first : {S : Type 0} (g : Ghosts S) (c : Held S) (P Q : Trees → Type 0) → Leaves g c P → Leaves g c (λ db. P db ⊎ Q db)
leaves_first g c P Q keeps = record { left = λ clean db left. ∥∥₁_map (keeps.left clean db left) (λ h. inl h) }

-- what holds of an answer that went well, under a premise
pub on_ok_under : {A E : Type 0} {C P Q : Type 0} (r : Result A E) → ((C → P) → Q) → (C → OnOk r P) → OnOk r Q
on_ok_under (Ok x) f h = f h
on_ok_under (Err e) f h = tt

-- what is left is like this in two ways
pub leaves_both : {S : Type 0} (g : Ghosts S) (c : Held S) (P Q : Trees → Type 0) → Leaves g c P → Leaves g c Q → Leaves g c (λ db. P db × Q db)
leaves_both g c P Q one other = record { left = λ clean db left. ∥∥₁_elim (one.left clean db left) squash₁ (λ p. ∥∥₁_map (other.left clean db left) (λ q. (p, q))) }

-- what a commit may or may not have changed has these other tables all the same
pub leaves_beside : {S : Type 0} (g : Ghosts S) (c : Held S) (it : Stored) (others : Database) → Leaves g c (λ db. HoldsBoth it others db ⊎ HoldsBeside others db) → Leaves g c (HoldsBeside others)
leaves_beside g c it others keeps = record { left = λ clean db left. ∥∥₁_map (keeps.left clean db left) (λ h. elim h [ inl both ↦ both.1 | inr beside ↦ beside ]) }

-- what is left is some trees, which are like this
pub leaves_as : {S : Type 0} (g : Ghosts S) (c : Held S) (last : Trees) (P : Trees → Type 0) → (HasCleanDisk (state g c) → (db : Trees) → (state g c).may_leave db → db ≡ last) → (HasCleanDisk (state g c) → ∥ P last ∥₁) → Leaves g c P
leaves_as g c last P is holds = record { left = λ clean db left. subst (λ (t : Trees). ∥ P t ∥₁) (sym (is clean db left)) (holds clean) }
