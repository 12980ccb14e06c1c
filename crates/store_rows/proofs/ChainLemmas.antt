-- Statements one after another: why they are refused, and what they take of the rowids.
use Rattle.std.proofs.Common.{◌≡◌, inl, inr, ℕ, zero, suc, ◌+◌, ◌-◌, ◌≤◌, ◌==◌, true, not, Option, Some, IsSome, subst, arith}
use Rattle.std.proofs.lemmas.Bool.{cases_Bool, both_ways, not-true}
use Rattle.std.proofs.lemmas.Bool.Decides.{nat_tests}
use Rattle.sqlite_trees.specs.Tree.{Trees}
use Rattle.sqlite.specs.declared.error.Error.{Error}
use Rattle.sqlite.specs.Effect.{Database}
use Rattle.sqlite.specs.State.{State, HasCleanDisk, Survives}
use Rattle.store_schema.specs.declared.Version.TheVariants.{Second}
use Rattle.store_rows.specs.Holding.{Parts}
use Rattle.store_rows.specs.Refusals.{HasRefused}
use Rattle.store_rows.specs.Rowids.{has_room}
use Rattle.store_rows.specs.Steps.{Brings, Any, Uses, IsStopped, if_changed}
use Rattle.store_rows.specs.declared.content.StoredSession.{StoredSession}
use Rattle.store_rows.specs.declared.content.SessionEdit.TheVariants.{Put}
use Rattle.store_rows.specs.Changes.{is_of}
use Rattle.store_rows.specs.Steps.{HasFreePlace, IsNewTo, with_drop}
use Rattle.sqlite_rules.proofs.ListLemmas.{has_filtered}
use Rattle.store_rows.proofs.BesideLemmas.{spares_then}
use Rattle.store_rows.proofs.RoomLemmas.{rooms_less}

-- ---- between more moments

pub refused_until : (a b c : State) → HasRefused a b → b.faults ≤ c.faults → HasRefused a c
refused_until a b c (inl more) later = inl (omega (arith, more, later))
refused_until a b c (inr why) later = inr why

pub refused_since : (a b c : State) → Survives a b (λ _. ⊥) → HasCleanDisk b → b.faults ≤ c.faults → HasRefused b c → HasRefused a c
refused_since a b c one clean later (inl more) = inl (omega (arith, more, one.counts))
refused_since a b c one clean later (inr (inr limit)) = inr (inr (subst (λ (l : Option ℕ). IsSome l) one.limit limit))
refused_since a b c one clean later (inr (inl shut)) = elim (cases_Bool a.is_open) [
  | inl up ↦ elim (one.closes clean up) [
    | inl still ↦ absurd (both_ways _ shut still)
    | inr more ↦ inl (omega (arith, more, later))
  ]
  | inr down ↦ inr (inl down)
]

-- ---- rowids

room_lower : (j k : ℕ) (db : Trees) → has_room (j + k) db ≡ true → has_room k db ≡ true
room_lower zero k db room = let same : 0 + k ≡ k = omega arith in subst (λ (n : ℕ). has_room n db ≡ true) same room
room_lower (suc j) k db room =
    let same : suc j + k ≡ suc (j + k) = omega arith in
    room_lower j k db (rooms_less (j + k) db (subst (λ (n : ℕ). has_room n db ≡ true) same room))

-- fewer rowids are taken than may be
pub uses_most : (n m : ℕ) (Fits : Parts → Type 0) (a b : Database) → n ≤ m → Uses n Fits a b → Uses m Fits a b
uses_most n m Fits a b few uses p two fits h k room =
    let same : m + k ≡ n + ((m - n) + k) = omega arith in
    room_lower (m - n) k b.trees (uses p two fits h ((m - n) + k) (subst (λ (i : ℕ). has_room i a.trees ≡ true) same room))

pub uses_none : (a : Database) (Fits : Parts → Type 0) → Uses 0 Fits a a
uses_none a Fits p two fits h k room = let same : 0 + k ≡ k = omega arith in subst (λ (n : ℕ). has_room n a.trees ≡ true) same room

pub uses_more : (n m : ℕ) (Fits Next : Parts → Type 0) (f : Parts → Parts) (a b c : Database) → ((p : Parts) → p.tables ≡ Second → (f p).tables ≡ Second) → ((p : Parts) → Fits p → Next (f p))
    → Brings Fits f a b → Uses n Fits a b → Uses m Next b c → Uses (n + m) Fits a c
uses_more n m Fits Next f a b c still go brings uses later p two fits h k room =
    let same : (n + m) + k ≡ n + (m + k) = omega arith in
    later (f p) (still p two) (go p fits) (brings p two fits h).0 k (uses p two fits h (m + k) (subst (λ (i : ℕ). has_room i a.trees ≡ true) same room))

-- ---- refusals

pub stops_most : (n m : ℕ) (Fits Less : Parts → Type 0) (a b : State) (e : Error) → n ≤ m → ((p : Parts) → Less p → Fits p) → IsStopped n Fits a b e → IsStopped m Less a b e
stops_most n m Fits Less a b e few go (inl why) = inl why
stops_most n m Fits Less a b e few go (inr (inl memory)) = inr (inl memory)
stops_most n m Fits Less a b e few go (inr (inr unfit)) = inr (inr (λ p two fits h k room.
    let same : m + k ≡ n + ((m - n) + k) = omega arith in
    unfit p two (go p fits) h ((m - n) + k) (subst (λ (i : ℕ). has_room i a.now.trees ≡ true) same room)))

pub stops_after : (n m : ℕ) (Fits Next : Parts → Type 0) (f : Parts → Parts) (a b c : State) (e : Error) → ((p : Parts) → p.tables ≡ Second → (f p).tables ≡ Second) → ((p : Parts) → Fits p → Next (f p))
    → Survives a b (λ _. ⊥) → HasCleanDisk b → b.faults ≤ c.faults → Brings Fits f a.now b.now → Uses n Fits a.now b.now → IsStopped m Next b c e → IsStopped (n + m) Fits a c e
stops_after n m Fits Next f a b c e still go one clean later brings uses (inl why) = inl (refused_since a b c one clean later why)
stops_after n m Fits Next f a b c e still go one clean later brings uses (inr (inl memory)) = inr (inl memory)
stops_after n m Fits Next f a b c e still go one clean later brings uses (inr (inr unfit)) = inr (inr (λ p two fits h k room.
    let same : (n + m) + k ≡ n + (m + k) = omega arith in
    unfit (f p) (still p two) (go p fits) (brings p two fits h).0 k (uses p two fits h (m + k) (subst (λ (i : ℕ). has_room i a.now.trees ≡ true) same room))))

none_count : (count : ℕ) → count ≡ 0 → (count == 0) ≡ true
none_count count h = grind (arith, nat_tests)

-- no row was changed
pub brought_none : (a b : Database) (count : ℕ) (f : Parts → Parts) → count ≡ 0 → Brings Any (if_changed count f) a b → Brings Any (λ p. p) a b
brought_none a b count f none step p two fits h = rw (none_count count none) at step p two fits h

-- ---- what fits

pub brings_if : (Fits : Parts → Type 0) (f : Parts → Parts) (a b : Database) → Brings Any f a b → Brings Fits f a b
brings_if Fits f a b step p two fits h = step p two tt h

pub uses_if : (n : ℕ) (Fits : Parts → Type 0) (a b : Database) → Uses n Any a b → Uses n Fits a b
uses_if n Fits a b uses p two fits h k room = uses p two tt h k room

-- once the session of its holder is dropped, a session is new
pub new_then : (s : StoredSession) (p : Parts) → HasFreePlace (Some (Put s)) p.sessions → IsNewTo s (with_drop s.r s.h p)
new_then s p free x there = (not-true _ (has_filtered (λ (y : StoredSession). not (is_of s.r s.h y)) p.sessions x there).1, free x there)

-- where nothing was changed, the next statement brings it all
pub brings_next : (f : Parts → Parts) (a b c : Database) → Brings Any (λ p. p) a b → Brings Any f b c → Brings Any f a c
brings_next f a b c one next p two fits h = let first = one p two tt h in let last = next p two tt first.0 in (last.0, spares_then a b c first.1 last.1)
