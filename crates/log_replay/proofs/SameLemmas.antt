-- Two durable parts are the same where the test says so.
use Rattle.std.proofs.Common.{◌≡◌, Bool, true, eqb, List, [], ◌∷◌, eq-eqb, refl, sym, ap, ◌∙◌}
use Rattle.std.specs.Prelude.{◌&&◌}
use Rattle.std.proofs.lemmas.Bool.{and_parts, eqb-true}
use Rattle.session_list.specs.declared.session.Phase.{Phase}
use Rattle.session_list.specs.declared.session.Phase.TheVariants.{Reader, Waiting, Writer}
use Rattle.session_list.specs.declared.session.Session.{Session}
use Rattle.admission_model.specs.declared.durable.DurableCell.{DurableCell}
use Rattle.admission_model.specs.Account.{is_key}
use Rattle.admission_model.specs.Durable.{is_same_place, is_same_phase}
use Rattle.admission_model.proofs.ChangeLemmas.{same_phase_true}
use Rattle.admission_model.proofs.KeyLemmas.{is_key-true}
use Rattle.admission_core.specs.Kept.{DurableState}
use Rattle.log_replay.specs.Legal.{is_same_cell, is_same_session, are_same, is_same_part}

both_true : (a b : Bool) → a ≡ true → b ≡ true → (a && b) ≡ true
both_true a b p q = (λ i. p i && b) ∙ q

are_same_true : {X : Type 0} (same : X → X → Bool) → ((x : X) → same x x ≡ true) → (xs : List X) → are_same same xs xs ≡ true
are_same_true same each [] = refl
are_same_true same each (x ∷ xs) = both_true (same x x) (are_same same xs xs) (each x) (are_same_true same each xs)

same_from : {X : Type 0} (same : X → X → Bool) → ((x y : X) → same x y ≡ true → x ≡ y) → (xs ys : List X) → are_same same xs ys ≡ true → xs ≡ ys
same_from same each [] [] is = refl
same_from same each [] (y ∷ ys) is = absurd (cc)
same_from same each (x ∷ xs) [] is = absurd (cc)
same_from same each (x ∷ xs) (y ∷ ys) is =
    let both = and_parts (same x y) (are_same same xs ys) is in
    λ i. each x y both.0 i ∷ same_from same each xs ys both.1 i

phase_from : (p q : Phase) → is_same_phase p q ≡ true → p ≡ q
phase_from Reader Reader is = refl
phase_from Reader Waiting is = absurd (cc)
phase_from Reader Writer is = absurd (cc)
phase_from Waiting Reader is = absurd (cc)
phase_from Waiting Waiting is = refl
phase_from Waiting Writer is = absurd (cc)
phase_from Writer Reader is = absurd (cc)
phase_from Writer Waiting is = absurd (cc)
phase_from Writer Writer is = refl

cell_from : (c d : DurableCell) → is_same_cell c d ≡ true → c ≡ d
cell_from c d is =
    let both = and_parts (is_same_place c d) (eqb c.value d.value) is in
    let place = and_parts (eqb c.r d.r) (eqb c.slot d.slot) both.0 in
    λ i. record { r = eqb-true c.r d.r place.0 i; slot = eqb-true c.slot d.slot place.1 i; value = eqb-true c.value d.value both.1 i }

cell_same : (c : DurableCell) → is_same_cell c c ≡ true
cell_same c = both_true (is_same_place c c) (eqb c.value c.value) (both_true (eqb c.r c.r) (eqb c.slot c.slot) (eq-eqb c.r c.r refl) (eq-eqb c.slot c.slot refl)) (eq-eqb c.value c.value refl)

session_from : (s t : Session) → is_same_session s t ≡ true → s ≡ t
session_from s t is =
    let both = and_parts (is_key s.r s.h t.r t.h) (is_same_phase s.phase t.phase) is in
    let key = is_key-true s.r s.h t.r t.h both.0 in
    λ i. record { r = key.0 i; h = key.1 i; phase = phase_from s.phase t.phase both.1 i }

session_same : (s : Session) → is_same_session s s ≡ true
session_same s = both_true (is_key s.r s.h s.r s.h) (is_same_phase s.phase s.phase) (both_true (eqb s.r s.r) (eqb s.h s.h) (eq-eqb s.r s.r refl) (eq-eqb s.h s.h refl)) (same_phase_true s.phase)

pub part_from : (d e : DurableState) → is_same_part d e ≡ true → d ≡ e
unfolding is_same_part
part_from d e is =
    let both = and_parts (are_same is_same_cell d.cells e.cells) (are_same is_same_session d.sessions e.sessions) is in
    λ i. record { cells = same_from is_same_cell cell_from d.cells e.cells both.0 i; sessions = same_from is_same_session session_from d.sessions e.sessions both.1 i }

pub part_same : (d e : DurableState) → d ≡ e → is_same_part d e ≡ true
unfolding is_same_part
part_same d e is =
    ap (λ (x : DurableState). is_same_part d x) (sym is)
    ∙ both_true (are_same is_same_cell d.cells d.cells) (are_same is_same_session d.sessions d.sessions)
    (are_same_true is_same_cell cell_same d.cells) (are_same_true is_same_session session_same d.sessions)
