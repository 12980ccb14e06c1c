-- Counts and sets of units.
use Rattle.std.proofs.Common.{◌≡◌, ℕ, ◌<◌, ◌≤◌, ◌⊎◌, inl, inr, max, true, false, cond, eqb, List, [], ◌∷◌, refl, sym, ap, subst, ◌∙◌, arith}
use Rattle.std.specs.Prelude.{IsTrue}
use Rattle.std.proofs.lemmas.Bool.{cases_eq, cases_lt, cases_Bool}
use Rattle.merge_core.specs.declared.cell.Cell.{Cell}
use Rattle.merge_core.specs.declared.delta.Row.{Row}
use Rattle.merge_core.specs.Layout.{Shape, shape_of}
use Rattle.merge_core.specs.Rows.{start_counter}
use Rattle.merge_core.specs.Naming.{shown_by, ReachesUnit}
use Rattle.admission_model.specs.Account.{Account, Origin, Heard, HeardRows, StartedAgain, own_after, own}
use Rattle.admission_model.specs.declared.operation.Operation.{Operation}
use Rattle.merge_core.specs.Changes.{keeps_counter}
use Rattle.admission_model.specs.Knowledge.{told_after, told, known, HeardUnit, SourceNames, hears_all}
use Rattle.admission_model.specs.Sound.{IsSound}
use Rattle.admission_model.specs.Laws.{CountsUnits, SourcesAgree, SomeDeltaNames, DeltasAgree}
use Rattle.admission_model.proofs.CounterLemmas.{known_own, known_other}
use Rattle.admission_model.proofs.RowLemmas.{start_below}
use Rattle.admission_model.proofs.HeardLemmas.{known_fits, kept_yes, kept_no}

-- what the site began with is among its own counters
own_from_base : (o : Origin) (done : List Operation) (r : ℕ) (cell : Cell) → o.base.counters r o.site cell ≤ own_after o done r cell
own_from_base o [] r cell = omega arith
own_from_base o (operation ∷ done) r cell = omega (arith, own_from_base o done r cell)

told_from_base : (o : Origin) (heard : List Heard) (r s : ℕ) (cell : Cell) → keeps_counter o.site s cell ≡ true → o.base.counters r s cell ≤ told_after o heard r s cell
told_from_base o [] r s cell kept = omega (arith, kept_yes o o.base.counters r s cell kept)
told_from_base o (HeardRows rows ∷ heard) r s cell kept = omega (arith, told_from_base o heard r s cell kept)
told_from_base o (StartedAgain ∷ heard) r s cell kept = omega (arith, told_from_base o heard r s cell kept, kept_yes o (told_after o heard) r s cell kept)

heard_told : (o : Origin) (heard : List Heard) (r s : ℕ) (cell : Cell) (k : ℕ) → HeardUnit o heard r s cell k → (1 ≤ k) × (k ≤ told_after o heard r s cell)
heard_told o [] r s cell k unit = elim unit [ ]
heard_told o (HeardRows rows ∷ heard) r s cell k (inl named) = (named.0, omega (arith, named.1))
heard_told o (HeardRows rows ∷ heard) r s cell k (inr earlier) =
    let h = heard_told o heard r s cell k earlier in (h.0, omega (arith, h.1))
heard_told o (StartedAgain ∷ heard) r s cell k unit =
    let h = heard_told o heard r s cell k unit.1 in
    (h.0, omega (arith, h.1, kept_yes o (told_after o heard) r s cell unit.0))

-- where a unit that a site was told of comes from
abbrev FromWhere : Origin → List Heard → ℕ → ℕ → Cell → ℕ → Type 0
FromWhere o heard r s cell k =
    ReachesUnit (start_counter (shape_of o.layout) r s cell) k
    ⊎ ((IsTrue (keeps_counter o.site s cell) × ReachesUnit (o.base.counters r s cell) k)
    ⊎ HeardUnit o heard r s cell k)

told_from : (o : Origin) (heard : List Heard) (r s : ℕ) (cell : Cell) (k : ℕ) → ReachesUnit (told_after o heard r s cell) k → FromWhere o heard r s cell k
told_from o [] r s cell k reaches = at (cases_Bool (keeps_counter o.site s cell))
  where
    at : (keeps_counter o.site s cell ≡ true) ⊎ (keeps_counter o.site s cell ≡ false) → FromWhere o [] r s cell k
    at (inl e) = inr (inl (e, (reaches.0, omega (arith, reaches.1, kept_yes o o.base.counters r s cell e))))
    at (inr e) = inl (reaches.0, omega (arith, reaches.1, kept_no o o.base.counters r s cell e))
told_from o (HeardRows rows ∷ heard) r s cell k reaches =
    at (cases_lt (shown_by (shape_of o.layout) rows r s cell) k) (λ h. told_from o heard r s cell k h)
  where
    later : FromWhere o heard r s cell k → FromWhere o (HeardRows rows ∷ heard) r s cell k
    later (inl granted) = inl granted
    later (inr (inl based)) = inr (inl based)
    later (inr (inr unit)) = inr (inr (inr unit))

    at : (shown_by (shape_of o.layout) rows r s cell < k) ⊎ (k ≤ shown_by (shape_of o.layout) rows r s cell) → (ReachesUnit (told_after o heard r s cell) k → FromWhere o heard r s cell k) → FromWhere o (HeardRows rows ∷ heard) r s cell k
    at (inl less) earlier = later (earlier (reaches.0, omega (arith, reaches.1)))
    at (inr named) earlier = inr (inr (inl (reaches.0, named)))
told_from o (StartedAgain ∷ heard) r s cell k reaches =
    at (cases_Bool (keeps_counter o.site s cell)) (λ h. told_from o heard r s cell k h)
  where
    later : keeps_counter o.site s cell ≡ true → FromWhere o heard r s cell k → FromWhere o (StartedAgain ∷ heard) r s cell k
    later e (inl granted) = inl granted
    later e (inr (inl based)) = inr (inl based)
    later e (inr (inr unit)) = inr (inr (e, unit))

    at : (keeps_counter o.site s cell ≡ true) ⊎ (keeps_counter o.site s cell ≡ false) → (ReachesUnit (told_after o heard r s cell) k → FromWhere o heard r s cell k) → FromWhere o (StartedAgain ∷ heard) r s cell k
    at (inl e) earlier = later e (earlier (reaches.0, omega (arith, reaches.1, kept_yes o (told_after o heard) r s cell e)))
    at (inr e) earlier = inl (reaches.0, omega (arith, reaches.1, kept_no o (told_after o heard) r s cell e))

-- what was told is known
told_known : (a : Account) → IsSound a → (r s : ℕ) (cell : Cell) → told a r s cell ≤ known a r s cell
told_known a sound r s cell = at (cases_eq s a.origin.site)
  where
    at : (s ≡ a.origin.site) ⊎ (s ≡ a.origin.site → ⊥) → told a r s cell ≤ known a r s cell
    at (inl e) = subst (λ (x : ℕ). told a r x cell ≤ known a r x cell) (sym e) (omega (arith, known_own a r cell, sound.told_after_done r cell))
    at (inr ne) = omega (arith, known_other a r s cell ne)

unit_counted : (a : Account) → IsSound a → (r s : ℕ) (cell : Cell) (k : ℕ) → SourceNames a r s cell k → ReachesUnit (known a r s cell) k
unit_counted a sound r s cell k (inl granted) =
    (granted.0, omega (arith, granted.1, start_below (shape_of a.origin.layout) r s (known a r s) (known_fits a sound r s) cell))
unit_counted a sound r s cell k (inr (inl based)) =
    (based.1.0, omega (arith, based.1.1, told_from_base a.origin a.heard r s cell based.0, told_known a sound r s cell))
unit_counted a sound r s cell k (inr (inr (inl done))) =
    (done.1.0, subst (λ (x : ℕ). k ≤ known a r x cell) (sym done.0) (omega (arith, done.1.1, known_own a r cell)))
unit_counted a sound r s cell k (inr (inr (inr unit))) =
    let h = heard_told a.origin a.heard r s cell k unit in
    (h.0, omega (arith, h.1, told_known a sound r s cell))

count_known : (a : Account) (r s : ℕ) (cell : Cell) (k : ℕ) → ReachesUnit (known a r s cell) k → SourceNames a r s cell k
count_known a r s cell k reaches = at (cases_eq s a.origin.site)
  where
    widen : FromWhere a.origin a.heard r s cell k → SourceNames a r s cell k
    widen (inl granted) = inl granted
    widen (inr (inl based)) = inr (inl based)
    widen (inr (inr unit)) = inr (inr (inr unit))

    at : (s ≡ a.origin.site) ⊎ (s ≡ a.origin.site → ⊥) → SourceNames a r s cell k
    at (inl e) =
        let mine : known a r s cell ≡ own a r cell = ap (λ x. known a r x cell) e ∙ known_own a r cell in
        inr (inr (inl (e, (reaches.0, omega (arith, reaches.1)))))
    at (inr ne) = widen (told_from a.origin a.heard r s cell k (reaches.0, omega (arith, reaches.1, known_other a r s cell ne)))

pub counts_units : (a : Account) → IsSound a → CountsUnits a
counts_units a sound r s cell k = (count_known a r s cell k, unit_counted a sound r s cell k)

-- counters whose units are the same are equal
pub same_from_units : (m n : ℕ) → ((k : ℕ) → ReachesUnit m k → ReachesUnit n k) → ((k : ℕ) → ReachesUnit n k → ReachesUnit m k) → m ≡ n
same_from_units m n to from = at (cases_lt m n) (cases_lt n m)
  where
    at : (m < n) ⊎ (n ≤ m) → (n < m) ⊎ (m ≤ n) → m ≡ n
    at (inl less) other = let h = from n (omega arith, omega arith) in absurd (omega (arith, h.1))
    at (inr more) (inl less) = let h = to m (omega arith, omega arith) in absurd (omega (arith, h.1))
    at (inr more) (inr less) = omega arith

pub equal_counters : (a b : Account) → IsSound a → IsSound b → SourcesAgree a b → (r s : ℕ) (cell : Cell) → known a r s cell ≡ known b r s cell
equal_counters a b sound_a sound_b same r s cell =
    same_from_units (known a r s cell) (known b r s cell)
    (λ k h. unit_counted b sound_b r s cell k ((same r s cell k).0 (count_known a r s cell k h)))
    (λ k h. unit_counted a sound_a r s cell k ((same r s cell k).1 (count_known b r s cell k h)))

-- the greatest that some delta shows
greatest : Shape → List (List Row) → ℕ → ℕ → Cell → ℕ
greatest shape [] r s cell = 0
greatest shape (rows ∷ deltas) r s cell = max (greatest shape deltas r s cell) (shown_by shape rows r s cell)

greatest_named : (shape : Shape) (deltas : List (List Row)) (r s : ℕ) (cell : Cell) (k : ℕ) → ReachesUnit (greatest shape deltas r s cell) k → SomeDeltaNames shape deltas r s cell k
unfolding greatest
greatest_named shape [] r s cell k reaches = absurd (omega (arith, reaches.0, reaches.1))
greatest_named shape (rows ∷ deltas) r s cell k reaches = at (cases_lt (shown_by shape rows r s cell) k) (λ h. greatest_named shape deltas r s cell k h)
  where
    at : (shown_by shape rows r s cell < k) ⊎ (k ≤ shown_by shape rows r s cell) → (ReachesUnit (greatest shape deltas r s cell) k → SomeDeltaNames shape deltas r s cell k) → SomeDeltaNames shape (rows ∷ deltas) r s cell k
    at (inl less) earlier = inr (earlier (reaches.0, omega (arith, reaches.1)))
    at (inr named) earlier = inl (reaches.0, named)

named_greatest : (shape : Shape) (deltas : List (List Row)) (r s : ℕ) (cell : Cell) (k : ℕ) → SomeDeltaNames shape deltas r s cell k → ReachesUnit (greatest shape deltas r s cell) k
unfolding greatest
named_greatest shape [] r s cell k named = elim named [ ]
named_greatest shape (rows ∷ deltas) r s cell k (inl here) = (here.0, omega (arith, here.1))
named_greatest shape (rows ∷ deltas) r s cell k (inr later) =
    let h = named_greatest shape deltas r s cell k later in (h.0, omega (arith, h.1))

same_origin : (a : Account) (deltas : List (List Row)) → (hears_all a deltas).origin ≡ a.origin
same_origin a [] = refl
same_origin a (rows ∷ deltas) = same_origin a deltas

same_done : (a : Account) (deltas : List (List Row)) → (hears_all a deltas).done ≡ a.done
same_done a [] = refl
same_done a (rows ∷ deltas) = same_done a deltas

told_all : (a : Account) (deltas : List (List Row)) (r s : ℕ) (cell : Cell) → told (hears_all a deltas) r s cell ≡ max (told a r s cell) (greatest (shape_of a.origin.layout) deltas r s cell)
unfolding greatest
told_all a [] r s cell = omega arith
told_all a (rows ∷ deltas) r s cell =
    omega (arith, told_all a deltas r s cell, ap (λ (o : Origin). shown_by (shape_of o.layout) rows r s cell) (same_origin a deltas))

pub equal_merges : (a : Account) (first second : List (List Row)) → DeltasAgree (shape_of a.origin.layout) first second → (r s : ℕ) (cell : Cell) → known (hears_all a first) r s cell ≡ known (hears_all a second) r s cell
equal_merges a first second same r s cell =
    let top : greatest (shape_of a.origin.layout) first r s cell ≡ greatest (shape_of a.origin.layout) second r s cell =
    same_from_units (greatest (shape_of a.origin.layout) first r s cell) (greatest (shape_of a.origin.layout) second r s cell)
    (λ k h. named_greatest (shape_of a.origin.layout) second r s cell k ((same r s cell k).0 (greatest_named (shape_of a.origin.layout) first r s cell k h)))
    (λ k h. named_greatest (shape_of a.origin.layout) first r s cell k ((same r s cell k).1 (greatest_named (shape_of a.origin.layout) second r s cell k h))) in
    let told_same : told (hears_all a first) r s cell ≡ told (hears_all a second) r s cell =
    told_all a first r s cell ∙ (ap (λ x. max (told a r s cell) x) top ∙ sym (told_all a second r s cell)) in
    let own_same : own (hears_all a first) r cell ≡ own (hears_all a second) r cell =
    ap (λ o. own_after o (hears_all a first).done r cell) (same_origin a first ∙ sym (same_origin a second))
    ∙ ap (λ d. own_after (hears_all a second).origin d r cell) (same_done a first ∙ sym (same_done a second)) in
    ap (λ (o : Origin). cond (eqb s o.site) (own (hears_all a first) r cell) (told (hears_all a first) r s cell)) (same_origin a first ∙ sym (same_origin a second))
    ∙ (ap (λ x. cond (eqb s (hears_all a second).origin.site) x (told (hears_all a first) r s cell)) own_same
    ∙ ap (λ x. cond (eqb s (hears_all a second).origin.site) (own (hears_all a second) r cell) x) told_same)
