-- Sound accounts, one for each site, of which none was told of more than was done: seats are conserved.
use Rattle.std.proofs.Common.{◌≡◌, ◌≢◌, ℕ, ◌+◌, ◌<◌, ◌≤◌, ◌⊎◌, inl, inr, eqb, List, [], ◌∷◌, length, map, Option, Some, None, refl, sym, ap, subst, ◌∙◌, arith}
use Rattle.std.proofs.lemmas.Bool.{cases_eq, eq-eqb, ne_eqb, and_right, cond-true, cond_both}
use Rattle.merge_core.specs.declared.cell.Cell.{Cell}
use Rattle.merge_core.specs.declared.cell.Cell.TheVariants.{Out}
use Rattle.merge_core.specs.Naming.{shown_by}
use Rattle.merge_core.specs.declared.delta.Row.{Row}
use Rattle.merge_core.specs.declared.layout.RecordSpec.{RecordSpec}
use Rattle.merge_core.specs.Layout.{LayoutState, IsLayout, shape_of, record_shape, at_sites}
use Rattle.merge_core.specs.Rows.{grant, start_counter}
use Rattle.session_list.specs.declared.session.Phase.{Phase}
use Rattle.session_list.specs.declared.session.Phase.TheVariants.{Reader, Waiting, Writer}
use Rattle.merge_core.specs.Sums.{total, total_others}
use Rattle.admission_model.specs.Account.{Account, Heard, HeardRows, StartedAgain, Origin, begin, start_origin, seats_in, own, phase_of, inside, weight, on_phase, arrivals}
use Rattle.merge_core.specs.Changes.{keeps_counter}
use Rattle.admission_model.specs.Knowledge.{told_after, told, known}
use Rattle.admission_model.specs.View.{view_of, rights_of}
use Rattle.admission_model.specs.Sound.{FitsRow, IsSound}
use Rattle.merge_core.proofs.SumLemmas.{total_same, total_add, total_member, total_two, total_others_same, total_others_add, total_others-swap}
use Rattle.admission_model.proofs.SumLemmas.{total_others_more}
use Rattle.admission_model.proofs.SessionLemmas.{adds, sessions-keys, keys_member, keys_two}
use Rattle.admission_model.proofs.CounterLemmas.{known_other}
use Rattle.admission_model.proofs.RowLemmas.{shown_as, shown_same, start_below, start_elsewhere}
use Rattle.admission_model.proofs.ServingLemmas.{sound_replay, origin_replay}
use Rattle.admission_model.proofs.HeardLemmas.{site_sum_own}
use Rattle.admission_model.proofs.StartLemmas.{sound_start, grants_total, some_seats}
use Rattle.multi_site_world.specs.Laws.{in_flight, all_in_flight, all_rights, all_inside, IsInside, IsWriterAlone, HeardNoMore, AreLogged, IsConsistentCut}

-- the seats and the grants of a layout depend on its records alone
pub same_seats : (old new : LayoutState) → old.records ≡ new.records → (r : ℕ) → seats_in old r ≡ seats_in new r
same_seats old new same r = ap (λ records. seats_in (record { sites = 0; records = records }) r) same

pub same_grant : (old new : LayoutState) → old.records ≡ new.records → (r s : ℕ) → grant (shape_of old) r s ≡ grant (shape_of new) r s
same_grant old new same r s = ap (λ records. grant (shape_of (record { sites = 0; records = records })) r s) same

pub same_start : (old new : LayoutState) → old.records ≡ new.records → (r s : ℕ) (cell : Cell) → start_counter (shape_of old) r s cell ≡ start_counter (shape_of new) r s cell
same_start old new same r s cell = ap (λ records. start_counter (shape_of (record { sites = 0; records = records })) r s cell) same

pub same_shown : (old new : LayoutState) → old.records ≡ new.records → (rows : List Row) (r s : ℕ) (cell : Cell) → shown_by (shape_of old) rows r s cell ≡ shown_by (shape_of new) rows r s cell
same_shown old new same rows r s cell = shown_same (shape_of old) (shape_of new) (ap (map record_shape) same) rows r s cell

-- what a site counts as sent to it, its sender did send
abbrev pub IsSentBefore : LayoutState → (ℕ → Account) → ℕ → Type 0
IsSentBefore layout accounts r =
    (i j : ℕ) → i < layout.sites → j < layout.sites → j ≢ i → known (accounts i) r j (Out i) ≤ own (accounts j) r (Out i)

-- one site's sum, over all sites of a layout: of those that it does not know nothing was sent, nor to them
pub site_sum : (a : Account) (layout : LayoutState) (i r : ℕ) → IsSound a → a.origin.layout.records ≡ layout.records → a.sites ≤ layout.sites → a.origin.site ≡ i → rights_of (view_of a) r + (inside a r + total_others layout.sites i (λ j. own a r (Out j))) ≡ grant (shape_of layout) r i + total_others layout.sites i (λ j. known a r j (Out i))
site_sum a layout i r sound same_records few same_site =
    subst (λ (k : ℕ). rights_of (view_of a) r + (inside a r + total_others layout.sites k (λ j. own a r (Out j))) ≡ grant (shape_of layout) r k + total_others layout.sites k (λ j. known a r j (Out k))) same_site
    (omega (
      arith,
      site_sum_own a r sound,
      same_grant a.origin.layout layout same_records r a.origin.site,
      total_others_more a.sites layout.sites a.origin.site (λ j. own a r (Out j)) few (λ j past apart. sound.no_others.none_sent r j past),
      total_others_more a.sites layout.sites a.origin.site (λ j. known a r j (Out a.origin.site)) few nothing,
    ))
  where
    nothing : (j : ℕ) → a.sites ≤ j → j ≢ a.origin.site → known a r j (Out a.origin.site) ≡ 0
    nothing j past apart =
        omega (
          arith,
          known_other a r j (Out a.origin.site) apart,
          sound.no_others.none_told r j (Out a.origin.site) past,
          start_elsewhere (shape_of a.origin.layout) r j a.origin.site (λ e. apart (sym e)),
        )

-- an account for each site of a layout, each under the layout or with fewer sites
pub record IsFamily (layout : LayoutState) (accounts : ℕ → Account) : Type 0 where
  pub sound : (i : ℕ) → i < layout.sites → IsSound (accounts i)
  pub same_records : (i : ℕ) → i < layout.sites → (accounts i).origin.layout.records ≡ layout.records
  pub same_site : (i : ℕ) → i < layout.sites → (accounts i).origin.site ≡ i
  pub few_sites : (i : ℕ) → i < layout.sites → (accounts i).sites ≤ layout.sites

-- the row of a family's site fits
pub row_fits : (layout : LayoutState) (accounts : ℕ → Account) → IsFamily layout accounts → (j : ℕ) → j < layout.sites → (r : ℕ) → FitsRow (grant (shape_of layout) r j) j (own (accounts j) r)
row_fits layout accounts family j below r =
    subst (λ (x : ℕ). FitsRow x j (own (accounts j) r)) (same_grant (accounts j).origin.layout layout (family.same_records j below) r j)
    (subst (λ (x : ℕ). FitsRow (grant (shape_of (accounts j).origin.layout) r x) x (own (accounts j) r)) (family.same_site j below)
    ((family.sound j below).balanced r).fits)

-- given by all is known to all or in flight
given-known : (layout : LayoutState) (accounts : ℕ → Account) (r : ℕ) → IsSentBefore layout accounts r → total layout.sites (λ i. total_others layout.sites i (λ j. own (accounts i) r (Out j))) ≡ total layout.sites (λ i. total_others layout.sites i (λ j. known (accounts i) r j (Out i))) + all_in_flight accounts layout.sites r
given-known layout accounts r before =
    let n = layout.sites in
    total_others-swap n (λ i j. own (accounts i) r (Out j))
    ∙ (total_same n (λ i. total_others n i (λ j. own (accounts j) r (Out i)))
    (λ i. total_others n i (λ j. known (accounts i) r j (Out i)) + total_others n i (λ j. in_flight accounts r j i))
    (λ i below.
    total_others_same n i (λ j. own (accounts j) r (Out i)) (λ j. known (accounts i) r j (Out i) + in_flight accounts r j i)
    (λ j lower apart. omega (arith, before i j below lower apart))
    ∙ total_others_add n i (λ j. known (accounts i) r j (Out i)) (λ j. in_flight accounts r j i))
    ∙ total_add n (λ i. total_others n i (λ j. known (accounts i) r j (Out i))) (λ i. total_others n i (λ j. in_flight accounts r j i)))

pub conserved : (layout : LayoutState) (accounts : ℕ → Account) (r : ℕ) → IsLayout layout → IsFamily layout accounts → IsSentBefore layout accounts r → seats_in layout r ≡ all_rights accounts layout.sites r + (all_inside accounts layout.sites r + all_in_flight accounts layout.sites r)
conserved layout accounts r is family before =
    let n = layout.sites in
    let has = λ (i : ℕ). rights_of (view_of (accounts i)) r in
    let holds = λ (i : ℕ). inside (accounts i) r in
    let gave = λ (i : ℕ). total_others n i (λ j. own (accounts i) r (Out j)) in
    let got = λ (i : ℕ). total_others n i (λ j. known (accounts i) r j (Out i)) in
    let granted = λ (i : ℕ). grant (shape_of layout) r i in
    omega (
      arith,
      total_same n (λ i. has i + (holds i + gave i)) (λ i. granted i + got i)
          (λ i below. site_sum (accounts i) layout i r (family.sound i below) (family.same_records i below) (family.few_sites i below) (family.same_site i below)),
      total_add n has (λ i. holds i + gave i),
      total_add n holds gave,
      total_add n granted got,
      grants_total layout is r,
      given-known layout accounts r before,
    )

-- the seats inside are at most the seats
pub inside_most : (layout : LayoutState) (accounts : ℕ → Account) (r : ℕ) → IsLayout layout → IsFamily layout accounts → IsSentBefore layout accounts r → all_inside accounts layout.sites r ≤ seats_in layout r
inside_most layout accounts r is family before = omega (arith, conserved layout accounts r is family before)

-- a session that is inside takes its weight
weight_inside : (a : Account) (r h : ℕ) (p : Phase) → IsSound a → phase_of a r h ≡ Some p → weight (seats_in a.origin.layout r) p ≤ inside a r
weight_inside a r h p sound there =
    let value = weight (seats_in a.origin.layout r) in
    let f = adds value r (phase_of a) in
    let here : f r h ≡ value p = cond-true (eqb r r) (on_phase value (phase_of a r h)) 0 (eq-eqb r r refl) ∙ ap (on_phase value) there in
    omega (arith, sessions-keys value r (phase_of a) (arrivals a.origin a.done), keys_member r h f (arrivals a.origin a.done) (sound.listed_once r h p there))

two_inside : (a : Account) (r h k : ℕ) (p q : Phase) → IsSound a → phase_of a r h ≡ Some p → phase_of a r k ≡ Some q → (h ≡ k → ⊥) → weight (seats_in a.origin.layout r) p + weight (seats_in a.origin.layout r) q ≤ inside a r
two_inside a r h k p q sound there here apart =
    let value = weight (seats_in a.origin.layout r) in
    let f = adds value r (phase_of a) in
    let first : f r h ≡ value p = cond-true (eqb r r) (on_phase value (phase_of a r h)) 0 (eq-eqb r r refl) ∙ ap (on_phase value) there in
    let second : f r k ≡ value q = cond-true (eqb r r) (on_phase value (phase_of a r k)) 0 (eq-eqb r r refl) ∙ ap (on_phase value) here in
    omega (
      arith,
      sessions-keys value r (phase_of a) (arrivals a.origin a.done),
      keys_two r h r k f (arrivals a.origin a.done) (and_right (eqb r r) (eqb h k) (ne_eqb h k apart)) (sound.listed_once r h p there) (sound.listed_once r k q here),
    )

alone : (layout : LayoutState) (accounts : ℕ → Account) (r : ℕ) → IsFamily layout accounts → (i j h k : ℕ) → i < layout.sites → j < layout.sites → (q : Phase) → 1 ≤ weight (seats_in layout r) q → 1 ≤ seats_in layout r → all_inside accounts layout.sites r ≤ seats_in layout r → phase_of (accounts i) r h ≡ Some Writer → phase_of (accounts j) r k ≡ Some q → (i ≡ j) × (h ≡ k)
alone layout accounts r family i j h k below_i below_j q heavy some most writer there = at (cases_eq i j) (cases_eq h k)
  where
    seats_at : (m : ℕ) → m < layout.sites → (p : Phase) → weight (seats_in (accounts m).origin.layout r) p ≡ weight (seats_in layout r) p
    seats_at m below p = ap (λ n. weight n p) (same_seats (accounts m).origin.layout layout (family.same_records m below) r)

    at : (i ≡ j) ⊎ (i ≡ j → ⊥) → (h ≡ k) ⊎ (h ≡ k → ⊥) → (i ≡ j) × (h ≡ k)
    at (inl e) (inl d) = (e, d)
    at (inl e) (inr apart) =
        let here : phase_of (accounts i) r k ≡ Some q = ap (λ m. phase_of (accounts m) r k) e ∙ there in
        absurd (omega (
          arith,
          two_inside (accounts i) r h k Writer q (family.sound i below_i) writer here apart,
          seats_at i below_i Writer,
          seats_at i below_i q,
          total_member layout.sites i (λ m. inside (accounts m) r) below_i,
        ))
    at (inr apart) other =
        absurd (omega (
          arith,
          weight_inside (accounts i) r h Writer (family.sound i below_i) writer,
          weight_inside (accounts j) r k q (family.sound j below_j) there,
          seats_at i below_i Writer,
          seats_at j below_j q,
          total_two layout.sites i j (λ m. inside (accounts m) r) below_i below_j apart,
        ))

pub writer_alone : (layout : LayoutState) (accounts : ℕ → Account) (r : ℕ) → IsLayout layout → IsFamily layout accounts → IsSentBefore layout accounts r → IsWriterAlone accounts layout.sites r
writer_alone layout accounts r is family before i j h k below_i below_j writer within = at (phase_of (accounts j) r k) refl within
  where
    some : 1 ≤ seats_in layout r
    some =
        let place = (family.sound i below_i).record_there r h Writer writer in
        some_seats layout is r (subst (λ (records : List RecordSpec). r < length records) (family.same_records i below_i) place)

    most : all_inside accounts layout.sites r ≤ seats_in layout r
    most = inside_most layout accounts r is family before

    at : (o : Option Phase) → phase_of (accounts j) r k ≡ o → IsInside o → (i ≡ j) × (h ≡ k)
    at None e inside_there = elim inside_there [ ]
    at (Some Reader) e inside_there = alone layout accounts r family i j h k below_i below_j Reader (omega arith) some most writer e
    at (Some Waiting) e inside_there = elim inside_there [ ]
    at (Some Writer) e inside_there = alone layout accounts r family i j h k below_i below_j Writer some some most writer e

-- accounts that logs of their own lead to are a family
pub logged_family : (layout : LayoutState) (accounts : ℕ → Account) → AreLogged layout accounts → IsFamily layout accounts
logged_family layout accounts logged = record {
  sound = λ i below.
      let it = logged i below in
      subst IsSound (sym it.replayed)
      (sound_replay (begin (start_origin (at_sites it.first layout) i)) it.steps (sound_start (at_sites it.first layout) i it.site_there));
  same_records = λ i below. ap (λ (o : Origin). o.layout.records) (logged_origin i below);
  same_site = λ i below. ap (λ (o : Origin). o.site) (logged_origin i below);
  few_sites = λ i below. (logged i below).few_sites;
}
  where
    logged_origin : (i : ℕ) (below : i < layout.sites) → (accounts i).origin ≡ start_origin (at_sites (logged i below).first layout) i
    logged_origin i below =
        let it = logged i below in
        ap (λ (a : Account). a.origin) it.replayed ∙ origin_replay (begin (start_origin (at_sites it.first layout) i)) it.steps

-- what an account was told was done, where each delta that it heard tells no more
told_heard : (layout : LayoutState) (accounts : ℕ → Account) (o : Origin) (j r : ℕ) (cell : Cell) → IsFamily layout accounts → j < layout.sites → o.layout.records ≡ layout.records → o.base.counters r j cell ≤ start_counter (shape_of o.layout) r j cell → (heard : List Heard) → HeardNoMore accounts heard → told_after o heard r j cell ≤ own (accounts j) r cell
told_heard layout accounts o j r cell family there same low [] no_more =
    cond_both (keeps_counter o.site j cell) (o.base.counters r j cell) (start_counter (shape_of o.layout) r j cell) (λ x. x ≤ own (accounts j) r cell)
    (λ e. omega (arith, low, start_low layout accounts o j r cell family there same)) (λ e. start_low layout accounts o j r cell family there same)
  where
    start_low : (layout : LayoutState) (accounts : ℕ → Account) (o : Origin) (j r : ℕ) (cell : Cell) → IsFamily layout accounts → j < layout.sites → o.layout.records ≡ layout.records → start_counter (shape_of o.layout) r j cell ≤ own (accounts j) r cell
    start_low layout accounts o j r cell family there same =
        omega (arith, same_start o.layout layout same r j cell, start_below (shape_of layout) r j (own (accounts j) r) (row_fits layout accounts family j there r) cell)
told_heard layout accounts o j r cell family there same low (HeardRows rows ∷ heard) no_more =
    let shown : shown_by (shape_of layout) rows r j cell ≤ own (accounts j) r cell =
    shown_as (λ f r2 s2. (c : Cell) → f c ≤ own (accounts s2) r2 c) (shape_of layout)
    (λ f g r2 s2 same_row less c. omega (arith, same_row c, less c)) rows no_more.0 r j
    (start_below (shape_of layout) r j (own (accounts j) r) (row_fits layout accounts family j there r)) cell in
    omega (arith, same_shown o.layout layout same rows r j cell, told_heard layout accounts o j r cell family there same low heard no_more.1)
told_heard layout accounts o j r cell family there same low (StartedAgain ∷ heard) no_more =
    cond_both (keeps_counter o.site j cell) (told_after o heard r j cell) (start_counter (shape_of o.layout) r j cell) (λ x. x ≤ own (accounts j) r cell)
    (λ e. told_heard layout accounts o j r cell family there same low heard no_more)
    (λ e. omega (arith, same_start o.layout layout same r j cell, start_below (shape_of layout) r j (own (accounts j) r) (row_fits layout accounts family j there r) cell))

-- at a consistent cut no site counts more as sent to it than its sender sent
pub consistent_cut : (layout : LayoutState) (accounts : ℕ → Account) → AreLogged layout accounts → IsConsistentCut layout accounts → (r : ℕ) → IsSentBefore layout accounts r
consistent_cut layout accounts logged cut r i j below there apart =
    let family = logged_family layout accounts logged in
    let it = logged i below in
    let from = start_origin (at_sites it.first layout) i in
    let same : (accounts i).origin ≡ from = ap (λ (a : Account). a.origin) it.replayed ∙ origin_replay (begin from) it.steps in
    let told_more : told (accounts i) r j (Out i) ≡ told_after from (accounts i).heard r j (Out i) = ap (λ o. told_after o (accounts i).heard r j (Out i)) same in
    omega (
      arith,
      known_other (accounts i) r j (Out i) (λ e. apart (e ∙ family.same_site i below)),
      told_heard layout accounts from j r (Out i) family there refl (omega arith) (accounts i).heard (cut i below),
    )
