-- What the deltas tell that are made at the move.
use Rattle.std.proofs.Common.{◌≡◌, ◌≢◌, ℕ, ◌<◌, ◌≤◌, ◌⊎◌, inl, inr, Bool, true, false, eqb, ltb, List, [], ◌∷◌, length, sym, ap, subst, ◌∙◌, arith}
use Rattle.std.specs.List.{AllByRecursion}
use Rattle.std.proofs.lemmas.Bool.{cases_eq, cond-true, cond_both, ne_eqb, or_from, lt-ltb, false≢true}
use Rattle.merge_core.specs.Counts.{counter_limit}
use Rattle.merge_core.specs.declared.cell.Cell.{Cell}
use Rattle.merge_core.specs.declared.cell.Cell.TheVariants.{Out}
use Rattle.merge_core.specs.Delta.{DeltaState}
use Rattle.merge_core.specs.Layout.{LayoutState, shape_of}
use Rattle.merge_core.specs.Rows.{start_counter, counter_in, counters_of}
use Rattle.merge_core.specs.Naming.{shown_by}
use Rattle.merge_core.specs.Changes.{keeps_counter}
use Rattle.admission_model.specs.Account.{Account, layout_of, own}
use Rattle.admission_model.specs.Knowledge.{known, told, restarted}
use Rattle.admission_model.specs.View.{view_of}
use Rattle.admission_model.specs.Merging.{snapshot_of}
use Rattle.admission_model.specs.Sound.{IsSound}
use Rattle.admission_model.proofs.CounterLemmas.{known_own, known_other}
use Rattle.admission_model.proofs.RowLemmas.{shown_as, start_below, start_elsewhere, start_past}
use Rattle.admission_model.proofs.HeardLemmas.{known_fits, kept_row, kept_column, kept_no, sound_restarted}
use Rattle.admission_model.proofs.ToldLemmas.{told_row-below, all_told}
use Rattle.multi_site_world.specs.declared.event.Event.TheVariants.{Restart}
use Rattle.multi_site_world.specs.World.{World, account_at, world_here, happens}
use Rattle.multi_site_world.proofs.FamilyLemmas.{same_start, row_fits}
use Rattle.multi_site_world.proofs.WorldLemmas.{IsSoundWorld, same_account}
use Rattle.multi_site_world.proofs.EventLemmas.{sound_happens, known_done}
use Rattle.rebuild_laws.specs.Groups.{told_most, IsTeller, IsUnbegun, MayMove}
use Rattle.rebuild_laws.specs.Settling.{lacking, settling, IsToldOf, AreMoved}
use Rattle.rebuild_laws.proofs.GroupLemmas.{own_known, past_records}
use Rattle.rebuild_laws.proofs.SettlingLemmas.{settled_spares, settling_is}
use Rattle.rebuild_laws.proofs.TellingLemmas.{known_kept, snapshot_tells}

-- a snapshot shows no more than the site knows
snapshot_most : (a : Account) (layout : LayoutState) → IsSound a → a.origin.layout.records ≡ layout.records → (r s : ℕ) (cell : Cell) → shown_by (shape_of layout) (snapshot_of (view_of a)).rows r s cell ≤ known a r s cell
snapshot_most a layout sound same r s =
    shown_as (λ f k i. (cell : Cell) → f cell ≤ known a k i cell) (shape_of layout)
    (λ f g k i equal below cell. omega (arith, equal cell, below cell)) (snapshot_of (view_of a)).rows
    (all_told (λ p. (cell : Cell) → counter_in (counters_of p) cell ≤ known a p.r p.s cell) (shape_of (layout_of a)) (known a) (length (shape_of (layout_of a)).records)
    (λ k i low there cell. told_row-below a.sites (known a) k i cell)) r s
    (λ cell. omega (arith, start_below (shape_of a.origin.layout) r s (known a r s) (known_fits a sound r s) cell, same_start a.origin.layout layout same r s cell))

module _ (w : World) (sound : IsSoundWorld w) where
  -- a site that is started again
  again : (i : ℕ) → i < w.layout.sites → account_at (happens w (Restart i)) i ≡ restarted (account_at w i)
  again i below =
      let there : i < length w.sites = omega (arith, below, sound.number) in
      ap (λ (v : World). account_at v i) (cond-true (ltb i (length w.sites)) (world_here w (Restart i)) w (lt-ltb i (length w.sites) there))
      ∙ same_account w i (restarted (account_at w i)) there

  -- its delta shows what a restart keeps
  moved_tells : (i : ℕ) → i < w.layout.sites → (r s : ℕ) (cell : Cell) → keeps_counter i s cell ≡ true → known (account_at w i) r s cell ≤ shown_by (shape_of w.layout) (snapshot_of (view_of (restarted (account_at w i)))).rows r s cell
  moved_tells i below r s cell keeps =
      let a = account_at w i in
      let v = happens w (Restart i) in
      let mine : keeps_counter a.origin.site s cell ≡ true = subst (λ (x : ℕ). keeps_counter x s cell ≡ true) (sym (sound.family.same_site i below)) keeps in
      let tells = snapshot_tells v i (sound_happens w (Restart i) sound) (subst (λ (n : ℕ). i < n) (ap (λ (x : LayoutState). x.sites) (sym (same_layout i below))) below) r s cell in
      omega (
        arith,
        known_kept a a.sites r s cell mine,
        subst (λ (x : LayoutState). known (restarted a) r s cell ≤ shown_by (shape_of x) (snapshot_of (view_of (restarted a))).rows r s cell) (same_layout i below)
            (subst (λ (b : Account). known b r s cell ≤ shown_by (shape_of v.layout) (snapshot_of (view_of b)).rows r s cell) (again i below) tells),
      )
    where
      same_layout : (k : ℕ) → k < w.layout.sites → (happens w (Restart k)).layout ≡ w.layout
      same_layout k low =
          ap (λ (u : World). u.layout) (cond-true (ltb k (length w.sites)) (world_here w (Restart k)) w (lt-ltb k (length w.sites) (omega (arith, low, sound.number))))

  -- and no more than the site knows then
  moved_most : (i : ℕ) → i < w.layout.sites → (r s : ℕ) (cell : Cell) → shown_by (shape_of w.layout) (snapshot_of (view_of (restarted (account_at w i)))).rows r s cell ≤ known (restarted (account_at w i)) r s cell
  moved_most i below r s cell =
      snapshot_most (restarted (account_at w i)) w.layout (sound_restarted (account_at w i) (sound.family.sound i below)) (sound.family.same_records i below) r s cell

  -- a restart makes a site know no more
  known_less : (k : ℕ) → k < w.layout.sites → (r s : ℕ) (cell : Cell) → known (restarted (account_at w k)) r s cell ≤ known (account_at w k) r s cell
  known_less k below r s cell = at (cases_eq s (account_at w k).origin.site)
    where
      at : (s ≡ (account_at w k).origin.site) ⊎ (s ≡ (account_at w k).origin.site → ⊥) → known (restarted (account_at w k)) r s cell ≤ known (account_at w k) r s cell
      at (inl e) =
          let a = account_at w k in
          subst (λ (x : ℕ). known (restarted a) r x cell ≤ known a r x cell) (sym e) (omega (arith, known_own a r cell, known_own (restarted a) r cell))
      at (inr ne) =
          let a = account_at w k in
          omega (
            arith,
            known_other a r s cell ne,
            known_other (restarted a) r s cell ne,
            cond_both (keeps_counter a.origin.site s cell) (told a r s cell) (start_counter (shape_of a.origin.layout) r s cell) (λ x. x ≤ told a r s cell) (λ e. omega arith)
                (λ e. start_below (shape_of a.origin.layout) r s (told a r s) ((sound.family.sound k below).told_fits r s) cell),
          )

  -- .. and nothing of the seats that others were sent
  known_sent : (gone : ℕ → Bool) (r d j : ℕ) → gone d ≡ true → j ≢ d → (k : ℕ) → k < w.layout.sites → gone k ≡ false → (j ≡ k) ⊎ (j ≡ k → ⊥) → known (restarted (account_at w k)) r d (Out j) ≤ known (account_at w j) r d (Out j)
  known_sent gone r d j lost apart k low f (inl e) =
      subst (λ (x : ℕ). known (restarted (account_at w k)) r d (Out j) ≤ known (account_at w x) r d (Out j)) (sym e) (known_less k low r d (Out j))
  known_sent gone r d j lost apart k low f (inr ne) =
      let a = account_at w k in
      let far : d ≢ a.origin.site = λ e. false≢true (sym f ∙ (ap gone (sym (e ∙ sound.family.same_site k low)) ∙ lost)) in
      omega (
        arith,
        known_other (restarted a) r d (Out j) far,
        kept_no a.origin (told a) r d (Out j) (or_from (eqb d a.origin.site) (eqb j a.origin.site) (ne_eqb d a.origin.site far) (ne_eqb j a.origin.site (λ e. ne (e ∙ sound.family.same_site k low)))),
        same_start a.origin.layout w.layout (sound.family.same_records k low) r d (Out j),
        start_elsewhere (shape_of w.layout) r d j apart,
      )

module _ (w : World) (sound : IsSoundWorld w) (gone : ℕ → Bool) (n : ℕ) (few : n ≤ w.layout.sites) where
  -- each of several deltas shows at most, and one of site i shows at least
  most_of : (ds : List DeltaState) (m r s : ℕ) (cell : Cell) → start_counter (shape_of w.layout) r s cell ≤ m → AllByRecursion (λ d. shown_by (shape_of w.layout) d.rows r s cell ≤ m) ds → told_most (shape_of w.layout) ds r s cell ≤ m
  most_of [] m r s cell start all = start
  most_of (d ∷ ds) m r s cell start all = omega (arith, all.0, most_of ds m r s cell start all.1)

  least_of : (ds : List DeltaState) (i m r s : ℕ) (cell : Cell) → IsTeller i ds → AllByRecursion (λ d. d.from ≡ i → m ≤ shown_by (shape_of w.layout) d.rows r s cell) ds → m ≤ told_most (shape_of w.layout) ds r s cell
  least_of [] i m r s cell out all = elim out [ ]
  least_of (d ∷ ds) i m r s cell (inl here) all = omega (arith, all.0 here)
  least_of (d ∷ ds) i m r s cell (inr later) all = omega (arith, least_of ds i m r s cell later all.1)

  abbrev IsMoved : DeltaState → Type 0
  IsMoved m = (m.from < n) × ((gone m.from ≡ false) × (m ≡ snapshot_of (view_of (restarted (account_at w m.from)))))

  each_of : (P : DeltaState → Type 0) → ((m : DeltaState) → IsMoved m → P m) → (ds : List DeltaState) → AllByRecursion IsMoved ds → AllByRecursion P ds
  each_of P one [] all = tt
  each_of P one (d ∷ ds) all = (one d all.0, each_of P one ds all.1)

  -- what a moved site's delta shows of a lost site's row: the seats that it was sent
  shows_sent : (r d j : ℕ) → gone d ≡ true → j ≢ d → (m : DeltaState) → IsMoved m → shown_by (shape_of w.layout) m.rows r d (Out j) ≤ known (account_at w j) r d (Out j)
  shows_sent r d j lost apart m is =
      let below : m.from < w.layout.sites = omega (arith, is.0, few) in
      subst (λ (x : DeltaState). shown_by (shape_of w.layout) x.rows r d (Out j) ≤ known (account_at w j) r d (Out j)) (sym is.1.1)
      (omega (arith, moved_most w sound m.from below r d (Out j), known_sent w sound gone r d j lost apart m.from below is.1.0 (cases_eq j m.from)))

  -- .. and of any site's own row: no more than it did
  shows_done : (r j : ℕ) (cell : Cell) → j < w.layout.sites → (m : DeltaState) → IsMoved m → shown_by (shape_of w.layout) m.rows r j cell ≤ own (account_at w j) r cell
  shows_done r j cell there m is =
      let below : m.from < w.layout.sites = omega (arith, is.0, few) in
      subst (λ (x : DeltaState). shown_by (shape_of w.layout) x.rows r j cell ≤ own (account_at w j) r cell) (sym is.1.1)
      (omega (arith, moved_most w sound m.from below r j cell, known_less w sound m.from below r j cell, known_done w m.from j sound below there r cell))

  -- the delta of site i shows what it keeps
  shows_kept : (i r s : ℕ) (cell : Cell) → i < w.layout.sites → keeps_counter i s cell ≡ true → (m : DeltaState) → IsMoved m → m.from ≡ i → known (account_at w i) r s cell ≤ shown_by (shape_of w.layout) m.rows r s cell
  shows_kept i r s cell below keeps m is from =
      subst (λ (x : DeltaState). known (account_at w i) r s cell ≤ shown_by (shape_of w.layout) x.rows r s cell) (sym is.1.1)
      (subst (λ (k : ℕ). known (account_at w i) r s cell ≤ shown_by (shape_of w.layout) (snapshot_of (view_of (restarted (account_at w k)))).rows r s cell) (sym from)
      (moved_tells w sound i below r s cell keeps))

  pub moved_told : (lower : (i : ℕ) → gone i ≡ true → i < n) (ds : List DeltaState) → AreMoved w gone n ds → IsToldOf w gone n (told_most (shape_of w.layout) ds)
  moved_told lower ds are = record {
    sent = λ r d j lost below left.
        let there : j < w.layout.sites = omega (arith, below, few) in
        let apart : j ≢ d = λ e. false≢true (sym left ∙ (ap gone e ∙ lost)) in
        omega (
          arith,
          most_of ds (known (account_at w j) r d (Out j)) r d (Out j) (omega (arith, start_elsewhere (shape_of w.layout) r d j apart))
              (each_of (λ m. shown_by (shape_of w.layout) m.rows r d (Out j) ≤ known (account_at w j) r d (Out j)) (shows_sent r d j lost apart) ds are.made),
          least_of ds j (known (account_at w j) r d (Out j)) r d (Out j) (are.each j below left)
              (each_of (λ m. m.from ≡ j → known (account_at w j) r d (Out j) ≤ shown_by (shape_of w.layout) m.rows r d (Out j)) (shows_kept j r d (Out j) there (kept_column j d)) ds are.made),
        );
    column = λ r d j lost below left.
        let there : j < w.layout.sites = omega (arith, below, few) in
        omega (
          arith,
          most_of ds (own (account_at w j) r (Out d)) r j (Out d) (start_below (shape_of w.layout) r j (own (account_at w j) r) (row_fits w.layout (account_at w) sound.family j there r) (Out d))
              (each_of (λ m. shown_by (shape_of w.layout) m.rows r j (Out d) ≤ own (account_at w j) r (Out d)) (shows_done r j (Out d) there) ds are.made),
          least_of ds j (known (account_at w j) r j (Out d)) r j (Out d) (are.each j below left)
              (each_of (λ m. m.from ≡ j → known (account_at w j) r j (Out d) ≤ shown_by (shape_of w.layout) m.rows r j (Out d)) (shows_kept j r j (Out d) there (kept_row j (Out d))) ds are.made),
          own_known w j sound there r (Out d),
        );
  }

-- with what these deltas settle a new group may begin
pub moved_group : (w : World) (sound : IsSoundWorld w) (gone : ℕ → Bool) (n : ℕ) → n ≤ w.layout.sites → ((i : ℕ) → gone i ≡ true → i < n) → ((i : ℕ) → n ≤ i → i < w.layout.sites → IsUnbegun w i) → (ds : List DeltaState) → AreMoved w gone n ds → ((r d : ℕ) → gone d ≡ true → lacking (shape_of w.layout) gone n (told_most (shape_of w.layout) ds) r d ≤ counter_limit) → MayMove w (settling (shape_of w.layout) gone n (told_most (shape_of w.layout) ds)) n
moved_group w sound gone n few lower unbegun ds are within = record {
  few = few;
  lost_there = lower;
  unbegun = unbegun;
  settled = settling_is w.layout gone n (told_most (shape_of w.layout) ds) (λ r s cell past. none r s cell past ds are.made) within;
  can_spare = λ d lost. settled_spares w sound gone n few lower unbegun (told_most (shape_of w.layout) ds) (moved_told w sound gone n few lower ds are) d lost;
}
  where
    none : (r s : ℕ) (cell : Cell) → length w.layout.records ≤ r → (xs : List DeltaState) → AllByRecursion (IsMoved w sound gone n few) xs → told_most (shape_of w.layout) xs r s cell ≡ 0
    none r s cell past xs made =
        omega (
          arith,
          most_of w sound gone n few xs 0 r s cell (omega (arith, start_past w.layout r s cell past))
              (each_of w sound gone n few (λ m. shown_by (shape_of w.layout) m.rows r s cell ≤ 0) (λ m is. nothing m is) xs made),
        )
      where
        nothing : (m : DeltaState) → IsMoved w sound gone n few m → shown_by (shape_of w.layout) m.rows r s cell ≤ 0
        nothing m is =
            let below : m.from < w.layout.sites = omega (arith, is.0, few) in
            subst (λ (x : DeltaState). shown_by (shape_of w.layout) x.rows r s cell ≤ 0) (sym is.1.1)
            (omega (arith, moved_most w sound m.from below r s cell, known_less w sound m.from below r s cell, past_records w m.from sound below r s cell past))
