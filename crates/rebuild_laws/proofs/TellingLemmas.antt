-- What the sites of a world tell from one moment on: no less than they knew then of what a restart keeps.
use Rattle.std.proofs.Common.{◌≡◌, ◌≢◌, ℕ, ◌<◌, ◌≤◌, ◌⊎◌, inl, inr, Bool, true, false, eqb, ltb, List, [], ◌∷◌, ◌++◌, length, Option, Some, None, refl, sym, ap, subst, ◌∙◌, arith}
use Rattle.std.specs.Prelude.{slice_get}
use Rattle.std.specs.List.{AllByRecursion}
use Rattle.std.proofs.lemmas.Bool.{cases_eq, cases_lt, cond_both, ltb-true, false≢true}
use Rattle.merge_core.specs.declared.cell.Cell.{Cell}
use Rattle.merge_core.specs.declared.cell.Cell.TheVariants.{Out, Taken, Ann, Fin}
use Rattle.merge_core.specs.declared.delta.Row.{Row}
use Rattle.merge_core.specs.Delta.{DeltaState}
use Rattle.merge_core.specs.Layout.{LayoutState, shape_of}
use Rattle.merge_core.specs.Rows.{grant, start_counter, counter_in, counters_of}
use Rattle.merge_core.specs.Naming.{shown_by}
use Rattle.merge_core.specs.Book.{HasCell}
use Rattle.merge_core.specs.Changes.{keeps_counter}
use Rattle.admission_model.specs.declared.ask.Call.TheVariants.{Ask as AskCall, Merge}
use Rattle.admission_model.specs.Account.{Account, layout_of, own}
use Rattle.admission_model.specs.Knowledge.{known, told, restarted, grown}
use Rattle.admission_model.specs.View.{view_of}
use Rattle.admission_model.specs.Merging.{snapshot_of}
use Rattle.admission_model.specs.Serving.{after}
use Rattle.admission_model.specs.Sound.{FitsRow, IsSound}
use Rattle.admission_model.proofs.CounterLemmas.{known_own, known_other}
use Rattle.admission_model.proofs.RowLemmas.{FitsRow-along, FitsRow-start, shown_as, shown_same, start_below}
use Rattle.admission_model.proofs.HeardLemmas.{kept_yes, kept_row}
use Rattle.admission_model.proofs.NoticeLemmas.{known_after}
use Rattle.admission_model.proofs.OrderLemmas.{move_all}
use Rattle.admission_model.proofs.ServingLemmas.{sites_after}
use Rattle.admission_model.proofs.ToldLemmas.{told_row-wide, all_told}
use Rattle.admission_model.proofs.SnapshotLemmas.{snapshot_shows}
use Rattle.multi_site_world.specs.declared.event.Event.{Event}
use Rattle.multi_site_world.specs.declared.event.Event.TheVariants.{Call, Send, Take, Thin, Restart, Grow}
use Rattle.multi_site_world.specs.World.{World, account_at, with_account, world_taken, thin_message, world_here, place_of, happens, run}
use Rattle.multi_site_world.proofs.FamilyLemmas.{same_shown, same_start}
use Rattle.multi_site_world.proofs.WorldLemmas.{IsSoundWorld, AreSentRows, same_account, other_account}
use Rattle.multi_site_world.proofs.EventLemmas.{snapshot_sent, push_message, sound_happens}
use Rattle.multi_site_world.proofs.StepLaws.{at_each}
use Rattle.multi_site_world.proofs.LawLemmas.{run_layout}
use Rattle.rebuild_laws.proofs.GroupLemmas.{own_known}

pub run_append : (xs ys : List Event) (u : World) → run (xs ++ ys) u ≡ run ys (run xs u)
run_append [] ys u = refl
run_append (x ∷ xs) ys u = run_append xs ys (happens u x)

-- a restart, under any number of sites, leaves what it keeps
pub known_kept : (a : Account) (n r s : ℕ) (cell : Cell) → keeps_counter a.origin.site s cell ≡ true → known a r s cell ≤ known (grown n a) r s cell
known_kept a n r s cell keeps = at (cases_eq s a.origin.site)
  where
    at : (s ≡ a.origin.site) ⊎ (s ≡ a.origin.site → ⊥) → known a r s cell ≤ known (grown n a) r s cell
    at (inl e) =
        subst (λ (x : ℕ). known a r x cell ≤ known (grown n a) r x cell) (sym e)
        (omega (arith, known_own a r cell, known_own (grown n a) r cell))
    at (inr ne) = omega (arith, known_other a r s cell ne, known_other (grown n a) r s cell ne, kept_yes a.origin (told a) r s cell keeps)

-- what one account keeps is known to another
Follows : ℕ → ℕ → Cell → Account → Account → Type 0
Follows r s cell a b = keeps_counter a.origin.site s cell ≡ true → known a r s cell ≤ known b r s cell

taken_follows : (r s : ℕ) (cell : Cell) (w : World) (j i : ℕ) (o : Option DeltaState) → j < length w.sites → Follows r s cell (account_at w i) (account_at (world_taken w j o) i)
unfolding Follows
taken_follows r s cell w j i None below = λ keeps. omega arith
taken_follows r s cell w j i (Some delta) below =
    at_each (Follows r s cell) (λ a keeps. omega arith) w j (after (account_at w j) (Merge delta)) below (λ keeps. known_after (account_at w j) (Merge delta) r s cell) i

here_follows : (r s : ℕ) (cell : Cell) (w : World) (event : Event) (i : ℕ) → place_of event < length w.sites → Follows r s cell (account_at w i) (account_at (world_here w event) i)
unfolding Follows
here_follows r s cell w (Call j ask) i below =
    at_each (Follows r s cell) (λ a keeps. omega arith) w j (after (account_at w j) (AskCall ask)) below (λ keeps. known_after (account_at w j) (AskCall ask) r s cell) i
here_follows r s cell w (Send j) i below = λ keeps. omega arith
here_follows r s cell w (Take j k) i below = taken_follows r s cell w j i (slice_get w.sent k) below
here_follows r s cell w (Thin j k l) i below = taken_follows r s cell w j i (thin_message (slice_get w.sent k) (slice_get w.sent l)) below
here_follows r s cell w (Restart j) i below =
    at_each (Follows r s cell) (λ a keeps. omega arith) w j (restarted (account_at w j)) below (known_kept (account_at w j) (account_at w j).sites r s cell) i
here_follows r s cell w (Grow j) i below =
    cond_both (ltb (account_at w j).sites w.layout.sites) (with_account w j (grown w.layout.sites (account_at w j))) w (λ u. Follows r s cell (account_at w i) (account_at u i))
    (λ e. at_each (Follows r s cell) (λ a keeps. omega arith) w j (grown w.layout.sites (account_at w j)) below (known_kept (account_at w j) w.layout.sites r s cell) i)
    (λ e keeps. omega arith)

-- no event takes from a site what its restarts keep
pub kept_stays : (w : World) (event : Event) (i r s : ℕ) (cell : Cell) → IsSoundWorld w → i < w.layout.sites → keeps_counter i s cell ≡ true → known (account_at w i) r s cell ≤ known (account_at (happens w event) i) r s cell
unfolding Follows
kept_stays w event i r s cell sound below keeps =
    cond_both (ltb (place_of event) (length w.sites)) (world_here w event) w (λ u. known (account_at w i) r s cell ≤ known (account_at u i) r s cell)
    (λ e. here_follows r s cell w event i (ltb-true (place_of event) (length w.sites) e)
    (subst (λ (x : ℕ). keeps_counter x s cell ≡ true) (sym (sound.family.same_site i below)) keeps))
    (λ e. omega arith)

-- sent rows show no less than the start
pub sent_start : (layout : LayoutState) (accounts : ℕ → Account) (rows : List Row) → AreSentRows layout accounts rows → (r s : ℕ) → FitsRow (grant (shape_of layout) r s) s (shown_by (shape_of layout) rows r s)
sent_start layout accounts rows sent r s =
    shown_as (λ f r2 s2. FitsRow (grant (shape_of layout) r2 s2) s2 f) (shape_of layout)
    (λ f g r2 s2 same fits. FitsRow-along (grant (shape_of layout) r2 s2) s2 f g same fits) rows (all_fit rows sent) r s (FitsRow-start (shape_of layout) r s)
  where
    all_fit : (ps : List Row) → AreSentRows layout accounts ps → AllByRecursion (λ p. FitsRow (grant (shape_of layout) p.r p.s) p.s (counter_in (counters_of p))) ps
    all_fit [] all = tt
    all_fit (p ∷ ps) all = (all.0.fits, all_fit ps all.1)

-- a snapshot shows no less than the site knows
pub snapshot_tells : (w : World) (i : ℕ) → IsSoundWorld w → i < w.layout.sites → (r s : ℕ) (cell : Cell) → known (account_at w i) r s cell ≤ shown_by (shape_of w.layout) (snapshot_of (view_of (account_at w i))).rows r s cell
snapshot_tells w i sound below r s cell = at (cases_lt r (length (account_at w i).origin.layout.records)) (cases_lt s (account_at w i).sites) cell
  where
    it : IsSound (account_at w i)
    it = sound.family.sound i below

    rows : List Row
    rows = (snapshot_of (view_of (account_at w i))).rows

    same : (account_at w i).origin.layout.records ≡ w.layout.records
    same = sound.family.same_records i below

    start_low : (c : Cell) → start_counter (shape_of w.layout) r s c ≤ shown_by (shape_of w.layout) rows r s c
    start_low c =
        start_below (shape_of w.layout) r s (shown_by (shape_of w.layout) (snapshot_of (view_of (account_at w i))).rows r s)
        (sent_start w.layout (account_at w) (snapshot_of (view_of (account_at w i))).rows (snapshot_sent w i sound below).rows r s) c

    starts : (c : Cell) → start_counter (shape_of (account_at w i).origin.layout) r s c ≡ start_counter (shape_of w.layout) r s c
    starts c = same_start (account_at w i).origin.layout w.layout (sound.family.same_records i below) r s c

    inside : (c : Cell) → r < length (account_at w i).origin.layout.records → s < (account_at w i).sites → HasCell (account_at w i).sites c → known (account_at w i) r s c ≤ shown_by (shape_of w.layout) rows r s c
    inside c low there has =
        let v = view_of (account_at w i) in
        omega (
          arith,
          snapshot_shows v r s c low there has,
          shown_same (shape_of v.layout) (shape_of (account_at w i).origin.layout) refl (snapshot_of v).rows r s c,
          same_shown (account_at w i).origin.layout w.layout (sound.family.same_records i below) (snapshot_of v).rows r s c,
        )

    nothing : (c : Cell) → length (account_at w i).origin.layout.records ≤ r → known (account_at w i) r s c ≤ shown_by (shape_of w.layout) rows r s c
    nothing c past =
        let a = account_at w i in
        let none : known a r s c ≡ 0 = cond_both (eqb s a.origin.site) (own a r c) (told a r s c) (λ x. x ≡ 0) (λ e. it.no_other_records.none_done r c past) (λ e. it.no_other_records.none_heard r s c past) in
        omega arith

    beyond_row : (c : Cell) → (account_at w i).sites ≤ s → known (account_at w i) r s c ≤ shown_by (shape_of w.layout) rows r s c
    beyond_row c past =
        let a = account_at w i in
        omega (
          arith,
          known_other a r s c (λ e. absurd (omega (arith, it.site_there))),
          it.no_others.none_told r s c past,
          starts c,
          start_low c,
        )

    beyond_sent : (j : ℕ) → (account_at w i).sites ≤ j → (s ≡ (account_at w i).origin.site) ⊎ (s ≡ (account_at w i).origin.site → ⊥) → known (account_at w i) r s (Out j) ≤ shown_by (shape_of w.layout) rows r s (Out j)
    beyond_sent j past (inl e) =
        let a = account_at w i in
        omega (arith, subst (λ (x : ℕ). known a r x (Out j) ≡ own a r (Out j)) (sym e) (known_own a r (Out j)), it.no_others.none_sent r j past)
    beyond_sent j past (inr ne) =
        let a = account_at w i in
        omega (arith, known_other a r s (Out j) ne, it.no_others.none_told_sent r s j past, starts (Out j), start_low (Out j))

    sent_at : (j : ℕ) → r < length (account_at w i).origin.layout.records → s < (account_at w i).sites → (j < (account_at w i).sites) ⊎ ((account_at w i).sites ≤ j) → known (account_at w i) r s (Out j) ≤ shown_by (shape_of w.layout) rows r s (Out j)
    sent_at j low there (inl lower) = inside (Out j) low there lower
    sent_at j low there (inr past) = beyond_sent j past (cases_eq s (account_at w i).origin.site)

    at : (r < length (account_at w i).origin.layout.records) ⊎ (length (account_at w i).origin.layout.records ≤ r) → (s < (account_at w i).sites) ⊎ ((account_at w i).sites ≤ s) → (c : Cell) → known (account_at w i) r s c ≤ shown_by (shape_of w.layout) rows r s c
    at (inr past) other c = nothing c past
    at (inl low) (inr past) c = beyond_row c past
    at (inl low) (inl there) (Out j) = sent_at j low there (cases_lt j (account_at w i).sites)
    at (inl low) (inl there) Taken = inside Taken low there tt
    at (inl low) (inl there) Ann = inside Ann low there tt
    at (inl low) (inl there) Fin = inside Fin low there tt

-- no event takes a site's layout back
Widens : Account → Account → Type 0
Widens a b = a.sites ≤ b.sites

taken_widens : (w : World) (j i : ℕ) (o : Option DeltaState) → j < length w.sites → Widens (account_at w i) (account_at (world_taken w j o) i)
unfolding Widens
taken_widens w j i None below = omega arith
taken_widens w j i (Some delta) below =
    at_each Widens (λ a. omega arith) w j (after (account_at w j) (Merge delta)) below (omega (arith, sites_after (account_at w j) (Merge delta))) i

here_widens : (w : World) (event : Event) (i : ℕ) → place_of event < length w.sites → Widens (account_at w i) (account_at (world_here w event) i)
unfolding Widens
here_widens w (Call j ask) i below =
    at_each Widens (λ a. omega arith) w j (after (account_at w j) (AskCall ask)) below (omega (arith, sites_after (account_at w j) (AskCall ask))) i
here_widens w (Send j) i below = omega arith
here_widens w (Take j k) i below = taken_widens w j i (slice_get w.sent k) below
here_widens w (Thin j k l) i below = taken_widens w j i (thin_message (slice_get w.sent k) (slice_get w.sent l)) below
here_widens w (Restart j) i below = at_each Widens (λ a. omega arith) w j (restarted (account_at w j)) below (omega arith) i
here_widens w (Grow j) i below =
    cond_both (ltb (account_at w j).sites w.layout.sites) (with_account w j (grown w.layout.sites (account_at w j))) w (λ u. Widens (account_at w i) (account_at u i))
    (λ e. at_each Widens (λ a. omega arith) w j (grown w.layout.sites (account_at w j)) below (omega (arith, ltb-true (account_at w j).sites w.layout.sites e)) i)
    (λ e. omega arith)

widens : (w : World) (event : Event) (i : ℕ) → (account_at w i).sites ≤ (account_at (happens w event) i).sites
unfolding Widens
widens w event i =
    cond_both (ltb (place_of event) (length w.sites)) (world_here w event) w (λ u. (account_at w i).sites ≤ (account_at u i).sites)
    (λ e. here_widens w event i (ltb-true (place_of event) (length w.sites) e)) (λ e. omega arith)

-- no row of a message is wider than its site's layout
abbrev pub IsNarrow : World → DeltaState → Type 0
IsNarrow w m = AllByRecursion (λ p. length p.out ≤ (account_at w m.from).sites) m.rows

narrow_happens : (w : World) (event : Event) (m : DeltaState) → IsNarrow w m → IsNarrow (happens w event) m
narrow_happens w event m every = rows m.rows every
  where
    rows : (ps : List Row) → AllByRecursion (λ p. length p.out ≤ (account_at w m.from).sites) ps → AllByRecursion (λ p. length p.out ≤ (account_at (happens w event) m.from).sites) ps
    rows [] every = tt
    rows (p ∷ ps) every = (omega (arith, every.0, widens w event m.from), rows ps every.1)

snapshot_narrow : (w : World) (i : ℕ) → IsSoundWorld w → i < w.layout.sites → IsNarrow w (snapshot_of (view_of (account_at w i)))
snapshot_narrow w i sound below =
    subst (λ (x : ℕ). AllByRecursion (λ p. length p.out ≤ (account_at w x).sites) (snapshot_of (view_of (account_at w i))).rows) (sym (sound.family.same_site i below))
    (all_told (λ p. length p.out ≤ (account_at w i).sites) (shape_of (layout_of (account_at w i))) (known (account_at w i)) (length (shape_of (layout_of (account_at w i))).records)
    (λ r s low there. omega (arith, told_row-wide (account_at w i).sites (known (account_at w i)) r s)))

-- a message shows no less than its site knew at a world of what it keeps
pub record IsWhole (v : World) (m : DeltaState) : Type 0 where
  pub there : m.from < v.layout.sites
  pub tells : (r s : ℕ) (cell : Cell) → keeps_counter m.from s cell ≡ true → known (account_at v m.from) r s cell ≤ shown_by (shape_of v.layout) m.rows r s cell

-- A world that events lead to from one that no message was sent in: the sites that are left know what they kept, and so
-- their messages tell; and no site's own counters are lower.
pub record IsLater (gone : ℕ → Bool) (v w : World) : Type 0 where
  pub same_layout : w.layout ≡ v.layout
  pub kept : (i : ℕ) → i < v.layout.sites → gone i ≡ false → (r s : ℕ) (cell : Cell) → keeps_counter i s cell ≡ true → known (account_at v i) r s cell ≤ known (account_at w i) r s cell
  pub grows : (i : ℕ) → i < v.layout.sites → (r : ℕ) (cell : Cell) → own (account_at v i) r cell ≤ own (account_at w i) r cell
  pub sent : AllByRecursion (λ m. gone m.from ≡ false → IsWhole v m) w.sent
  pub narrow : AllByRecursion (λ m. gone m.from ≡ false → IsNarrow w m) w.sent

taken_sent : (w : World) (i : ℕ) (o : Option DeltaState) → (world_taken w i o).sent ≡ w.sent
taken_sent w i None = refl
taken_sent w i (Some delta) = refl

sent_whole : (gone : ℕ → Bool) (v w : World) (i : ℕ) → IsSoundWorld w → IsLater gone v w → i < w.layout.sites → gone (account_at w i).origin.site ≡ false → IsWhole v (snapshot_of (view_of (account_at w i)))
sent_whole gone v w i sound later below left =
    let site : (account_at w i).origin.site ≡ i = sound.family.same_site i below in
    let low : i < v.layout.sites = subst (λ (l : LayoutState). i < l.sites) later.same_layout below in
    let here : gone i ≡ false = sym (ap gone site) ∙ left in
    record {
      there = omega (arith, site, low);
      tells = subst (λ (x : ℕ). (r s : ℕ) (cell : Cell) → keeps_counter x s cell ≡ true → known (account_at v x) r s cell ≤ shown_by (shape_of v.layout) (snapshot_of (view_of (account_at w i))).rows r s cell) (sym site)
          (λ r s cell keeps.
          omega (
            arith,
            later.kept i low here r s cell keeps,
            snapshot_tells w i sound below r s cell,
            ap (λ (l : LayoutState). shown_by (shape_of l) (snapshot_of (view_of (account_at w i))).rows r s cell) later.same_layout,
          ));
    }

-- what holds of the old messages and of a new snapshot holds of the messages after an event
sent_here : (P : DeltaState → Type 0) (w : World) (event : Event) → ((i : ℕ) → i < w.layout.sites → P (snapshot_of (view_of (account_at w i)))) → place_of event < w.layout.sites → AllByRecursion P w.sent → AllByRecursion P (world_here w event).sent
sent_here P w (Call i ask) new below all = all
sent_here P w (Send i) new below all = push_message P w.sent (snapshot_of (view_of (account_at w i))) all (new i below)
sent_here P w (Take i k) new below all = subst (AllByRecursion P) (sym (taken_sent w i (slice_get w.sent k))) all
sent_here P w (Thin i k l) new below all =
    subst (AllByRecursion P) (sym (taken_sent w i (thin_message (slice_get w.sent k) (slice_get w.sent l)))) all
sent_here P w (Restart i) new below all = all
sent_here P w (Grow i) new below all =
    cond_both (ltb (account_at w i).sites w.layout.sites) (with_account w i (grown w.layout.sites (account_at w i))) w (λ u. AllByRecursion P u.sent) (λ e. all) (λ e. all)

sent_after : (P : DeltaState → Type 0) (w : World) (event : Event) → IsSoundWorld w → ((i : ℕ) → i < w.layout.sites → P (snapshot_of (view_of (account_at w i)))) → AllByRecursion P w.sent → AllByRecursion P (happens w event).sent
sent_after P w event sound new all =
    cond_both (ltb (place_of event) (length w.sites)) (world_here w event) w (λ u. AllByRecursion P u.sent)
    (λ e. sent_here P w event new (omega (arith, ltb-true (place_of event) (length w.sites) e, sound.number)) all) (λ e. all)

later_happens : (gone : ℕ → Bool) (v w : World) (event : Event) → IsSoundWorld w → IsLater gone v w → IsLater gone v (happens w event)
later_happens gone v w event sound later = record {
  same_layout = run_layout (event ∷ []) w ∙ later.same_layout;
  kept = λ i below left r s cell keeps.
      omega (
        arith,
        later.kept i below left r s cell keeps,
        kept_stays w event i r s cell sound (subst (λ (l : LayoutState). i < l.sites) (sym later.same_layout) below) keeps,
      );
  grows = λ i below r cell.
      let there : i < w.layout.sites = subst (λ (l : LayoutState). i < l.sites) (sym later.same_layout) below in
      let next = sound_happens w event sound in
      omega (
        arith,
        later.grows i below r cell,
        kept_stays w event i r i cell sound there (kept_row i cell),
        own_known w i sound there r cell,
        own_known (happens w event) i next (subst (λ (l : LayoutState). i < l.sites) (sym (run_layout (event ∷ []) w)) there) r cell,
      );
  sent = sent_after (λ m. gone m.from ≡ false → IsWhole v m) w event sound (λ i below. sent_whole gone v w i sound later below) later.sent;
  narrow = move_all (λ m. gone m.from ≡ false → IsNarrow w m) (λ m. gone m.from ≡ false → IsNarrow (happens w event) m) (λ m it left. narrow_happens w event m (it left)) (happens w event).sent
      (sent_after (λ m. gone m.from ≡ false → IsNarrow w m) w event sound (λ i below left. snapshot_narrow w i sound below) later.narrow);
}

pub later_run : (gone : ℕ → Bool) (v : World) (events : List Event) (w : World) → IsSoundWorld w → IsLater gone v w → IsLater gone v (run events w)
later_run gone v [] w sound later = later
later_run gone v (event ∷ events) w sound later = later_run gone v events (happens w event) (sound_happens w event sound) (later_happens gone v w event sound later)

-- a world in which no message was sent
pub later_start : (gone : ℕ → Bool) (v : World) → v.sent ≡ [] → IsLater gone v v
later_start gone v none = record {
  same_layout = refl;
  kept = λ i below left r s cell keeps. omega arith;
  grows = λ i below r cell. omega arith;
  sent = subst (AllByRecursion (λ m. gone m.from ≡ false → IsWhole v m)) (sym none) tt;
  narrow = subst (AllByRecursion (λ m. gone m.from ≡ false → IsNarrow v m)) (sym none) tt;
}

-- .. and one in which a lost site was built again
pub later_with : (gone : ℕ → Bool) (v w : World) (d : ℕ) (a : Account) → gone d ≡ true → d < length w.sites → ((r : ℕ) (cell : Cell) → own (account_at w d) r cell ≤ own a r cell) → IsLater gone v w → IsLater gone v (with_account w d a)
later_with gone v w d a lost there more later = record {
  same_layout = later.same_layout;
  kept = λ i below left r s cell keeps.
      subst (λ (b : Account). known (account_at v i) r s cell ≤ known b r s cell) (sym (other_account w d i a (apart i left))) (later.kept i below left r s cell keeps);
  grows = λ i below r cell. grows_at i r cell (later.grows i below r cell) (cases_eq i d);
  sent = later.sent;
  narrow = move_all (λ m. gone m.from ≡ false → IsNarrow w m) (λ m. gone m.from ≡ false → IsNarrow (with_account w d a) m)
      (λ m it left. subst (λ (b : Account). AllByRecursion (λ p. length p.out ≤ b.sites) m.rows) (sym (other_account w d m.from a (apart m.from left))) (it left)) w.sent later.narrow;
}
  where
    apart : (i : ℕ) → gone i ≡ false → i ≢ d
    apart i left e = false≢true (sym left ∙ (ap gone e ∙ lost))

    grows_at : (i r : ℕ) (cell : Cell) → own (account_at v i) r cell ≤ own (account_at w i) r cell → (i ≡ d) ⊎ (i ≡ d → ⊥) → own (account_at v i) r cell ≤ own (account_at (with_account w d a) i) r cell
    grows_at i r cell before (inl e) =
        omega (
          arith,
          before,
          ap (λ (k : ℕ). own (account_at w k) r cell) e,
          more r cell,
          ap (λ (b : Account). own b r cell) (same_account w d a there),
          ap (λ (k : ℕ). own (account_at (with_account w d a) k) r cell) e,
        )
    grows_at i r cell before (inr ne) = omega (arith, before, ap (λ (b : Account). own b r cell) (other_account w d i a ne))

-- a silent site's account stays
taken_silent : (w : World) (d i : ℕ) (o : Option DeltaState) → i ≢ d → account_at (world_taken w i o) d ≡ account_at w d
taken_silent w d i None apart = refl
taken_silent w d i (Some delta) apart = other_account w i d (after (account_at w i) (Merge delta)) (λ e. apart (sym e))

here_silent : (w : World) (d : ℕ) (event : Event) → place_of event ≢ d → account_at (world_here w event) d ≡ account_at w d
here_silent w d (Call i ask) apart = other_account w i d (after (account_at w i) (AskCall ask)) (λ e. apart (sym e))
here_silent w d (Send i) apart = refl
here_silent w d (Take i k) apart = taken_silent w d i (slice_get w.sent k) apart
here_silent w d (Thin i k l) apart = taken_silent w d i (thin_message (slice_get w.sent k) (slice_get w.sent l)) apart
here_silent w d (Restart i) apart = other_account w i d (restarted (account_at w i)) (λ e. apart (sym e))
here_silent w d (Grow i) apart =
    cond_both (ltb (account_at w i).sites w.layout.sites) (with_account w i (grown w.layout.sites (account_at w i))) w (λ u. account_at u d ≡ account_at w d)
    (λ e. other_account w i d (grown w.layout.sites (account_at w i)) (λ e. apart (sym e))) (λ e. refl)

pub run_silent : (d : ℕ) (events : List Event) (w : World) → AllByRecursion (λ event. place_of event ≢ d) events → account_at (run events w) d ≡ account_at w d
run_silent d [] w all = refl
run_silent d (event ∷ events) w all =
    run_silent d events (happens w event) all.1
    ∙ cond_both (ltb (place_of event) (length w.sites)) (world_here w event) w (λ u. account_at u d ≡ account_at w d) (λ e. here_silent w d event all.0) (λ e. refl)
