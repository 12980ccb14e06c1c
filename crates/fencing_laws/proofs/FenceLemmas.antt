-- The numbers of later sessions are greater: what every event of a world keeps once a writer has left.
use Rattle.std.proofs.Common.{◌≡◌, ◌≢◌, ℕ, ◌+◌, ◌<◌, ◌≤◌, ◌⊎◌, inl, inr, max, true, false, not, ◌&&◌, ◌||◌, cond, eqb, ltb, List, [], ◌∷◌, ◌++◌, length, Option, Some, None, refl, sym, ap, subst, ◌∙◌, arith}
use Rattle.std.specs.Prelude.{slice_get, is_none}
use Rattle.std.specs.List.{AllByRecursion, list_any}
use Rattle.std.specs.Str.{bytes_eq}
use Rattle.std.proofs.lemmas.Bool.{cases_eq, cases_lt, cases_Bool, cond_both, eqb-true, ne_eqb, lt-leb, lt-ltb, le-ltb, ltb-true, and_parts, cond-true, cond-false}
use Rattle.merge_core.specs.declared.cell.Cell.{Cell}
use Rattle.merge_core.specs.declared.cell.Cell.TheVariants.{Out, Fin}
use Rattle.merge_core.specs.declared.delta.Row.{Row}
use Rattle.merge_core.specs.Delta.{DeltaState}
use Rattle.merge_core.specs.declared.layout.RecordSpec.{RecordSpec}
use Rattle.merge_core.specs.Layout.{LayoutState, Shape, shape_of}
use Rattle.merge_core.specs.Rows.{start_counter, counter_in, counters_of}
use Rattle.merge_core.specs.Naming.{shown_by}
use Rattle.merge_core.specs.Moved.{told_row}
use Rattle.merge_core.specs.Sums.{total, total_others}
use Rattle.merge_core.specs.Thin.{is_same_row, thin_rows}
use Rattle.merge_core.proofs.SumLemmas.{total_le, total_add, total_two, total_member}
use Rattle.session_list.specs.declared.session.Phase.TheVariants.{Writer}
use Rattle.admission_model.specs.declared.ask.Ask.TheVariants.{Leave}
use Rattle.admission_model.specs.declared.ask.Call.TheVariants.{Ask as AskCall, Merge}
use Rattle.admission_model.specs.declared.operation.Operation.TheVariants.{LeftRecord}
use Rattle.admission_model.specs.Account.{Account, layout_of, seats_in, own, inside, phase_of, writers, on_phase}
use Rattle.admission_model.specs.Knowledge.{known, hears, grown, restarted}
use Rattle.admission_model.specs.View.{view_of, rights_of}
use Rattle.admission_model.specs.Merging.{snapshot_of}
use Rattle.admission_model.specs.Replies.{holder_limit, leave_lines}
use Rattle.admission_model.specs.Serving.{reason, advanced, unless_refused, after}
use Rattle.admission_model.proofs.CounterLemmas.{known_own, known_other, does, own_here}
use Rattle.admission_model.proofs.RowLemmas.{shown_as, start_elsewhere, records_number}
use Rattle.admission_model.proofs.StartLemmas.{some_seats}
use Rattle.admission_model.proofs.ServingLemmas.{first_reason-none}
use Rattle.admission_model.proofs.NoticeLemmas.{known_after}
use Rattle.admission_model.proofs.SnapshotLemmas.{snapshot_shows}
use Rattle.admission_model.proofs.ToldLemmas.{told_row-below, all_told}
use Rattle.admission_model.proofs.ThinLemmas.{all_thin}
use Rattle.multi_site_world.specs.declared.event.Event.{Event}
use Rattle.multi_site_world.specs.declared.event.Event.TheVariants.{Call, Send, Take, Thin, Restart, Grow}
use Rattle.multi_site_world.specs.World.{World, account_at, with_account, world_taken, thin, thin_message, world_here, place_of, happens, run}
use Rattle.multi_site_world.specs.Laws.{IsInside, in_flight, all_in_flight}
use Rattle.rebuild_laws.specs.Groups.{IsRebuiltWorld}
use Rattle.multi_site_world.proofs.FamilyLemmas.{conserved, same_seats, same_shown}
use Rattle.multi_site_world.proofs.WorldLemmas.{IsSoundWorld, IsMessage, AreSentRows, same_account, other_account, shown_done_here}
use Rattle.multi_site_world.proofs.EventLemmas.{sound_happens, sound_run, known_done, message_there, message_at}
use Rattle.rebuild_laws.proofs.RebuildLaw.{sound_rebuilt_world}
use Rattle.multi_site_world.proofs.LawLemmas.{sent_before, run_layout}
use Rattle.multi_site_world.proofs.StepLaws.{finished_stays}
use Rattle.admission_model.proofs.SumLemmas.{total_more as total_more_sites}
use Rattle.fencing_laws.specs.Fences.{fence, number_of, KnowsFinished, IsWellTold, AreWellTold}
use Rattle.fencing_laws.proofs.SeatLemmas.{total_more, held, weight_inside, some_inside}
use Rattle.fencing_laws.proofs.FollowLemmas.{KnowsFloor, IsSite, Follows, BringFloor, follows_next, next_ask, next_merge, next_grown}

-- a message shows a seat that was given after `before` only with the floor's finished writers
abbrev pub Tells : Shape → ℕ → (ℕ → ℕ) → (ℕ → ℕ → ℕ) → List Row → List Row → Type 0
Tells shape r floor before whole rows =
    AllByRecursion (λ p. p.r ≡ r → (y : ℕ) → p.s ≢ y → before p.s y < counter_in (counters_of p) (Out y) → (s : ℕ) → floor s ≤ shown_by shape whole r s Fin) rows

abbrev pub TellsIt : Shape → ℕ → (ℕ → ℕ) → (ℕ → ℕ → ℕ) → DeltaState → Type 0
TellsIt shape r floor before d = Tells shape r floor before d.rows d.rows

-- what is kept of a world
pub record IsFollowed (r : ℕ) (floor : ℕ → ℕ) (before : ℕ → ℕ → ℕ) (w : World) : Type 0 where
  pub sites : (i : ℕ) → i < w.layout.sites → Follows w.layout r floor before i (account_at w i)
  pub sent : AllByRecursion (TellsIt (shape_of w.layout) r floor before) w.sent

pub site_of : (w : World) (i : ℕ) → IsSoundWorld w → i < w.layout.sites → IsSite w.layout i (account_at w i)
site_of w i sound below = record {
  sound = sound.family.sound i below;
  same_records = sound.family.same_records i below;
  few = sound.family.few_sites i below;
  same_site = sound.family.same_site i below;
}

followed_with : (r : ℕ) (floor : ℕ → ℕ) (before : ℕ → ℕ → ℕ) (w : World) (i : ℕ) (a : Account) → IsSoundWorld w → i < w.layout.sites → IsFollowed r floor before w → Follows w.layout r floor before i a → IsFollowed r floor before (with_account w i a)
followed_with r floor before w i a sound below f new = record { sites = λ j there. at j there (cases_eq j i); sent = f.sent }
  where
    at : (j : ℕ) → j < w.layout.sites → (j ≡ i) ⊎ (j ≡ i → ⊥) → Follows w.layout r floor before j (account_at (with_account w i a) j)
    at j there (inl e) =
        subst (λ (x : ℕ). Follows w.layout r floor before x (account_at (with_account w i a) x)) (sym e)
        (subst (Follows w.layout r floor before i) (sym (same_account w i a (omega (arith, sound.number)))) new)
    at j there (inr ne) = subst (Follows w.layout r floor before j) (sym (other_account w i j a ne)) (f.sites j there)

-- rows of a message, of which some are taken, bring the floor where the site then knows of the whole message's
-- finished writers
abbrev Brings : Shape → ℕ → (ℕ → ℕ) → (ℕ → ℕ → ℕ) → List Row → ℕ → (Cell → ℕ) → ℕ → ℕ → Type 0
Brings shape r floor before whole y f r2 s2 =
    r2 ≡ r → s2 ≢ y → before s2 y < f (Out y) → (s : ℕ) → floor s ≤ shown_by shape whole r s Fin

pub bring : (r : ℕ) (floor : ℕ → ℕ) (before : ℕ → ℕ → ℕ) (w : World) (i : ℕ) (whole rows : List Row) → IsSoundWorld w → i < w.layout.sites → Tells (shape_of w.layout) r floor before whole rows → ((s : ℕ) → shown_by (shape_of w.layout) whole r s Fin ≤ known (hears (account_at w i) rows) r s Fin) → BringFloor w.layout r floor before (account_at w i) rows
bring r floor before w i whole rows sound below tells covers x y there apart more s =
    omega (arith, covers s, goal s)
  where
    shape : Shape
    shape = shape_of (account_at w i).origin.layout

    along : (f g : Cell → ℕ) (r2 s2 : ℕ) → ((cell : Cell) → g cell ≡ f cell) → Brings (shape_of w.layout) r floor before whole y f r2 s2 → Brings (shape_of w.layout) r floor before whole y g r2 s2
    along f g r2 s2 same b same_r apart more = b same_r apart (omega (arith, more, same (Out y)))

    all : (ps : List Row) → Tells (shape_of w.layout) r floor before whole ps → AllByRecursion (λ p. Brings (shape_of w.layout) r floor before whole y (counter_in (counters_of p)) p.r p.s) ps
    all [] t = tt
    all (p ∷ ps) t = (λ same_r apart above. t.0 same_r y apart above, all ps t.1)

    start : Brings (shape_of w.layout) r floor before whole y (start_counter (shape_of (account_at w i).origin.layout) r x) r x
    start same_r apart above = absurd (omega (arith, above, start_elsewhere shape r x y (λ e. apart (sym e))))

    goal : (s : ℕ) → floor s ≤ shown_by (shape_of w.layout) whole r s Fin
    goal = shown_as (Brings (shape_of w.layout) r floor before whole y) shape along rows (all rows tells) r x start refl apart more

-- whole rows that are heard are known
pub whole_covers : (w : World) (i r : ℕ) (rows : List Row) → IsSoundWorld w → i < w.layout.sites → AreSentRows w.layout (account_at w) rows → (s : ℕ) → shown_by (shape_of w.layout) rows r s Fin ≤ known (hears (account_at w i) rows) r s Fin
whole_covers w i r rows sound below sent s = at (cases_eq s i)
  where
    a : Account
    a = account_at w i

    same : shown_by (shape_of (account_at w i).origin.layout) rows r s Fin ≡ shown_by (shape_of w.layout) rows r s Fin
    same = same_shown (account_at w i).origin.layout w.layout (sound.family.same_records i below) rows r s Fin

    at : (s ≡ i) ⊎ (s ≡ i → ⊥) → shown_by (shape_of w.layout) rows r s Fin ≤ known (hears (account_at w i) rows) r s Fin
    at (inl e) =
        let mine : known (hears a rows) r s Fin ≡ own a r Fin = ap (λ x. known (hears a rows) r x Fin) (e ∙ sym (sound.family.same_site i below)) ∙ known_own (hears a rows) r Fin in
        let done = shown_done_here w i rows sound below sent i below r Fin in
        omega (arith, mine, done, ap (λ x. shown_by (shape_of a.origin.layout) rows r x Fin) e, same)
    at (inr ne) = omega (arith, known_other (hears a rows) r s Fin (λ e. ne (e ∙ sound.family.same_site i below)), same)

-- a row that stands in an earlier message shows no more finished writers than that
told_finished : (counter : ℕ → ℕ → ℕ) (p : Row) (earlier : List Row) → AllByRecursion (λ q. q.fin ≤ counter q.r q.s) earlier → list_any (is_same_row p) earlier ≡ true → p.fin ≤ counter p.r p.s
told_finished counter p [] all e = cc
told_finished counter p (q ∷ qs) all e = at (cases_Bool (is_same_row p q)) (told_finished counter p qs all.1)
  where
    at : (is_same_row p q ≡ true) ⊎ (is_same_row p q ≡ false) → (list_any (is_same_row p) qs ≡ true → p.fin ≤ counter p.r p.s) → p.fin ≤ counter p.r p.s
    at (inl same) later =
        let e0 = and_parts (eqb p.r q.r) (eqb p.s q.s && (bytes_eq p.out q.out && (eqb p.taken q.taken && (eqb p.ann q.ann && eqb p.fin q.fin)))) same in
        let e1 = and_parts (eqb p.s q.s) (bytes_eq p.out q.out && (eqb p.taken q.taken && (eqb p.ann q.ann && eqb p.fin q.fin))) e0.1 in
        let e2 = and_parts (bytes_eq p.out q.out) (eqb p.taken q.taken && (eqb p.ann q.ann && eqb p.fin q.fin)) e1.1 in
        let e3 = and_parts (eqb p.taken q.taken) (eqb p.ann q.ann && eqb p.fin q.fin) e2.1 in
        let e4 = and_parts (eqb p.ann q.ann) (eqb p.fin q.fin) e3.1 in
        omega (arith, all.0, eqb-true p.fin q.fin e4.1, ap (λ x. counter x p.s) (eqb-true p.r q.r e0.0), ap (λ x. counter q.r x) (eqb-true p.s q.s e1.0))
    at (inr other) later = later (sym (ap (λ b. b || list_any (is_same_row p) qs) other) ∙ e)

-- a thin message leaves out no finished writer that is not known
thin_finished : (shape : Shape) (counter : ℕ → ℕ → ℕ) (rows earlier : List Row) → ((r s : ℕ) → start_counter shape r s Fin ≤ counter r s) → AllByRecursion (λ q. q.fin ≤ counter q.r q.s) earlier → (r s : ℕ) → shown_by shape rows r s Fin ≤ max (counter r s) (shown_by shape (thin_rows rows earlier) r s Fin)
thin_finished shape counter [] earlier low knows r s = omega arith
thin_finished shape counter (p ∷ ps) earlier low knows r s =
    at (cases_Bool (list_any (is_same_row p) earlier)) (cases_Bool (eqb p.r r && eqb p.s s)) (thin_finished shape counter ps earlier low knows r s)
  where
    left_out : list_any (is_same_row p) earlier ≡ true → thin_rows (p ∷ ps) earlier ≡ thin_rows ps earlier
    left_out e = ap (λ b. cond (not b) (p ∷ thin_rows ps earlier) (thin_rows ps earlier)) e

    kept : list_any (is_same_row p) earlier ≡ false → thin_rows (p ∷ ps) earlier ≡ p ∷ thin_rows ps earlier
    kept e = ap (λ b. cond (not b) (p ∷ thin_rows ps earlier) (thin_rows ps earlier)) e

    whole_here : (eqb p.r r && eqb p.s s) ≡ true → shown_by shape (p ∷ ps) r s Fin ≡ p.fin
    whole_here e = cond-true (eqb p.r r && eqb p.s s) p.fin (shown_by shape ps r s Fin) e

    whole_later : (eqb p.r r && eqb p.s s) ≡ false → shown_by shape (p ∷ ps) r s Fin ≡ shown_by shape ps r s Fin
    whole_later e = cond-false (eqb p.r r && eqb p.s s) p.fin (shown_by shape ps r s Fin) e

    known_here : (eqb p.r r && eqb p.s s) ≡ true → p.fin ≤ counter p.r p.s → p.fin ≤ counter r s
    known_here e below =
        let same = and_parts (eqb p.r r) (eqb p.s s) e in
        omega (arith, below, ap (λ x. counter x p.s) (eqb-true p.r r same.0), ap (λ x. counter r x) (eqb-true p.s s same.1))

    at : (list_any (is_same_row p) earlier ≡ true) ⊎ (list_any (is_same_row p) earlier ≡ false) → ((eqb p.r r && eqb p.s s) ≡ true) ⊎ ((eqb p.r r && eqb p.s s) ≡ false) → shown_by shape ps r s Fin ≤ max (counter r s) (shown_by shape (thin_rows ps earlier) r s Fin) → shown_by shape (p ∷ ps) r s Fin ≤ max (counter r s) (shown_by shape (thin_rows (p ∷ ps) earlier) r s Fin)
    at (inl told) (inl here) later = omega (arith, whole_here here, known_here here (told_finished counter p earlier knows told))
    at (inl told) (inr elsewhere) later =
        omega (arith, ap (λ rows. shown_by shape rows r s Fin) (left_out told), whole_later elsewhere, later)
    at (inr new) (inl here) later =
        omega (
          arith,
          ap (λ rows. shown_by shape rows r s Fin) (kept new),
          cond-true (eqb p.r r && eqb p.s s) p.fin (shown_by shape (thin_rows ps earlier) r s Fin) here,
          whole_here here,
        )
    at (inr new) (inr elsewhere) later =
        omega (
          arith,
          ap (λ rows. shown_by shape rows r s Fin) (kept new),
          cond-false (eqb p.r r && eqb p.s s) p.fin (shown_by shape (thin_rows ps earlier) r s Fin) elsewhere,
          whole_later elsewhere,
          later,
        )

pub thin_covers : (w : World) (i r : ℕ) (rows earlier : List Row) → IsSoundWorld w → i < w.layout.sites → AreSentRows w.layout (account_at w) rows → KnowsFinished (account_at w i) earlier → (s : ℕ) → shown_by (shape_of w.layout) rows r s Fin ≤ known (hears (account_at w i) (thin_rows rows earlier)) r s Fin
thin_covers w i r rows earlier sound below sent knows s = at (cases_eq s i)
  where
    a : Account
    a = account_at w i

    few : List Row
    few = thin_rows rows earlier

    same : (ps : List Row) → shown_by (shape_of (account_at w i).origin.layout) ps r s Fin ≡ shown_by (shape_of w.layout) ps r s Fin
    same ps = same_shown (account_at w i).origin.layout w.layout (sound.family.same_records i below) ps r s Fin

    at : (s ≡ i) ⊎ (s ≡ i → ⊥) → shown_by (shape_of w.layout) rows r s Fin ≤ known (hears (account_at w i) (thin_rows rows earlier)) r s Fin
    at (inl e) =
        let mine : known (hears a few) r s Fin ≡ own a r Fin = ap (λ x. known (hears a few) r x Fin) (e ∙ sym (sound.family.same_site i below)) ∙ known_own (hears a few) r Fin in
        let done = shown_done_here w i rows sound below sent i below r Fin in
        omega (arith, mine, done, ap (λ x. shown_by (shape_of a.origin.layout) rows r x Fin) e, same rows)
    at (inr ne) =
        let apart : s ≢ a.origin.site = λ e. ne (e ∙ sound.family.same_site i below) in
        omega (
          arith,
          known_other (hears a few) r s Fin apart,
          known_other a r s Fin apart,
          same few,
          thin_finished (shape_of w.layout) (λ r2 s2. known a r2 s2 Fin) rows earlier (λ r2 s2. omega arith) knows r s,
        )

-- a snapshot tells of the floor where the site knows of it
pub tells_known : (r : ℕ) (floor : ℕ → ℕ) (before : ℕ → ℕ → ℕ) (w : World) (i : ℕ) → IsSoundWorld w → i < w.layout.sites → ((x y : ℕ) → x < w.layout.sites → x ≢ y → before x y < known (account_at w i) r x (Out y) → KnowsFloor r floor (account_at w i)) → TellsIt (shape_of w.layout) r floor before (snapshot_of (view_of (account_at w i)))
tells_known r floor before w i sound below shown =
    all_told (λ p. p.r ≡ r → (y : ℕ) → p.s ≢ y → before p.s y < counter_in (counters_of p) (Out y) → (s : ℕ) → floor s ≤ shown_by (shape_of w.layout) (snapshot_of (view_of (account_at w i))).rows r s Fin)
    (shape_of (layout_of a)) (known a) (length (shape_of (layout_of a)).records) row
  where
    a : Account
    a = account_at w i

    rows : List Row
    rows = (snapshot_of (view_of (account_at w i))).rows

    same_records : (account_at w i).origin.layout.records ≡ w.layout.records
    same_records = sound.family.same_records i below

    tells : r < length (account_at w i).origin.layout.records → KnowsFloor r floor (account_at w i) → (s : ℕ) → (s < (account_at w i).sites) ⊎ ((account_at w i).sites ≤ s) → floor s ≤ shown_by (shape_of w.layout) (snapshot_of (view_of (account_at w i))).rows r s Fin
    tells there knows s (inl lower) =
        omega (
          arith,
          knows s,
          snapshot_shows (view_of a) r s Fin there lower tt,
          same_shown (layout_of a) w.layout same_records rows r s Fin,
        )
    tells there knows s (inr past) =
        let site = sound.family.sound i below in
        omega (arith, knows s, known_other a r s Fin (λ e. absurd (omega (arith, site.site_there, past))), site.no_others.none_told r s Fin past)

    row : (r2 s2 : ℕ) → r2 < length (shape_of (layout_of (account_at w i))).records → s2 < (account_at w i).sites → r2 ≡ r → (y : ℕ) → s2 ≢ y → before s2 y < counter_in (counters_of (told_row (account_at w i).sites (known (account_at w i)) r2 s2)) (Out y) → (s : ℕ) → floor s ≤ shown_by (shape_of w.layout) (snapshot_of (view_of (account_at w i))).rows r s Fin
    row r2 s2 record_there site_there same_r y apart above s =
        let few = sound.family.few_sites i below in
        let known_it : before s2 y < known a r s2 (Out y) = omega (arith, above, told_row-below a.sites (known a) r2 s2 (Out y), ap (λ x. known a x s2 (Out y)) same_r) in
        tells (subst (λ (x : ℕ). x < length a.origin.layout.records) same_r (omega (arith, record_there, records_number a.origin.layout)))
        (shown s2 y (omega (arith, site_there, few)) apart known_it) s (cases_lt s a.sites)

pub push_all : (P : DeltaState → Type 0) (xs : List DeltaState) (d : DeltaState) → AllByRecursion P xs → P d → AllByRecursion P (xs ++ d ∷ [])
push_all P [] d all here = (here, tt)
push_all P (x ∷ xs) d all here = (all.0, push_all P xs d all.1 here)

-- every event at a site that there is keeps it
followed_here : (r : ℕ) (floor : ℕ → ℕ) (before : ℕ → ℕ → ℕ) (w : World) (event : Event) → IsSoundWorld w → place_of event < w.layout.sites → IsWellTold w event → IsFollowed r floor before w → IsFollowed r floor before (world_here w event)
followed_here r floor before w (Call i ask) sound below well f =
    let is = site_of w i sound below in
    followed_with r floor before w i (after (account_at w i) (AskCall ask)) sound below f
    (follows_next w.layout r floor before i (account_at w i) (after (account_at w i) (AskCall ask)) is (f.sites i below) (next_ask w.layout r floor before i (account_at w i) ask is))
followed_here r floor before w (Send i) sound below well f = record {
  sites = f.sites;
  sent = push_all (TellsIt (shape_of w.layout) r floor before) w.sent (snapshot_of (view_of (account_at w i))) f.sent (tells_known r floor before w i sound below (f.sites i below).shown);
}
followed_here r floor before w (Take i k) sound below well f = at (slice_get w.sent k) refl
  where
    at : (o : Option DeltaState) → slice_get w.sent k ≡ o → IsFollowed r floor before (world_taken w i o)
    at None e = f
    at (Some delta) e =
        followed_with r floor before w i (after (account_at w i) (Merge delta)) sound below f
        (next_merge w.layout r floor before i (account_at w i) delta (site_of w i sound below) (f.sites i below)
        (bring r floor before w i delta.rows delta.rows sound below (message_at (TellsIt (shape_of w.layout) r floor before) w.sent k delta f.sent e)
        (whole_covers w i r delta.rows sound below (message_there w k delta sound e).rows)))
followed_here r floor before w (Thin i k l) sound below well f = at (slice_get w.sent k) (slice_get w.sent l) refl refl
  where
    at : (o p : Option DeltaState) → slice_get w.sent k ≡ o → slice_get w.sent l ≡ p → IsFollowed r floor before (world_taken w i (thin_message o p))
    at None None e d = f
    at None (Some earlier) e d = f
    at (Some delta) None e d = f
    at (Some delta) (Some earlier) e d =
        followed_with r floor before w i (after (account_at w i) (Merge (thin delta earlier))) sound below f
        (next_merge w.layout r floor before i (account_at w i) (thin delta earlier) (site_of w i sound below) (f.sites i below)
        (bring r floor before w i delta.rows (thin_rows delta.rows earlier.rows) sound below
        (all_thin (λ p. p.r ≡ r → (y : ℕ) → p.s ≢ y → before p.s y < counter_in (counters_of p) (Out y) → (s : ℕ) → floor s ≤ shown_by (shape_of w.layout) delta.rows r s Fin) delta.rows earlier.rows
        (message_at (TellsIt (shape_of w.layout) r floor before) w.sent k delta f.sent e))
        (thin_covers w i r delta.rows earlier.rows sound below (message_there w k delta sound e).rows (well earlier d))))
followed_here r floor before w (Restart i) sound below well f =
    let is = site_of w i sound below in
    followed_with r floor before w i (restarted (account_at w i)) sound below f
    (follows_next w.layout r floor before i (account_at w i) (restarted (account_at w i)) is (f.sites i below) (next_grown w.layout r floor before i (account_at w i).sites (account_at w i) is (omega arith) is.few))
followed_here r floor before w (Grow i) sound below well f =
    let is = site_of w i sound below in
    cond_both (ltb (account_at w i).sites w.layout.sites) (with_account w i (grown w.layout.sites (account_at w i))) w (IsFollowed r floor before)
    (λ e. followed_with r floor before w i (grown w.layout.sites (account_at w i)) sound below f
    (follows_next w.layout r floor before i (account_at w i) (grown w.layout.sites (account_at w i)) is (f.sites i below) (next_grown w.layout r floor before i w.layout.sites (account_at w i) is is.few (omega arith))))
    (λ e. f)

pub followed_run : (r : ℕ) (floor : ℕ → ℕ) (before : ℕ → ℕ → ℕ) (events : List Event) (w : World) → IsSoundWorld w → AreWellTold events w → IsFollowed r floor before w → IsFollowed r floor before (run events w)
followed_run r floor before [] w sound well f = f
followed_run r floor before (event ∷ events) w sound well f =
    followed_run r floor before events (happens w event) (sound_happens w event sound) well.1
    (cond_both (ltb (place_of event) (length w.sites)) (world_here w event) w (IsFollowed r floor before)
    (λ e. followed_here r floor before w event sound (omega (arith, ltb-true (place_of event) (length w.sites) e, sound.number)) well.0 f)
    (λ e. f))

-- an event at a site that there is (as in GatherLemmas of multi_site_world, which keeps it private)
pub happens_here : (u : World) (event : Event) → IsSoundWorld u → place_of event < u.layout.sites → happens u event ≡ world_here u event
happens_here u event sound below =
    cond-true (ltb (place_of event) (length u.sites)) (world_here u event) u (lt-ltb (place_of event) (length u.sites) (omega (arith, sound.number)))

-- a sum of two sums
two_sums : (n i j : ℕ) (f g : ℕ → ℕ) → i < n → j < n → i ≢ j → (f i + g i) + (f j + g j) ≤ total n f + total n g
two_sums n i j f g below there apart = omega (arith, total_two n i j (λ x. f x + g x) below there apart, total_add n f g)

module _ (u : World) (sound : IsSoundWorld u) (i r h : ℕ) (below : i < u.layout.sites) (writes : phase_of (account_at u i) r h ≡ Some Writer) where
  abbrev a : Account
  a = account_at u i

  abbrev left : Account
  left = after (account_at u i) (AskCall (Leave r h))

  site : IsSite u.layout i (account_at u i)
  site = site_of u i sound below

  there_record : r < length (account_at u i).origin.layout.records
  there_record = site.sound.record_there r h Writer writes

  same_seats_here : seats_in (account_at u i).origin.layout r ≡ seats_in u.layout r
  same_seats_here = same_seats (account_at u i).origin.layout u.layout site.same_records r

  -- the writer has all seats, so nobody else holds one
  pub none_elsewhere : (j : ℕ) → j < u.layout.sites → j ≢ i → held (account_at u j) r ≡ 0
  none_elsewhere j there apart =
      omega (
        arith,
        conserved u.layout (account_at u) r sound.layout sound.family (sent_before u r sound),
        weight_inside a r h Writer site.sound writes,
        same_seats_here,
        two_sums u.layout.sites i j (λ x. rights_of (view_of (account_at u x)) r) (λ x. inside (account_at u x) r) below there (λ e. apart (sym e)),
      )

  nothing_moves : all_in_flight (account_at u) u.layout.sites r ≡ 0
  nothing_moves =
      omega (
        arith,
        conserved u.layout (account_at u) r sound.layout sound.family (sent_before u r sound),
        weight_inside a r h Writer site.sound writes,
        same_seats_here,
        total_member u.layout.sites i (λ x. inside (account_at u x) r) below,
      )

  -- so what any site gave has arrived (no_flight of GatherLaw of multi_site_world, which keeps it private)
  pub arrived : (x j : ℕ) → x < u.layout.sites → j < u.layout.sites → x ≢ j → own (account_at u x) r (Out j) ≤ known (account_at u j) r x (Out j)
  arrived x j there here apart =
      let n = u.layout.sites in
      let one = total_member n j (λ k. total_others n k (λ y. in_flight (account_at u) r y k)) here in
      let two = total_member n x (λ y. cond (eqb y j) 0 (in_flight (account_at u) r y j)) there in
      omega (arith, nothing_moves, one, two, cond-false {A = ℕ} (eqb x j) 0 (in_flight (account_at u) r x j) (ne_eqb x j apart))

  -- the floor: what the writer's site knows once it has left; and the counters before
  abbrev floor : ℕ → ℕ
  floor s = known left r s Fin

  abbrev before : ℕ → ℕ → ℕ
  before x y = own (account_at u x) r (Out y)

  accepted : reason (view_of (account_at u i)) (AskCall (Leave r h)) ≡ None
  accepted =
      first_reason-none (leave_lines (view_of a) r h)
      (lt-leb (length a.origin.layout.records) r there_record, (le-ltb holder_limit h (site.sound.holder_there r h Writer writes), (ap is_none writes, tt)))

  leaves : after (account_at u i) (AskCall (Leave r h)) ≡ does (LeftRecord r h) (account_at u i)
  leaves = ap (λ o. unless_refused o (account_at u i) (advanced (account_at u i) (AskCall (Leave r h)))) accepted

  more : own (account_at u i) r Fin < own (after (account_at u i) (AskCall (Leave r h))) r Fin
  more =
      omega (arith, ap (λ b. own b r Fin) leaves, own_here a (LeftRecord r h) Fin, ap (on_phase writers) writes, one)
    where
      one : own (does (LeftRecord r h) (account_at u i)) r Fin ≡ own (account_at u i) r Fin + 1
      one = own_here a (LeftRecord r h) Fin ∙ ap (λ x. own a r Fin + x) (ap (on_phase writers) writes)

  begins : IsFollowed r floor before (with_account u i left)
  begins = record { sites = λ j there. at j there (cases_eq j i); sent = messages }
    where
      follows_old : (j : ℕ) → j < u.layout.sites → j ≢ i → Follows u.layout r floor before j (account_at u j)
      follows_old j there apart = record {
        column = λ x lower other. arrived x j lower there other;
        holds = λ some. absurd (omega (arith, some, none_elsewhere j there apart));
        shown = λ x y lower other above. absurd (omega (arith, above, known_done u j x sound there lower r (Out y)));
      }

      follows_left : Follows u.layout r floor before i (after (account_at u i) (AskCall (Leave r h)))
      follows_left = record {
        column = λ x lower other. omega (arith, arrived x i lower below other, known_after (account_at u i) (AskCall (Leave r h)) r x (Out i));
        holds = λ some s. omega arith;
        shown = λ x y lower other above s. omega arith;
      }

      at : (j : ℕ) → j < u.layout.sites → (j ≡ i) ⊎ (j ≡ i → ⊥) → Follows u.layout r floor before j (account_at (with_account u i (after (account_at u i) (AskCall (Leave r h)))) j)
      at j there (inl e) =
          subst (λ (x : ℕ). Follows u.layout r floor before x (account_at (with_account u i (after (account_at u i) (AskCall (Leave r h)))) x)) (sym e)
          (subst (Follows u.layout r floor before i) (sym (same_account u i (after (account_at u i) (AskCall (Leave r h))) (omega (arith, sound.number)))) follows_left)
      at j there (inr ne) =
          subst (Follows u.layout r floor before j) (sym (other_account u i j (after (account_at u i) (AskCall (Leave r h))) ne)) (follows_old j there ne)

      told : (rows whole : List Row) → AreSentRows u.layout (account_at u) rows → Tells (shape_of u.layout) r floor before whole rows
      told [] whole all = tt
      told (p ∷ ps) whole all =
          (λ same_r y apart above s. absurd (omega (arith, above, all.0.done (Out y), ap (λ x. own (account_at u p.s) x (Out y)) same_r)), told ps whole all.1)

      each : (ds : List DeltaState) → AllByRecursion (IsMessage u.layout (account_at u)) ds → AllByRecursion (TellsIt (shape_of u.layout) r floor before) ds
      each [] all = tt
      each (d ∷ ds) all = (told d.rows d.rows all.0.rows, each ds all.1)

      messages : AllByRecursion (TellsIt (shape_of u.layout) r floor before) u.sent
      messages = each u.sent sound.sent

  pub above_writer : (events : List Event) → AreWellTold events (happens u (Call i (Leave r h))) → (j k : ℕ) → j < u.layout.sites → IsInside (phase_of (account_at (run events (happens u (Call i (Leave r h)))) j) r k) → fence u i r < fence (run events (happens u (Call i (Leave r h)))) j r
  above_writer events well j k there inside_there =
      omega (arith, less, total_le n floor (λ s. known (account_at v j) r s Fin) (λ s lower. knows s), ap (λ m. total m (λ s. known (account_at v j) r s Fin)) same_sites)
    where
      first : World
      first = happens u (Call i (Leave r h))

      v : World
      v = run events (happens u (Call i (Leave r h)))

      n : ℕ
      n = u.layout.sites

      is_first : happens u (Call i (Leave r h)) ≡ with_account u i (after (account_at u i) (AskCall (Leave r h)))
      is_first = happens_here u (Call i (Leave r h)) sound below

      sound_first : IsSoundWorld (happens u (Call i (Leave r h)))
      sound_first = sound_happens u (Call i (Leave r h)) sound

      sound_v : IsSoundWorld (run events (happens u (Call i (Leave r h))))
      sound_v = sound_run events (happens u (Call i (Leave r h))) sound_first

      same_layout : (run events (happens u (Call i (Leave r h)))).layout ≡ u.layout
      same_layout = run_layout (Call i (Leave r h) ∷ events) u

      same_sites : (run events (happens u (Call i (Leave r h)))).layout.sites ≡ u.layout.sites
      same_sites = ap (λ (l : LayoutState). l.sites) same_layout

      followed : IsFollowed r floor before (run events (happens u (Call i (Leave r h))))
      followed = followed_run r floor before events first sound_first well (subst (IsFollowed r floor before) (sym is_first) begins)

      there_v : j < (run events (happens u (Call i (Leave r h)))).layout.sites
      there_v = omega (arith, there, same_sites)

      has : 1 ≤ inside (account_at (run events (happens u (Call i (Leave r h)))) j) r
      has =
          some_inside (account_at v j) r k (sound_v.family.sound j there_v)
          (λ lower. omega (arith, same_seats (account_at v j).origin.layout v.layout (sound_v.family.same_records j there_v) r, some_seats v.layout sound_v.layout r (subst (λ (records : List RecordSpec). r < length records) (sound_v.family.same_records j there_v) lower)))
          inside_there

      knows : KnowsFloor r floor (account_at (run events (happens u (Call i (Leave r h)))) j)
      knows = (followed.sites j there_v).holds (omega (arith, has))

      less : total u.layout.sites (λ s. known (account_at u i) r s Fin) < total u.layout.sites floor
      less =
          total_more n i (λ s. known (account_at u i) r s Fin) floor (λ s. known_after (account_at u i) (AskCall (Leave r h)) r s Fin) below
          (omega (arith, more, own_mine (account_at u i) i r site.same_site, own_mine (after (account_at u i) (AskCall (Leave r h))) i r (ap (λ b. b.origin.site) leaves ∙ site.same_site)))
        where
          own_mine : (b : Account) (x q : ℕ) → b.origin.site ≡ x → known b q x Fin ≡ own b q Fin
          own_mine b x q same = ap (λ y. known b q y Fin) (sym same) ∙ known_own b q Fin

pub later_above : (u : World) → IsRebuiltWorld u → (i r h : ℕ) → i < u.layout.sites → phase_of (account_at u i) r h ≡ Some Writer → (events : List Event) → AreWellTold events (happens u (Call i (Leave r h))) → (j k : ℕ) → j < u.layout.sites → IsInside (phase_of (account_at (run events (happens u (Call i (Leave r h)))) j) r k) → fence u i r < fence (run events (happens u (Call i (Leave r h)))) j r
later_above u is i r h below writes events well j k there inside_there =
    above_writer u (sound_rebuilt_world u is) i r h below writes events well j k there inside_there

-- of sites that a site does not know it knows of no writer
pub counted_all : (w : World) → IsRebuiltWorld w → (i r : ℕ) → i < w.layout.sites → fence w i r ≡ number_of (account_at w i) r
counted_all w is i r below =
    let sound = sound_rebuilt_world w is in
    let a = account_at w i in
    let here = sound.family.sound i below in
    total_more_sites a.sites w.layout.sites (λ s. known a r s Fin) (sound.family.few_sites i below)
    (λ s past. omega (arith, known_other a r s Fin (λ e. absurd (omega (arith, here.site_there, past))), here.no_others.none_told r s Fin past))

pub number_rises : (w : World) (event : Event) (i r : ℕ) → fence w i r ≤ fence (happens w event) i r
number_rises w event i r =
    omega (
      arith,
      total_le w.layout.sites (λ s. known (account_at w i) r s Fin) (λ s. known (account_at (happens w event) i) r s Fin) (λ s lower. finished_stays w event i r s),
      ap (λ (l : LayoutState). total l.sites (λ s. known (account_at (happens w event) i) r s Fin)) (run_layout (event ∷ []) w),
    )
