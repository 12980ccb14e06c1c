-- Every event keeps a world sound, and the start is sound.
use Rattle.std.proofs.Common.{◌≡◌, ℕ, zero, suc, ◌<◌, ◌≤◌, ◌⊎◌, inl, inr, min, ltb, List, [], ◌∷◌, ◌++◌, length, map, get_or, Option, Some, None, refl, sym, ap, subst, ◌∙◌, arith}
use Rattle.std.specs.Prelude.{slice_get}
use Rattle.std.specs.List.{AllByRecursion}
use Rattle.std.proofs.lemmas.List.{length-append, get_or_append_left, get_or_push}
use Rattle.std.proofs.lemmas.Option.{same_Some}
use Rattle.std.proofs.lemmas.Bool.{cases_eq, cond_both, ltb-true}
use Rattle.merge_core.specs.declared.cell.Cell.{Cell}
use Rattle.merge_core.specs.Delta.{DeltaState}
use Rattle.merge_core.specs.declared.layout.RecordSpec.{RecordSpec}
use Rattle.merge_core.specs.Layout.{LayoutState, IsLayout, Shape, shape_of, record_shape, at_sites}
use Rattle.merge_core.specs.Rows.{start_counter, counter_in, counters_of}
use Rattle.admission_model.specs.declared.ask.Ask.{Ask}
use Rattle.admission_model.specs.declared.ask.Call.TheVariants.{Ask as AskCall, Merge}
use Rattle.admission_model.specs.Account.{Account, Origin, begin, start_origin, layout_of, own}
use Rattle.merge_core.specs.Changes.{keeps_counter}
use Rattle.admission_model.specs.Knowledge.{told_after, told, known, hears, restarted, grown}
use Rattle.admission_model.specs.View.{view_of}
use Rattle.merge_core.specs.Moved.{told_row}
use Rattle.admission_model.specs.Replies.{merge_lines}
use Rattle.admission_model.specs.Merging.{snapshot_of}
use Rattle.admission_model.specs.Serving.{unless_refused, after}
use Rattle.admission_model.specs.Sound.{FitsRow, IsSound}
use Rattle.admission_model.proofs.CounterLemmas.{known_own, known_other}
use Rattle.admission_model.proofs.RowLemmas.{start_below}
use Rattle.admission_model.proofs.HeardLemmas.{sound_grown, known_fits, kept_most}
use Rattle.admission_model.proofs.ServingLemmas.{first_both, sound_after, origin_after, sites_after}
use Rattle.admission_model.proofs.StartLemmas.{sound_start}
use Rattle.admission_model.proofs.ToldLemmas.{told_row-below, told_row-tellable, told_row-wide, all_told}
use Rattle.admission_model.proofs.SnapshotLemmas.{told_apart}
use Rattle.admission_model.proofs.ThinLemmas.{all_thin}
use Rattle.multi_site_world.specs.declared.event.Event.{Event}
use Rattle.multi_site_world.specs.declared.event.Event.TheVariants.{Call, Send, Take, Thin, Restart, Grow}
use Rattle.multi_site_world.specs.World.{World, account_at, with_account, first_layout, first_account, first_accounts, start_world, world_taken, thin, thin_message, world_grown, world_here, place_of, happens, run}
use Rattle.multi_site_world.specs.Laws.{IsReachedWorld}
use Rattle.multi_site_world.proofs.FamilyLemmas.{row_fits, same_start, same_grant}
use Rattle.multi_site_world.proofs.WorldLemmas.{own_grows, told_by_ask, IsSentRow, AreSentRows, IsMessage, IsSoundWorld, IsNext, sound_with, shown_done_here}

next_call : (w : World) (i : ℕ) (ask : Ask) → IsSoundWorld w → i < w.layout.sites → IsNext w i (after (account_at w i) (AskCall ask))
next_call w i ask sound below =
    let a = account_at w i in
    let b = after a (AskCall ask) in
    record {
      sound = sound_after a (AskCall ask) (sound.family.sound i below);
      same_records = ap (λ (o : Origin). o.layout.records) (origin_after a (AskCall ask)) ∙ sound.family.same_records i below;
      same_site = ap (λ (o : Origin). o.site) (origin_after a (AskCall ask)) ∙ sound.family.same_site i below;
      few_sites = omega (arith, sites_after a (AskCall ask), sound.family.few_sites i below);
      more = own_grows a (AskCall ask);
      told_done = λ j there r cell.
          let same : told b r j cell ≡ told a r j cell =
          ap (λ o. told_after o b.heard r j cell) (origin_after a (AskCall ask)) ∙ ap (λ h. told_after a.origin h r j cell) (told_by_ask a ask) in
          omega (arith, sound.told_done i j below there r cell);
    }

next_heard : (w : World) (i : ℕ) (delta : DeltaState) → IsSoundWorld w → i < w.layout.sites → AreSentRows w.layout (account_at w) delta.rows → IsNext w i (after (account_at w i) (Merge delta))
next_heard w i delta sound below sent =
    let a = account_at w i in
    record {
      sound = sound_after a (Merge delta) (sound.family.sound i below);
      same_records = ap (λ (o : Origin). o.layout.records) (origin_after a (Merge delta)) ∙ sound.family.same_records i below;
      same_site = ap (λ (o : Origin). o.site) (origin_after a (Merge delta)) ∙ sound.family.same_site i below;
      few_sites = omega (arith, sites_after a (Merge delta), sound.family.few_sites i below);
      more = own_grows a (Merge delta);
      told_done = λ j there r cell.
          first_both (λ o. told (unless_refused o a (hears a delta.rows)) r j cell ≤ own (account_at w j) r cell) (merge_lines (view_of a) delta)
          (λ x. sound.told_done i j below there r cell)
          (λ clear. omega (arith, sound.told_done i j below there r cell, shown_done_here w i delta.rows sound below sent j there r cell));
    }

next_grown : (w : World) (i n : ℕ) → IsSoundWorld w → i < w.layout.sites → (account_at w i).sites ≤ n → n ≤ w.layout.sites → IsNext w i (grown n (account_at w i))
next_grown w i n sound below more few =
    let a = account_at w i in
    record {
      sound = sound_grown a n more (sound.family.sound i below);
      same_records = sound.family.same_records i below;
      same_site = sound.family.same_site i below;
      few_sites = few;
      more = λ r cell. omega arith;
      told_done = λ j there r cell.
          cond_both (keeps_counter a.origin.site j cell) (told a r j cell) (start_counter (shape_of a.origin.layout) r j cell) (λ x. x ≤ own (account_at w j) r cell)
          (λ e. sound.told_done i j below there r cell)
          (λ e. start_done j there r cell);
    }
  where
    start_done : (j : ℕ) → j < w.layout.sites → (r : ℕ) (cell : Cell) → start_counter (shape_of (account_at w i).origin.layout) r j cell ≤ own (account_at w j) r cell
    start_done j there r cell =
        omega (
          arith,
          same_start (account_at w i).origin.layout w.layout (sound.family.same_records i below) r j cell,
          start_below (shape_of w.layout) r j (own (account_at w j) r) (row_fits w.layout (account_at w) sound.family j there r) cell,
        )

pub next_restart : (w : World) (i : ℕ) → IsSoundWorld w → i < w.layout.sites → IsNext w i (restarted (account_at w i))
next_restart w i sound below = next_grown w i (account_at w i).sites sound below (omega arith) (sound.family.few_sites i below)

-- known counters were done by their sites
pub known_done : (w : World) (i j : ℕ) → IsSoundWorld w → i < w.layout.sites → j < w.layout.sites → (r : ℕ) (cell : Cell) → known (account_at w i) r j cell ≤ own (account_at w j) r cell
known_done w i j sound below there r cell = at (cases_eq j i)
  where
    at : (j ≡ i) ⊎ (j ≡ i → ⊥) → known (account_at w i) r j cell ≤ own (account_at w j) r cell
    at (inl e) =
        let site : j ≡ (account_at w i).origin.site = e ∙ sym (sound.family.same_site i below) in
        let mine : known (account_at w i) r j cell ≡ own (account_at w i) r cell = ap (λ x. known (account_at w i) r x cell) site ∙ known_own (account_at w i) r cell in
        let same : own (account_at w i) r cell ≡ own (account_at w j) r cell = ap (λ x. own (account_at w x) r cell) (sym e) in
        omega arith
    at (inr ne) =
        omega (arith, known_other (account_at w i) r j cell (λ e. ne (e ∙ sound.family.same_site i below)), sound.told_done i j below there r cell)

pub snapshot_sent : (w : World) (i : ℕ) → IsSoundWorld w → i < w.layout.sites → IsMessage w.layout (account_at w) (snapshot_of (view_of (account_at w i)))
snapshot_sent w i sound below = record {
  rows = all_told (IsSentRow w.layout (account_at w)) shape (known a) (length shape.records) sent_row;
  width = a.sites;
  same_width = all_told (λ p. length p.out ≡ a.sites) shape (known a) (length shape.records) (λ r s record_there site_there. told_row-wide a.sites (known a) r s);
  apart = λ r s. told_apart shape (known a) r s (length shape.records);
}
  where
    a : Account
    a = account_at w i

    shape : Shape
    shape = shape_of (layout_of (account_at w i))

    same : (account_at w i).origin.layout.records ≡ w.layout.records
    same = sound.family.same_records i below

    sent_row : (r s : ℕ) → r < length (shape_of (layout_of (account_at w i))).records → s < (account_at w i).sites → IsSentRow w.layout (account_at w) (told_row (account_at w i).sites (known (account_at w i)) r s)
    sent_row r s record_there site_there =
        let b = account_at w i in
        let tellable = told_row-tellable (shape_of (layout_of b)) (known b) r s record_there site_there (known_fits b (sound.family.sound i below) r s) in
        let few = sound.family.few_sites i below in
        let there : s < w.layout.sites = omega (arith, few) in
        record {
          record_there = subst (λ (records : List RecordSpec). r < length (map record_shape records)) same record_there;
          site_there = tellable.site_there;
          few_sites = omega (arith, few, tellable.few_sites);
          fits = subst (λ (x : ℕ). FitsRow x s (counter_in (counters_of (told_row b.sites (known b) r s)))) (same_grant b.origin.layout w.layout same r s) tellable.fits;
          done = λ cell. omega (arith, told_row-below b.sites (known b) r s cell, known_done w i s sound below there r cell);
        }

pub push_message : (P : DeltaState → Type 0) (xs : List DeltaState) (d : DeltaState) → AllByRecursion P xs → P d → AllByRecursion P (xs ++ d ∷ [])
push_message P [] d all here = (here, tt)
push_message P (x ∷ xs) d all here = (all.0, push_message P xs d all.1 here)

sound_sent : (w : World) (i : ℕ) → IsSoundWorld w → i < w.layout.sites → IsSoundWorld (record w { sent = w.sent ++ snapshot_of (view_of (account_at w i)) ∷ [] })
sound_sent w i sound below = record {
  layout = sound.layout;
  number = sound.number;
  family = record { sound = sound.family.sound; same_records = sound.family.same_records; same_site = sound.family.same_site; few_sites = sound.family.few_sites };
  told_done = sound.told_done;
  sent = push_message (IsMessage w.layout (account_at w)) w.sent (snapshot_of (view_of (account_at w i))) sound.sent (snapshot_sent w i sound below);
}

pub message_at : (P : DeltaState → Type 0) (xs : List DeltaState) (k : ℕ) (d : DeltaState) → AllByRecursion P xs → slice_get xs k ≡ Some d → P d
message_at P [] k d all e = cc
message_at P (x ∷ xs) zero d all e = let same : x ≡ d = cc in subst P same all.0
message_at P (x ∷ xs) (suc k) d all e = message_at P xs k d all.1 e

-- a message that is there was sent
pub message_there : (w : World) (k : ℕ) (delta : DeltaState) → IsSoundWorld w → slice_get w.sent k ≡ Some delta → IsMessage w.layout (account_at w) delta
message_there w k delta sound e = message_at (IsMessage w.layout (account_at w)) w.sent k delta sound.sent e

sound_taken : (w : World) (i : ℕ) → IsSoundWorld w → i < w.layout.sites → (o : Option DeltaState) → ((delta : DeltaState) → o ≡ Some delta → AreSentRows w.layout (account_at w) delta.rows) → IsSoundWorld (world_taken w i o)
sound_taken w i sound below None sent = sound
sound_taken w i sound below (Some delta) sent =
    sound_with w i (after (account_at w i) (Merge delta)) sound below (next_heard w i delta sound below (sent delta refl))

-- the rows of a thin message were sent
pub thin_sent : (w : World) (o e : Option DeltaState) → ((delta : DeltaState) → o ≡ Some delta → AreSentRows w.layout (account_at w) delta.rows) → (delta : DeltaState) → thin_message o e ≡ Some delta → AreSentRows w.layout (account_at w) delta.rows
thin_sent w None e sent delta is = none e is
  where
    none : (x : Option DeltaState) → thin_message None x ≡ Some delta → AreSentRows w.layout (account_at w) delta.rows
    none None is = cc
    none (Some d) is = cc
thin_sent w (Some whole) None sent delta is = cc
thin_sent w (Some whole) (Some earlier) sent delta is =
    let same : thin whole earlier ≡ delta = same_Some (thin whole earlier) delta is in
    subst (λ (d : DeltaState). AreSentRows w.layout (account_at w) d.rows) same
    (all_thin (IsSentRow w.layout (account_at w)) whole.rows earlier.rows (sent whole refl))

sound_grown_world : (w : World) (i : ℕ) → IsSoundWorld w → i < w.layout.sites → IsSoundWorld (world_grown w i)
sound_grown_world w i sound below =
    cond_both (ltb (account_at w i).sites w.layout.sites) (with_account w i (grown w.layout.sites (account_at w i))) w IsSoundWorld
    (λ e. sound_with w i (grown w.layout.sites (account_at w i)) sound below (next_grown w i w.layout.sites sound below (sound.family.few_sites i below) (omega arith)))
    (λ e. sound)

sound_here : (w : World) (event : Event) → IsSoundWorld w → place_of event < w.layout.sites → IsSoundWorld (world_here w event)
sound_here w (Call i ask) sound below = sound_with w i (after (account_at w i) (AskCall ask)) sound below (next_call w i ask sound below)
sound_here w (Send i) sound below = sound_sent w i sound below
sound_here w (Take i k) sound below = sound_taken w i sound below (slice_get w.sent k) (λ delta e. (message_there w k delta sound e).rows)
sound_here w (Thin i k l) sound below =
    sound_taken w i sound below (thin_message (slice_get w.sent k) (slice_get w.sent l))
    (thin_sent w (slice_get w.sent k) (slice_get w.sent l) (λ delta e. (message_there w k delta sound e).rows))
sound_here w (Restart i) sound below = sound_with w i (restarted (account_at w i)) sound below (next_restart w i sound below)
sound_here w (Grow i) sound below = sound_grown_world w i sound below

pub sound_happens : (w : World) (event : Event) → IsSoundWorld w → IsSoundWorld (happens w event)
sound_happens w event sound =
    cond_both (ltb (place_of event) (length w.sites)) (world_here w event) w IsSoundWorld
    (λ e. sound_here w event sound (omega (arith, ltb-true (place_of event) (length w.sites) e, sound.number)))
    (λ e. sound)

pub sound_run : (events : List Event) (w : World) → IsSoundWorld w → IsSoundWorld (run events w)
sound_run [] w sound = sound
sound_run (event ∷ events) w sound = sound_run events (happens w event) (sound_happens w event sound)

length-first_accounts : (first : ℕ) (layout : LayoutState) (n : ℕ) → length (first_accounts first layout n) ≡ n
length-first_accounts first layout zero = refl
length-first_accounts first layout (suc n) =
    omega (arith, length-append (first_accounts first layout n) (first_account first layout n ∷ []), length-first_accounts first layout n)

pub account_in : (first : ℕ) (layout : LayoutState) (n i : ℕ) (d : Account) → i < n → get_or (first_accounts first layout n) i d ≡ first_account first layout i
account_in first layout zero i d below = absurd (omega arith)
account_in first layout (suc n) i d below = at (cases_eq i n) (account_in first layout n i d)
  where
    at : (i ≡ n) ⊎ (i ≡ n → ⊥) → (i < n → get_or (first_accounts first layout n) i d ≡ first_account first layout i) → get_or (first_accounts first layout n ++ first_account first layout n ∷ []) i d ≡ first_account first layout i
    at (inl e) earlier =
        get_or_push (first_accounts first layout n) (first_account first layout n) d i (length-first_accounts first layout n ∙ sym e)
        ∙ ap (first_account first layout) (sym e)
    at (inr ne) earlier =
        let lower : i < n = omega arith in
        get_or_append_left (first_accounts first layout n) (first_account first layout n ∷ []) d i (omega (arith, length-first_accounts first layout n)) ∙ earlier lower

-- the layout that a site begins with: its site is there, and it has no more sites than the whole
pub record IsFirst (layout : LayoutState) (i : ℕ) (l : LayoutState) : Type 0 where
  pub records : l.records ≡ layout.records
  pub site_there : i < l.sites
  pub few_sites : l.sites ≤ layout.sites

pub is_first : (first : ℕ) (layout : LayoutState) (i : ℕ) → i < layout.sites → IsFirst layout i (first_layout first layout i)
is_first first layout i below =
    cond_both (ltb i first) (at_sites (min first layout.sites) layout) layout (IsFirst layout i)
    (λ e. record { records = refl; site_there = omega (arith, ltb-true i first e); few_sites = omega arith })
    (λ e. record { records = refl; site_there = below; few_sites = omega arith })

pub sound_start_world : (first : ℕ) (layout : LayoutState) → IsLayout layout → IsSoundWorld (start_world first layout)
sound_start_world first layout is = record {
  layout = is;
  number = length-first_accounts first layout layout.sites;
  family = record {
    sound = λ i below. subst IsSound (sym (begins i below)) (sound_start (first_layout first layout i) i (is_first first layout i below).site_there);
    same_records = λ i below. ap (λ (a : Account). a.origin.layout.records) (begins i below) ∙ (is_first first layout i below).records;
    same_site = λ i below. ap (λ (a : Account). a.origin.site) (begins i below);
    few_sites = λ i below. omega (arith, ap (λ (a : Account). a.sites) (begins i below), (is_first first layout i below).few_sites);
  };
  told_done = λ i j below there r cell.
      let mine : told (account_at (start_world first layout) i) r j cell ≡ told (first_account first layout i) r j cell = ap (λ a. told a r j cell) (begins i below) in
      let done : own (account_at (start_world first layout) j) r cell ≡ start_counter (shape_of (first_layout first layout j)) r j cell = ap (λ a. own a r cell) (begins j there) in
      let low : told (first_account first layout i) r j cell ≤ start_counter (shape_of (first_layout first layout i)) r j cell =
      kept_most (start_origin (first_layout first layout i) i) (start_counter (shape_of (first_layout first layout i))) r j cell (omega arith) in
      omega (
        arith,
        mine,
        done,
        low,
        same_start (first_layout first layout i) layout (is_first first layout i below).records r j cell,
        same_start (first_layout first layout j) layout (is_first first layout j there).records r j cell,
      );
  sent = tt;
}
  where
    begins : (i : ℕ) → i < layout.sites → account_at (start_world first layout) i ≡ first_account first layout i
    begins i below = account_in first layout layout.sites i (begin (start_origin layout i)) below

-- every reached world is sound
pub sound_reached : (w : World) → IsReachedWorld w → IsSoundWorld w
sound_reached w is = subst IsSoundWorld (sym is.reached) (sound_run is.events (start_world is.first is.whole) (sound_start_world is.first is.whole is.is_layout))
