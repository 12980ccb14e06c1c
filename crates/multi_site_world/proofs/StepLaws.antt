-- What one event leaves: known notices, and the counters that a thin message raises.
use Rattle.std.proofs.Common.{◌≡◌, ◌≢◌, ℕ, ◌<◌, ◌≤◌, ◌⊎◌, inl, inr, true, false, max, ltb, List, [], ◌∷◌, length, Option, Some, None, refl, sym, ap, subst, ◌∙◌, arith}
use Rattle.std.specs.Prelude.{slice_get}
use Rattle.std.specs.List.{AllByRecursion}
use Rattle.std.proofs.lemmas.Bool.{cases_eq, cases_lt, cases_Bool, cond_both, cond-true, cond-false, ltb-true}
use Rattle.merge_core.specs.declared.cell.Cell.{Cell}
use Rattle.merge_core.specs.declared.cell.Cell.TheVariants.{Ann, Fin}
use Rattle.merge_core.specs.declared.delta.Row.{Row}
use Rattle.merge_core.specs.Delta.{DeltaState}
use Rattle.merge_core.specs.Layout.{shape_of}
use Rattle.merge_core.specs.Naming.{shown_by}
use Rattle.merge_core.specs.Tests.{is_placed, first_failing}
use Rattle.merge_core.specs.Thin.{thin_rows}
use Rattle.admission_model.specs.declared.ask.Call.TheVariants.{Ask as AskCall, Merge}
use Rattle.admission_model.specs.Account.{Account, layout_of, own}
use Rattle.admission_model.specs.Knowledge.{known, hears, grown, restarted}
use Rattle.admission_model.specs.View.{view_of}
use Rattle.admission_model.specs.Replies.{merge_lines}
use Rattle.admission_model.specs.Serving.{reason, unless_refused, after, Serves, Restarts}
use Rattle.admission_model.specs.Sound.{IsSound}
use Rattle.admission_model.proofs.CounterLemmas.{known_own, known_other}
use Rattle.admission_model.proofs.RowLemmas.{AllPass, AllPass-from, none_of, placed_parts, start_below}
use Rattle.admission_model.proofs.HeardLemmas.{known_fits}
use Rattle.admission_model.proofs.ServingLemmas.{first_both}
use Rattle.admission_model.proofs.NoticeLemmas.{IsNotice, notices_stay, known_grown}
use Rattle.admission_model.proofs.SnapshotLemmas.{matches}
use Rattle.admission_model.proofs.ThinLemmas.{thin_raises, all_thin}
use Rattle.multi_site_world.specs.declared.event.Event.{Event}
use Rattle.multi_site_world.specs.declared.event.Event.TheVariants.{Call, Send, Take, Thin, Restart, Grow}
use Rattle.multi_site_world.specs.World.{World, account_at, with_account, world_taken, thin, thin_message, world_here, place_of, happens}
use Rattle.multi_site_world.specs.Laws.{IsReachedWorld, HasCounted, HasTaken}
use Rattle.multi_site_world.proofs.WorldLemmas.{IsSoundWorld, IsSentRow, IsMessage, same_account, other_account, rows_accepted}
use Rattle.multi_site_world.proofs.EventLemmas.{message_there, sound_reached}

-- what holds between a site's old account and its new one, and of each account and itself, holds at every site
pub at_each : (P : Account → Account → Type 0) → ((a : Account) → P a a) → (w : World) (j : ℕ) (a : Account) → j < length w.sites → P (account_at w j) a → (i : ℕ) → P (account_at w i) (account_at (with_account w j a) i)
at_each P same w j a below new i = at (cases_eq i j)
  where
    at : (i ≡ j) ⊎ (i ≡ j → ⊥) → P (account_at w i) (account_at (with_account w j a) i)
    at (inl e) =
        subst (λ (x : ℕ). P (account_at w x) (account_at (with_account w j a) x)) (sym e)
        (subst (λ (b : Account). P (account_at w j) b) (sym (same_account w j a below)) new)
    at (inr ne) = subst (λ (b : Account). P (account_at w i) b) (sym (other_account w j i a ne)) (same (account_at w i))

-- a known notice is known still
Keeps : ℕ → ℕ → Cell → Account → Account → Type 0
Keeps r s cell a b = known a r s cell ≤ known b r s cell

notice_taken : (r s : ℕ) (cell : Cell) → IsNotice cell → (w : World) (j i : ℕ) (o : Option DeltaState) → j < length w.sites → Keeps r s cell (account_at w i) (account_at (world_taken w j o) i)
unfolding Keeps
notice_taken r s cell is w j i None below = omega arith
notice_taken r s cell is w j i (Some delta) below =
    at_each (Keeps r s cell) (λ a. omega arith) w j (after (account_at w j) (Merge delta)) below (notices_stay (account_at w j) (Serves (Merge delta)) r s cell is) i

notice_here : (r s : ℕ) (cell : Cell) → IsNotice cell → (w : World) (event : Event) (i : ℕ) → place_of event < length w.sites → Keeps r s cell (account_at w i) (account_at (world_here w event) i)
unfolding Keeps
notice_here r s cell is w (Call j ask) i below =
    at_each (Keeps r s cell) (λ a. omega arith) w j (after (account_at w j) (AskCall ask)) below (notices_stay (account_at w j) (Serves (AskCall ask)) r s cell is) i
notice_here r s cell is w (Send j) i below = omega arith
notice_here r s cell is w (Take j k) i below = notice_taken r s cell is w j i (slice_get w.sent k) below
notice_here r s cell is w (Thin j k l) i below = notice_taken r s cell is w j i (thin_message (slice_get w.sent k) (slice_get w.sent l)) below
notice_here r s cell is w (Restart j) i below =
    at_each (Keeps r s cell) (λ a. omega arith) w j (restarted (account_at w j)) below (notices_stay (account_at w j) Restarts r s cell is) i
notice_here r s cell is w (Grow j) i below =
    cond_both (ltb (account_at w j).sites w.layout.sites) (with_account w j (grown w.layout.sites (account_at w j))) w (λ u. Keeps r s cell (account_at w i) (account_at u i))
    (λ e. at_each (Keeps r s cell) (λ a. omega arith) w j (grown w.layout.sites (account_at w j)) below (known_grown (account_at w j) w.layout.sites r s cell is) i)
    (λ e. omega arith)

notice_stays : (w : World) (event : Event) (i r s : ℕ) (cell : Cell) → IsNotice cell → known (account_at w i) r s cell ≤ known (account_at (happens w event) i) r s cell
unfolding Keeps
notice_stays w event i r s cell is =
    cond_both (ltb (place_of event) (length w.sites)) (world_here w event) w (λ u. known (account_at w i) r s cell ≤ known (account_at u i) r s cell)
    (λ e. notice_here r s cell is w event i (ltb-true (place_of event) (length w.sites) e)) (λ e. omega arith)

pub announced_stays : (w : World) (event : Event) (i r s : ℕ) → known (account_at w i) r s Ann ≤ known (account_at (happens w event) i) r s Ann
announced_stays w event i r s = notice_stays w event i r s Ann tt

pub finished_stays : (w : World) (event : Event) (i r s : ℕ) → known (account_at w i) r s Fin ≤ known (account_at (happens w event) i) r s Fin
finished_stays w event i r s = notice_stays w event i r s Fin tt

-- what is known after a delta was heard
heard_own : (a : Account) (rows : List Row) (r s : ℕ) (cell : Cell) → s ≡ a.origin.site → known (hears a rows) r s cell ≡ own a r cell
heard_own a rows r s cell e = ap (λ x. known (hears a rows) r x cell) e ∙ known_own (hears a rows) r cell

heard_other : (a : Account) (rows : List Row) (r s : ℕ) (cell : Cell) → s ≢ a.origin.site → known (hears a rows) r s cell ≡ max (known a r s cell) (shown_by (shape_of a.origin.layout) rows r s cell)
heard_other a rows r s cell ne = omega (arith, known_other (hears a rows) r s cell ne, known_other a r s cell ne)

-- a site learns nothing from rows of sites that it does not know
wide_unchanged : (a : Account) → IsSound a → (delta : DeltaState) → AllByRecursion (λ p. a.sites < length p.out) delta.rows → (r s : ℕ) (cell : Cell) → known (after a (Merge delta)) r s cell ≡ known a r s cell
wide_unchanged a sound delta wide r s cell =
    first_both (λ o. known (unless_refused o a (hears a delta.rows)) r s cell ≡ known a r s cell) (merge_lines (view_of a) delta) (λ x. refl)
    (λ clear. nothing delta.rows wide (AllPass-from (is_placed (shape_of (layout_of a))) delta.rows (none_of (first_failing (is_placed (shape_of (layout_of a))) delta.rows) clear.0)))
  where
    start : (s ≡ a.origin.site) ⊎ (s ≡ a.origin.site → ⊥) → known (hears a []) r s cell ≡ known a r s cell
    start (inl e) = heard_own a [] r s cell e ∙ sym (ap (λ x. known a r x cell) e ∙ known_own a r cell)
    start (inr ne) = omega (arith, heard_other a [] r s cell ne, start_below (shape_of a.origin.layout) r s (known a r s) (known_fits a sound r s) cell)

    nothing : (rows : List Row) → AllByRecursion (λ p. a.sites < length p.out) rows → AllPass (is_placed (shape_of (layout_of a))) rows → known (hears a rows) r s cell ≡ known a r s cell
    nothing [] wider placed = start (cases_eq s a.origin.site)
    nothing (p ∷ ps) wider placed =
        let parts = placed_parts (shape_of (layout_of a)) p placed.0 in absurd (omega (arith, wider.0, parts.1.1))

-- thin rows leave what the whole rows leave
thin_heard : (a : Account) → IsSound a → (rows earlier : List Row) → HasCounted a earlier → ((r s : ℕ) → matches r s rows ≤ 1) → (r s : ℕ) (cell : Cell) → known (hears a (thin_rows rows earlier)) r s cell ≡ known (hears a rows) r s cell
thin_heard a sound rows earlier knows apart r s cell = at (cases_eq s a.origin.site)
  where
    at : (s ≡ a.origin.site) ⊎ (s ≡ a.origin.site → ⊥) → known (hears a (thin_rows rows earlier)) r s cell ≡ known (hears a rows) r s cell
    at (inl e) = heard_own a (thin_rows rows earlier) r s cell e ∙ sym (heard_own a rows r s cell e)
    at (inr ne) =
        heard_other a (thin_rows rows earlier) r s cell ne
        ∙ (thin_raises (shape_of a.origin.layout) (known a) rows earlier (λ r2 s2 c. start_below (shape_of a.origin.layout) r2 s2 (known a r2 s2) (known_fits a sound r2 s2) c) knows apart r s cell
        ∙ sym (heard_other a rows r s cell ne))

all_wider : (n width : ℕ) (rows : List Row) → n < width → AllByRecursion (λ p. length p.out ≡ width) rows → AllByRecursion (λ p. n < length p.out) rows
all_wider n width [] less all = tt
all_wider n width (p ∷ ps) less all = (omega (arith, all.0), all_wider n width ps less all.1)

all_narrower : (n width : ℕ) (rows : List Row) → width ≤ n → AllByRecursion (λ p. length p.out ≡ width) rows → AllByRecursion (λ p. length p.out ≤ n) rows
all_narrower n width [] less all = tt
all_narrower n width (p ∷ ps) less all = (omega (arith, all.0), all_narrower n width ps less all.1)

thin_after : (w : World) (i k : ℕ) (delta earlier : DeltaState) → IsSoundWorld w → i < w.layout.sites → slice_get w.sent k ≡ Some delta → HasCounted (account_at w i) earlier.rows → (r s : ℕ) (cell : Cell) → known (after (account_at w i) (Merge (thin delta earlier))) r s cell ≡ known (after (account_at w i) (Merge delta)) r s cell
thin_after w i k delta earlier sound below e knows r s cell = at (cases_lt (account_at w i).sites message.width)
  where
    a : Account
    a = account_at w i

    message : IsMessage w.layout (account_at w) delta
    message = message_there w k delta sound e

    here : IsSound (account_at w i)
    here = sound.family.sound i below

    narrow_thin : AllByRecursion (λ p. length p.out ≡ message.width) (thin_rows delta.rows earlier.rows)
    narrow_thin = all_thin (λ p. length p.out ≡ message.width) delta.rows earlier.rows message.same_width

    heard : (d : DeltaState) → reason (view_of (account_at w i)) (Merge d) ≡ None → known (after (account_at w i) (Merge d)) r s cell ≡ known (hears (account_at w i) d.rows) r s cell
    heard d accepted = ap (λ o. known (unless_refused o (account_at w i) (hears (account_at w i) d.rows)) r s cell) accepted

    at : ((account_at w i).sites < message.width) ⊎ (message.width ≤ (account_at w i).sites) → known (after (account_at w i) (Merge (thin delta earlier))) r s cell ≡ known (after (account_at w i) (Merge delta)) r s cell
    at (inl wide) =
        wide_unchanged a here (thin delta earlier) (all_wider a.sites message.width (thin_rows delta.rows earlier.rows) wide narrow_thin) r s cell
        ∙ sym (wide_unchanged a here delta (all_wider a.sites message.width delta.rows wide message.same_width) r s cell)
    at (inr narrow) =
        heard (thin delta earlier)
        (rows_accepted w i (thin delta earlier) sound below (all_thin (IsSentRow w.layout (account_at w)) delta.rows earlier.rows message.rows) (all_narrower a.sites message.width (thin_rows delta.rows earlier.rows) narrow narrow_thin))
        ∙ (thin_heard a here delta.rows earlier.rows knows message.apart r s cell
        ∙ sym (heard delta (rows_accepted w i delta sound below message.rows (all_narrower a.sites message.width delta.rows narrow message.same_width))))

-- where a site knows each row of an earlier message, a thin message leaves the counters that the whole one does
pub thin_leaves : (w : World) → IsReachedWorld w → (i k l : ℕ) → HasTaken w i l → (r s : ℕ) (cell : Cell) → known (account_at (happens w (Thin i k l)) i) r s cell ≡ known (account_at (happens w (Take i k)) i) r s cell
thin_leaves w is i k l has r s cell = at (cases_Bool (ltb i (length w.sites)))
  where
    sound : IsSoundWorld w
    sound = sound_reached w is

    taken : (o : Option DeltaState) → slice_get w.sent k ≡ o → i < length w.sites → known (account_at (world_taken w i (thin_message o (Some has.message))) i) r s cell ≡ known (account_at (world_taken w i o) i) r s cell
    taken None e below = refl
    taken (Some delta) e below =
        ap (λ b. known b r s cell) (same_account w i (after (account_at w i) (Merge (thin delta has.message))) below)
        ∙ (thin_after w i k delta has.message sound (omega (arith, sound.number)) e has.counted r s cell
        ∙ sym (ap (λ b. known b r s cell) (same_account w i (after (account_at w i) (Merge delta)) below)))

    at : (ltb i (length w.sites) ≡ true) ⊎ (ltb i (length w.sites) ≡ false) → known (account_at (happens w (Thin i k l)) i) r s cell ≡ known (account_at (happens w (Take i k)) i) r s cell
    at (inl e) =
        ap (λ u. known (account_at u i) r s cell) (cond-true (ltb i (length w.sites)) (world_here w (Thin i k l)) w e)
        ∙ (ap (λ o. known (account_at (world_taken w i (thin_message (slice_get w.sent k) o)) i) r s cell) has.there
        ∙ (taken (slice_get w.sent k) refl (ltb-true i (length w.sites) e)
        ∙ sym (ap (λ u. known (account_at u i) r s cell) (cond-true (ltb i (length w.sites)) (world_here w (Take i k)) w e))))
    at (inr e) =
        ap (λ u. known (account_at u i) r s cell) (cond-false (ltb i (length w.sites)) (world_here w (Thin i k l)) w e)
        ∙ sym (ap (λ u. known (account_at u i) r s cell) (cond-false (ltb i (length w.sites)) (world_here w (Take i k)) w e))
