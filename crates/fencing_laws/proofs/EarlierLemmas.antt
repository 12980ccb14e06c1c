-- A writer's number is no smaller than an earlier session's: some seat is always with who knows of the floor.
use Rattle.std.proofs.Common.{◌≡◌, ◌≢◌, ℕ, ◌+◌, ◌<◌, ◌≤◌, ◌⊎◌, inl, inr, cond, eqb, ltb, List, [], ◌∷◌, length, Option, Some, None, refl, sym, ap, subst, ◌∙◌, arith}
use Rattle.std.specs.Prelude.{slice_get}
use Rattle.std.specs.List.{AllByRecursion}
use Rattle.std.proofs.lemmas.Bool.{cases_eq, cases_lt, cond_both, eq-eqb, ne_eqb, ltb-true, cond-true, cond-false}
use Rattle.merge_core.specs.declared.cell.Cell.{Cell}
use Rattle.merge_core.specs.declared.cell.Cell.TheVariants.{Out, Fin}
use Rattle.merge_core.specs.declared.delta.Row.{Row}
use Rattle.merge_core.specs.Delta.{DeltaState}
use Rattle.merge_core.specs.declared.layout.RecordSpec.{RecordSpec}
use Rattle.merge_core.specs.Layout.{LayoutState, shape_of}
use Rattle.merge_core.specs.Rows.{grant, counter_in, counters_of}
use Rattle.merge_core.specs.Naming.{shown_by}
use Rattle.merge_core.specs.Sums.{total, total_others}
use Rattle.merge_core.specs.Thin.{thin_rows}
use Rattle.merge_core.proofs.SumLemmas.{total_le, total_others_same}
use Rattle.session_list.specs.declared.session.Phase.TheVariants.{Writer}
use Rattle.admission_model.specs.declared.ask.Ask.{Ask}
use Rattle.admission_model.specs.declared.ask.Call.TheVariants.{Ask as AskCall, Merge}
use Rattle.admission_model.specs.declared.reply.Refusal.{Refusal}
use Rattle.admission_model.specs.Account.{Account, own, inside, phase_of}
use Rattle.admission_model.specs.Knowledge.{known, hears, grown}
use Rattle.admission_model.specs.View.{view_of}
use Rattle.admission_model.specs.Merging.{snapshot_of}
use Rattle.admission_model.specs.Serving.{reason, unless_refused, after}
use Rattle.admission_model.specs.Sound.{IsSound}
use Rattle.admission_model.proofs.CounterLemmas.{known_other}
use Rattle.admission_model.proofs.StartLemmas.{some_seats}
use Rattle.admission_model.proofs.ServingLemmas.{sound_after}
use Rattle.admission_model.proofs.NoticeLemmas.{known_after, known_grown}
use Rattle.admission_model.proofs.ThinLemmas.{all_thin}
use Rattle.multi_site_world.specs.declared.event.Event.{Event}
use Rattle.multi_site_world.specs.declared.event.Event.TheVariants.{Call, Send, Take, Thin, Restart, Grow}
use Rattle.multi_site_world.specs.World.{World, account_at, with_account, world_taken, thin, thin_message, world_here, place_of, happens, run}
use Rattle.multi_site_world.specs.Laws.{IsInside}
use Rattle.rebuild_laws.specs.Groups.{IsRebuiltWorld}
use Rattle.multi_site_world.proofs.FamilyLemmas.{same_seats}
use Rattle.multi_site_world.proofs.WorldLemmas.{IsSoundWorld, IsMessage, AreSentRows, same_account, other_account, own_grows}
use Rattle.multi_site_world.proofs.EventLemmas.{sound_happens, sound_run, known_done, message_there, message_at}
use Rattle.rebuild_laws.proofs.RebuildLaw.{sound_rebuilt_world}
use Rattle.multi_site_world.proofs.LawLemmas.{run_layout}
use Rattle.fencing_laws.specs.Fences.{fence, IsWellTold, AreWellTold}
use Rattle.fencing_laws.proofs.SeatLemmas.{others_rise, others_least_but, others_more_but, held, held_sum, some_inside}
use Rattle.fencing_laws.proofs.FollowLemmas.{KnowsFloor, knows_or_not, IsSite, BringFloor, known_mine, ask_known, asked_site, hears_rises, hears_new, grown_column, grown_new, grown_site}
use Rattle.fencing_laws.proofs.FenceLemmas.{Tells, TellsIt, site_of, bring, whole_covers, thin_covers, tells_known, push_all, none_elsewhere, arrived}
use Rattle.fencing_laws.proofs.LeaveLemmas.{at_sites_of}

-- a seat is held by a site that knows of the floor, or was given by one and is in flight
abbrev Marked : ℕ → ℕ → (ℕ → ℕ) → (ℕ → ℕ → ℕ) → (ℕ → Account) → Type 0
Marked n r floor before accounts =
    ((z : ℕ) × ((z < n) × (KnowsFloor r floor (accounts z) × (1 ≤ held (accounts z) r))))
    ⊎ ((x : ℕ) × ((y : ℕ) × ((x < n) × ((y < n) × ((x ≢ y) × ((before x y < own (accounts x) r (Out y)) × (known (accounts y) r x (Out y) < own (accounts x) r (Out y))))))))

-- Whoever knows of a seat that was given after the counters `before` knows of the floor; each site's counters stood
-- so before it knew of the floor, or at the beginning.
pub record Carries (r : ℕ) (floor : ℕ → ℕ) (before : ℕ → ℕ → ℕ) (w : World) : Type 0 where
  pub shown : (j x y : ℕ) → j < w.layout.sites → x < w.layout.sites → x ≢ y → before x y < known (account_at w j) r x (Out y) → KnowsFloor r floor (account_at w j)
  pub sent : AllByRecursion (TellsIt (shape_of w.layout) r floor before) w.sent
  pub least : (x y : ℕ) → x < w.layout.sites → before x y ≤ own (account_at w x) r (Out y)
  pub seat : Marked w.layout.sites r floor before (account_at w)

pub record IsCarried (r : ℕ) (floor : ℕ → ℕ) (w : World) : Type 0 where
  pub before : ℕ → ℕ → ℕ
  pub carries : Carries r floor before w

-- a marked seat stays so where one account changes, unless it was that site's or in flight from or to it
lift_mark : (w : World) (r i : ℕ) (b : Account) (floor : ℕ → ℕ) (before next : ℕ → ℕ → ℕ) → IsSoundWorld w → i < w.layout.sites → ((x y : ℕ) → x ≢ i → next x y ≡ before x y)
    → (KnowsFloor r floor (account_at w i) → 1 ≤ held (account_at w i) r → Marked w.layout.sites r floor next (account_at (with_account w i b)))
    → ((y : ℕ) → y < w.layout.sites → i ≢ y → before i y < own (account_at w i) r (Out y) → known (account_at w y) r i (Out y) < own (account_at w i) r (Out y) → Marked w.layout.sites r floor next (account_at (with_account w i b)))
    → ((x : ℕ) → x < w.layout.sites → x ≢ i → before x i < own (account_at w x) r (Out i) → known (account_at w i) r x (Out i) < own (account_at w x) r (Out i) → Marked w.layout.sites r floor next (account_at (with_account w i b)))
    → Marked w.layout.sites r floor before (account_at w) → Marked w.layout.sites r floor next (account_at (with_account w i b))
lift_mark w r i b floor before next sound below same here from to (inl (z, (lower, (knows, some)))) = at (cases_eq z i)
  where
    at : (z ≡ i) ⊎ (z ≡ i → ⊥) → Marked w.layout.sites r floor next (account_at (with_account w i b))
    at (inl e) = here (subst (λ (x : ℕ). KnowsFloor r floor (account_at w x)) e knows) (subst (λ (x : ℕ). 1 ≤ held (account_at w x) r) e some)
    at (inr ne) =
        let rest = sym (other_account w i z b ne) in
        inl (z, (lower, (subst (KnowsFloor r floor) rest knows, subst (λ (a : Account). 1 ≤ held a r) rest some)))
lift_mark w r i b floor before next sound below same here from to (inr (x, (y, (x_there, (y_there, (apart, (given, flies))))))) =
    at (cases_eq x i) (cases_eq y i)
  where
    at : (x ≡ i) ⊎ (x ≡ i → ⊥) → (y ≡ i) ⊎ (y ≡ i → ⊥) → Marked w.layout.sites r floor next (account_at (with_account w i b))
    at (inl e) place =
        from y y_there (λ d. apart (e ∙ d)) (subst (λ (k : ℕ). before k y < own (account_at w k) r (Out y)) e given) (subst (λ (k : ℕ). known (account_at w y) r k (Out y) < own (account_at w k) r (Out y)) e flies)
    at (inr ne) (inl e) =
        to x x_there ne (subst (λ (k : ℕ). before x k < own (account_at w x) r (Out k)) e given) (subst (λ (k : ℕ). known (account_at w k) r x (Out k) < own (account_at w x) r (Out k)) e flies)
    at (inr ne) (inr not_y) =
        inr (
          x,
          (
            y,
            (
              x_there,
              (
                y_there,
                (
                  apart,
                  (
                    omega (arith, given, same x y ne, ap (λ a. own a r (Out y)) (other_account w i x b ne)),
                    omega (arith, flies, ap (λ a. own a r (Out y)) (other_account w i x b ne), ap (λ a. known a r x (Out y)) (other_account w i y b not_y)),
                  ),
                ),
              ),
            ),
          ),
        )

-- the site holds a marked seat now
here_now : (w : World) (r i : ℕ) (b : Account) (floor : ℕ → ℕ) (next : ℕ → ℕ → ℕ) → IsSoundWorld w → i < w.layout.sites → KnowsFloor r floor b → 1 ≤ held b r → Marked w.layout.sites r floor next (account_at (with_account w i b))
here_now w r i b floor next sound below knows some =
    let now = sym (same_account w i b (omega (arith, sound.number, below))) in
    inl (i, (below, (subst (KnowsFloor r floor) now knows, subst (λ (a : Account). 1 ≤ held a r) now some)))

-- a marked seat is in flight from the site, or to it
from_now : (w : World) (r i y : ℕ) (b : Account) (floor : ℕ → ℕ) (next : ℕ → ℕ → ℕ) → IsSoundWorld w → i < w.layout.sites → y < w.layout.sites → i ≢ y → next i y < own b r (Out y) → known (account_at w y) r i (Out y) < own b r (Out y) → Marked w.layout.sites r floor next (account_at (with_account w i b))
from_now w r i y b floor next sound below there apart given flies =
    let now = same_account w i b (omega (arith, sound.number, below)) in
    inr (
      i,
      (
        y,
        (
          below,
          (
            there,
            (
              apart,
              (
                omega (arith, given, ap (λ a. own a r (Out y)) now),
                omega (arith, flies, ap (λ a. own a r (Out y)) now, ap (λ a. known a r i (Out y)) (other_account w i y b (λ e. apart (sym e)))),
              ),
            ),
          ),
        ),
      ),
    )

to_now : (w : World) (r i x : ℕ) (b : Account) (floor : ℕ → ℕ) (next : ℕ → ℕ → ℕ) → IsSoundWorld w → i < w.layout.sites → x < w.layout.sites → x ≢ i → next x i < own (account_at w x) r (Out i) → known b r x (Out i) < own (account_at w x) r (Out i) → Marked w.layout.sites r floor next (account_at (with_account w i b))
to_now w r i x b floor next sound below there apart given flies =
    let now = same_account w i b (omega (arith, sound.number, below)) in
    let rest = other_account w i x b apart in
    inr (
      x,
      (
        i,
        (
          there,
          (
            below,
            (
              apart,
              (
                omega (arith, given, ap (λ a. own a r (Out i)) rest),
                omega (arith, flies, ap (λ a. own a r (Out i)) rest, ap (λ a. known a r x (Out i)) now),
              ),
            ),
          ),
        ),
      ),
    )

-- what a site knows of its own row
known_self : (w : World) (i r : ℕ) (cell : Cell) → IsSoundWorld w → i < w.layout.sites → known (account_at w i) r i cell ≡ own (account_at w i) r cell
known_self w i r cell sound below = known_mine (account_at w i) i r cell (sound.family.same_site i below)

-- a step in which the site does nothing
carried_still : (w : World) (r i : ℕ) (b : Account) (floor : ℕ → ℕ) (before : ℕ → ℕ → ℕ) → IsSoundWorld w → i < w.layout.sites → IsSite w.layout i b → ((cell : Cell) → own b r cell ≡ own (account_at w i) r cell) → ((x : ℕ) → x ≢ i → known (account_at w i) r x (Out i) ≤ known b r x (Out i)) → ((s : ℕ) → known (account_at w i) r s Fin ≤ known b r s Fin)
    → ((x y : ℕ) → x < w.layout.sites → x ≢ y → before x y < known b r x (Out y) → (before x y < known (account_at w i) r x (Out y)) ⊎ KnowsFloor r floor b)
    → Carries r floor before w → Carries r floor before (with_account w i b)
carried_still w r i b floor before sound below site owns columns fins new c = record {
  shown = λ j x y there x_there apart more. at_sites_of w i b sound below (λ k a. k < w.layout.sites → before x y < known a r x (Out y) → KnowsFloor r floor a)
      (λ lower more. knows x y x_there apart more) (λ k ne lower more. c.shown k x y lower x_there apart more) j there more;
  sent = c.sent;
  least = λ x y there. at_sites_of w i b sound below (λ k a. k < w.layout.sites → before k y ≤ own a r (Out y)) (λ lower. omega (arith, c.least i y below, owns (Out y))) (λ k ne lower. c.least k y lower) x there;
  seat = lift_mark w r i b floor before before sound below (λ x y ne. refl)
      (λ knows_a some. here_now w r i b floor before sound below (raised knows_a) (omega (arith, some, more_held)))
      (λ y there apart given flies. from_now w r i y b floor before sound below there apart (omega (arith, given, owns (Out y))) (omega (arith, flies, owns (Out y))))
      (λ x there apart given flies. arrives x there apart given flies (cases_lt (known b r x (Out i)) (own (account_at w x) r (Out i)))) c.seat;
}
  where
    a : Account
    a = account_at w i

    n : ℕ
    n = w.layout.sites

    raised : KnowsFloor r floor (account_at w i) → KnowsFloor r floor b
    raised knows s = omega (arith, knows s, fins s)

    knows : (x y : ℕ) → x < w.layout.sites → x ≢ y → before x y < known b r x (Out y) → KnowsFloor r floor b
    knows x y there apart more = at (new x y there apart more)
      where
        at : (before x y < known (account_at w i) r x (Out y)) ⊎ KnowsFloor r floor b → KnowsFloor r floor b
        at (inl old) = raised (c.shown i x y below there apart old)
        at (inr now) = now

    sum_a : held (account_at w i) r + total_others w.layout.sites i (λ j. own (account_at w i) r (Out j)) ≡ grant (shape_of w.layout) r i + total_others w.layout.sites i (λ j. known (account_at w i) r j (Out i))
    sum_a =
        let is = site_of w i sound below in held_sum a w.layout i r is.sound is.same_records is.few is.same_site

    sum_b : held b r + total_others w.layout.sites i (λ j. own b r (Out j)) ≡ grant (shape_of w.layout) r i + total_others w.layout.sites i (λ j. known b r j (Out i))
    sum_b = held_sum b w.layout i r site.sound site.same_records site.few site.same_site

    same_given : total_others w.layout.sites i (λ j. own b r (Out j)) ≡ total_others w.layout.sites i (λ j. own (account_at w i) r (Out j))
    same_given = total_others_same n i (λ j. own b r (Out j)) (λ j. own a r (Out j)) (λ j lower apart. owns (Out j))

    more_got : total_others w.layout.sites i (λ j. known (account_at w i) r j (Out i)) ≤ total_others w.layout.sites i (λ j. known b r j (Out i))
    more_got = others_least_but n i (λ j. known a r j (Out i)) (λ j. known b r j (Out i)) columns

    more_held : held (account_at w i) r ≤ held b r
    more_held = omega (arith, sum_a, sum_b, same_given, more_got)

    arrives : (x : ℕ) → x < w.layout.sites → x ≢ i → before x i < own (account_at w x) r (Out i) → known (account_at w i) r x (Out i) < own (account_at w x) r (Out i) → (known b r x (Out i) < own (account_at w x) r (Out i)) ⊎ (own (account_at w x) r (Out i) ≤ known b r x (Out i)) → Marked w.layout.sites r floor before (account_at (with_account w i b))
    arrives x there apart given flies (inl still) = to_now w r i x b floor before sound below there apart given still
    arrives x there apart given flies (inr landed) =
        here_now w r i b floor before sound below (knows x i there apart (omega (arith, given, landed)))
        (omega (arith, sum_a, sum_b, same_given, others_more_but n i x (λ j. known a r j (Out i)) (λ j. known b r j (Out i)) columns there apart (omega (arith, flies, landed))))

-- an ask by a site that knows of the floor
carried_knower : (w : World) (r i : ℕ) (ask : Ask) (floor : ℕ → ℕ) (before : ℕ → ℕ → ℕ) → IsSoundWorld w → i < w.layout.sites → KnowsFloor r floor (after (account_at w i) (AskCall ask)) → Carries r floor before w → Carries r floor before (with_account w i (after (account_at w i) (AskCall ask)))
carried_knower w r i ask floor before sound below knows c = record {
  shown = λ j x y there x_there apart more. at_sites_of w i b sound below (λ k a. k < w.layout.sites → before x y < known a r x (Out y) → KnowsFloor r floor a)
      (λ lower more. knows) (λ k ne lower more. c.shown k x y lower x_there apart more) j there more;
  sent = c.sent;
  least = λ x y there. at_sites_of w i b sound below (λ k a. k < w.layout.sites → before k y ≤ own a r (Out y)) (λ lower. omega (arith, c.least i y below, own_grows a (AskCall ask) r (Out y))) (λ k ne lower. c.least k y lower) x there;
  seat = lift_mark w r i b floor before before sound below (λ x y ne. refl)
      (λ knows_a some. stays_or_flies some (cases_lt 0 (held b r)))
      (λ y there apart given flies. from_now w r i y b floor before sound below there apart (omega (arith, given, own_grows a (AskCall ask) r (Out y))) (omega (arith, flies, own_grows a (AskCall ask) r (Out y))))
      (λ x there apart given flies. to_now w r i x b floor before sound below there apart given (omega (arith, flies, ask_known w.layout i r a ask is x (Out i) apart))) c.seat;
}
  where
    a : Account
    a = account_at w i

    b : Account
    b = after (account_at w i) (AskCall ask)

    n : ℕ
    n = w.layout.sites

    is : IsSite w.layout i (account_at w i)
    is = site_of w i sound below

    site : IsSite w.layout i (after (account_at w i) (AskCall ask))
    site = asked_site w.layout i (account_at w i) ask (site_of w i sound below)

    stays_or_flies : 1 ≤ held (account_at w i) r → (0 < held (after (account_at w i) (AskCall ask)) r) ⊎ (held (after (account_at w i) (AskCall ask)) r ≤ 0) → Marked w.layout.sites r floor before (account_at (with_account w i (after (account_at w i) (AskCall ask))))
    stays_or_flies some (inl still) = here_now w r i b floor before sound below knows (omega arith)
    stays_or_flies some (inr none) =
        let sum_a = held_sum a w.layout i r is.sound is.same_records is.few is.same_site in
        let sum_b = held_sum b w.layout i r site.sound site.same_records site.few site.same_site in
        let same = total_others_same n i (λ j. known b r j (Out i)) (λ j. known a r j (Out i)) (λ j lower apart. ask_known w.layout i r a ask is j (Out i) apart) in
        let it = others_rise n i (λ j. own a r (Out j)) (λ j. own b r (Out j)) (omega (arith, sum_a, sum_b, same, some, none)) in
        from_now w r i it.0 b floor before sound below it.1.0 (λ e. it.1.1.0 (sym e)) (omega (arith, it.1.1.1, c.least i it.0 below))
        (omega (arith, it.1.1.1, known_done w it.0 i sound it.1.0 below r (Out it.0)))

-- an ask by a site that does not know of it: what it gave counts as given before
carried_other : (w : World) (r i : ℕ) (ask : Ask) (floor : ℕ → ℕ) (before : ℕ → ℕ → ℕ) → IsSoundWorld w → i < w.layout.sites → ¬ KnowsFloor r floor (after (account_at w i) (AskCall ask)) → Carries r floor before w
    → Carries r floor (λ x y. cond (eqb x i) (own (after (account_at w i) (AskCall ask)) r (Out y)) (before x y)) (with_account w i (after (account_at w i) (AskCall ask)))
carried_other w r i ask floor before sound below not_known c = record {
  shown = λ j x y there x_there apart more. at_sites_of w i b sound below (λ k a. k < w.layout.sites → next x y < known a r x (Out y) → KnowsFloor r floor a)
      (λ lower more. absurd (not_known (here x y x_there apart more (cases_eq x i)))) (λ k ne lower more. there_too k x y ne lower x_there apart more (cases_eq x i)) j there more;
  sent = tells_more w.sent sound.sent c.sent;
  least = λ x y there. at_sites_of w i b sound below (λ k a. k < w.layout.sites → next k y ≤ own a r (Out y)) (λ lower. omega (arith, next_here y)) (λ k ne lower. omega (arith, next_there k y ne, c.least k y lower)) x there;
  seat = lift_mark w r i b floor before next sound below (λ x y ne. next_there x y ne)
      (λ knows some. absurd (not_known (raised knows)))
      (λ y there apart given flies. absurd (not_known (raised (c.shown i i y below below apart (omega (arith, given, known_self w i r (Out y) sound below))))))
      (λ x there apart given flies. to_now w r i x b floor next sound below there apart (omega (arith, given, next_there x i apart)) (omega (arith, flies, ask_known w.layout i r a ask is x (Out i) apart))) c.seat;
}
  where
    a : Account
    a = account_at w i

    b : Account
    b = after (account_at w i) (AskCall ask)

    is : IsSite w.layout i (account_at w i)
    is = site_of w i sound below

    next : ℕ → ℕ → ℕ
    next = λ x y. cond (eqb x i) (own (after (account_at w i) (AskCall ask)) r (Out y)) (before x y)

    next_here : (y : ℕ) → cond (eqb i i) (own (after (account_at w i) (AskCall ask)) r (Out y)) (before i y) ≡ own (after (account_at w i) (AskCall ask)) r (Out y)
    next_here y = cond-true (eqb i i) (own b r (Out y)) (before i y) (eq-eqb i i refl)

    next_there : (x y : ℕ) → x ≢ i → cond (eqb x i) (own (after (account_at w i) (AskCall ask)) r (Out y)) (before x y) ≡ before x y
    next_there x y ne = cond-false (eqb x i) (own b r (Out y)) (before x y) (ne_eqb x i ne)

    raised : KnowsFloor r floor (account_at w i) → KnowsFloor r floor (after (account_at w i) (AskCall ask))
    raised knows s = omega (arith, knows s, known_after a (AskCall ask) r s Fin)

    here : (x y : ℕ) → x < w.layout.sites → x ≢ y → cond (eqb x i) (own (after (account_at w i) (AskCall ask)) r (Out y)) (before x y) < known (after (account_at w i) (AskCall ask)) r x (Out y) → (x ≡ i) ⊎ (x ≡ i → ⊥) → KnowsFloor r floor (after (account_at w i) (AskCall ask))
    here x y there apart more (inl e) =
        let mine = known_mine b i r (Out y) (asked_site w.layout i a ask is).same_site in
        absurd (omega (arith, more, ap (λ k. cond (eqb k i) (own b r (Out y)) (before k y)) e, next_here y, ap (λ k. known b r k (Out y)) e, mine))
    here x y there apart more (inr ne) =
        raised (c.shown i x y below there apart (omega (arith, more, next_there x y ne, ask_known w.layout i r a ask is x (Out y) ne)))

    there_too : (k x y : ℕ) → k ≢ i → k < w.layout.sites → x < w.layout.sites → x ≢ y → cond (eqb x i) (own (after (account_at w i) (AskCall ask)) r (Out y)) (before x y) < known (account_at w k) r x (Out y) → (x ≡ i) ⊎ (x ≡ i → ⊥) → KnowsFloor r floor (account_at w k)
    there_too k x y not_i lower there apart more (inl e) =
        absurd (omega (arith, more, ap (λ q. cond (eqb q i) (own b r (Out y)) (before q y)) e, next_here y, ap (λ q. known (account_at w k) r q (Out y)) e, known_done w k i sound lower below r (Out y), own_grows a (AskCall ask) r (Out y)))
    there_too k x y not_i lower there apart more (inr ne) = c.shown k x y lower there apart (omega (arith, more, next_there x y ne))

    more_before : (x y : ℕ) → (x ≡ i) ⊎ (x ≡ i → ⊥) → before x y ≤ cond (eqb x i) (own (after (account_at w i) (AskCall ask)) r (Out y)) (before x y)
    more_before x y (inl e) =
        subst (λ (k : ℕ). before k y ≤ cond (eqb k i) (own b r (Out y)) (before k y)) (sym e) (omega (arith, next_here y, c.least i y below, own_grows a (AskCall ask) r (Out y)))
    more_before x y (inr ne) = omega (arith, next_there x y ne)

    rows_more : (whole rows : List Row) → Tells (shape_of w.layout) r floor before whole rows → Tells (shape_of w.layout) r floor (λ x y. cond (eqb x i) (own (after (account_at w i) (AskCall ask)) r (Out y)) (before x y)) whole rows
    rows_more whole [] all = tt
    rows_more whole (p ∷ ps) all =
        (λ same_r y apart above s. all.0 same_r y apart (omega (arith, above, more_before p.s y (cases_eq p.s i))) s, rows_more whole ps all.1)

    tells_more : (ds : List DeltaState) → AllByRecursion (IsMessage w.layout (account_at w)) ds → AllByRecursion (TellsIt (shape_of w.layout) r floor before) ds → AllByRecursion (TellsIt (shape_of w.layout) r floor (λ x y. cond (eqb x i) (own (after (account_at w i) (AskCall ask)) r (Out y)) (before x y))) ds
    tells_more [] messages all = tt
    tells_more (d ∷ ds) messages all = (rows_more d.rows d.rows all.0, tells_more ds messages.1 all.1)

carried_ask : (w : World) (r i : ℕ) (ask : Ask) (floor : ℕ → ℕ) → IsSoundWorld w → i < w.layout.sites → ((s : ℕ) → w.layout.sites ≤ s → floor s ≡ 0) → IsCarried r floor w → IsCarried r floor (with_account w i (after (account_at w i) (AskCall ask)))
carried_ask w r i ask floor sound below past c = at (knows_or_not w.layout.sites r floor (after (account_at w i) (AskCall ask)) past)
  where
    at : KnowsFloor r floor (after (account_at w i) (AskCall ask)) ⊎ (¬ KnowsFloor r floor (after (account_at w i) (AskCall ask))) → IsCarried r floor (with_account w i (after (account_at w i) (AskCall ask)))
    at (inl knows) = record { before = c.before; carries = carried_knower w r i ask floor c.before sound below knows c.carries }
    at (inr not_known) = record {
      before = λ x y. cond (eqb x i) (own (after (account_at w i) (AskCall ask)) r (Out y)) (c.before x y);
      carries = carried_other w r i ask floor c.before sound below not_known c.carries;
    }

carried_merge : (w : World) (r i : ℕ) (delta : DeltaState) (floor : ℕ → ℕ) → IsSoundWorld w → i < w.layout.sites → (c : IsCarried r floor w) → BringFloor w.layout r floor c.before (account_at w i) delta.rows → IsCarried r floor (with_account w i (after (account_at w i) (Merge delta)))
carried_merge w r i delta floor sound below c brings = at (reason (view_of a) (Merge delta)) refl
  where
    a : Account
    a = account_at w i

    is : IsSite w.layout i (account_at w i)
    is = site_of w i sound below

    becomes : (o : Option Refusal) → reason (view_of (account_at w i)) (Merge delta) ≡ o → after (account_at w i) (Merge delta) ≡ unless_refused o (account_at w i) (hears (account_at w i) delta.rows)
    becomes o e = ap (λ x. unless_refused x (account_at w i) (hears (account_at w i) delta.rows)) e

    heard : IsSound (hears (account_at w i) delta.rows) → IsCarried r floor (with_account w i (hears (account_at w i) delta.rows))
    heard here = record {
      before = c.before;
      carries = carried_still w r i (hears a delta.rows) floor c.before sound below
          (record { sound = here; same_records = is.same_records; few = is.few; same_site = is.same_site }) (λ cell. refl)
          (λ x apart. hears_rises w.layout i r a delta.rows is x (Out i)) (λ s. hears_rises w.layout i r a delta.rows is s Fin)
          (λ x y there apart more. hears_new w.layout r floor c.before i a delta.rows is brings x y there apart more) c.carries;
    }

    still : IsCarried r floor (with_account w i (account_at w i))
    still = record {
      before = c.before;
      carries = carried_still w r i a floor c.before sound below is (λ cell. refl) (λ x apart. omega arith) (λ s. omega arith) (λ x y there apart more. inl more) c.carries;
    }

    at : (o : Option Refusal) → reason (view_of (account_at w i)) (Merge delta) ≡ o → IsCarried r floor (with_account w i (after (account_at w i) (Merge delta)))
    at (Some refusal) e = subst (λ (b : Account). IsCarried r floor (with_account w i b)) (sym (becomes (Some refusal) e)) still
    at None e =
        subst (λ (b : Account). IsCarried r floor (with_account w i b)) (sym (becomes None e)) (heard (subst IsSound (becomes None e) (sound_after a (Merge delta) is.sound)))

carried_grown : (w : World) (r i n : ℕ) (floor : ℕ → ℕ) → IsSoundWorld w → i < w.layout.sites → (account_at w i).sites ≤ n → n ≤ w.layout.sites → IsCarried r floor w → IsCarried r floor (with_account w i (grown n (account_at w i)))
carried_grown w r i n floor sound below more few c =
    let a = account_at w i in
    let is = site_of w i sound below in
    record {
      before = c.before;
      carries = carried_still w r i (grown n a) floor c.before sound below (grown_site w.layout i n a is more few) (λ cell. refl)
          (λ x apart. grown_column w.layout i n r a is x apart) (λ s. known_grown a n r s Fin tt)
          (λ x y there apart above. inl (grown_new w.layout c.before i n r a is x y apart above)) c.carries;
    }

carried_here : (r : ℕ) (floor : ℕ → ℕ) (w : World) (event : Event) → IsSoundWorld w → place_of event < w.layout.sites → ((s : ℕ) → w.layout.sites ≤ s → floor s ≡ 0) → IsWellTold w event → IsCarried r floor w → IsCarried r floor (world_here w event)
carried_here r floor w (Call i ask) sound below past well c = carried_ask w r i ask floor sound below past c
carried_here r floor w (Send i) sound below past well c = record {
  before = c.before;
  carries = record {
    shown = c.carries.shown;
    sent = push_all (TellsIt (shape_of w.layout) r floor c.before) w.sent (snapshot_of (view_of (account_at w i))) c.carries.sent
        (tells_known r floor c.before w i sound below (λ x y there apart above. c.carries.shown i x y below there apart above));
    least = c.carries.least;
    seat = c.carries.seat;
  };
}
carried_here r floor w (Take i k) sound below past well c = at (slice_get w.sent k) refl
  where
    at : (o : Option DeltaState) → slice_get w.sent k ≡ o → IsCarried r floor (world_taken w i o)
    at None e = c
    at (Some delta) e =
        carried_merge w r i delta floor sound below c
        (bring r floor c.before w i delta.rows delta.rows sound below (message_at (TellsIt (shape_of w.layout) r floor c.before) w.sent k delta c.carries.sent e)
        (whole_covers w i r delta.rows sound below (message_there w k delta sound e).rows))
carried_here r floor w (Thin i k l) sound below past well c = at (slice_get w.sent k) (slice_get w.sent l) refl refl
  where
    at : (o p : Option DeltaState) → slice_get w.sent k ≡ o → slice_get w.sent l ≡ p → IsCarried r floor (world_taken w i (thin_message o p))
    at None None e d = c
    at None (Some earlier) e d = c
    at (Some delta) None e d = c
    at (Some delta) (Some earlier) e d =
        carried_merge w r i (thin delta earlier) floor sound below c
        (bring r floor c.before w i delta.rows (thin_rows delta.rows earlier.rows) sound below
        (all_thin (λ p. p.r ≡ r → (y : ℕ) → p.s ≢ y → c.before p.s y < counter_in (counters_of p) (Out y) → (s : ℕ) → floor s ≤ shown_by (shape_of w.layout) delta.rows r s Fin) delta.rows earlier.rows
        (message_at (TellsIt (shape_of w.layout) r floor c.before) w.sent k delta c.carries.sent e))
        (thin_covers w i r delta.rows earlier.rows sound below (message_there w k delta sound e).rows (well earlier d)))
carried_here r floor w (Restart i) sound below past well c = carried_grown w r i (account_at w i).sites floor sound below (omega arith) (sound.family.few_sites i below) c
carried_here r floor w (Grow i) sound below past well c =
    cond_both (ltb (account_at w i).sites w.layout.sites) (with_account w i (grown w.layout.sites (account_at w i))) w (IsCarried r floor)
    (λ e. carried_grown w r i w.layout.sites floor sound below (sound.family.few_sites i below) (omega arith) c)
    (λ e. c)

carried_run : (r : ℕ) (floor : ℕ → ℕ) (events : List Event) (w : World) → IsSoundWorld w → ((s : ℕ) → w.layout.sites ≤ s → floor s ≡ 0) → AreWellTold events w → IsCarried r floor w → IsCarried r floor (run events w)
carried_run r floor [] w sound past well c = c
carried_run r floor (event ∷ events) w sound past well c =
    carried_run r floor events (happens w event) (sound_happens w event sound) (λ s beyond. past s (omega (arith, beyond, ap (λ (l : LayoutState). l.sites) (run_layout (event ∷ []) w)))) well.1
    (cond_both (ltb (place_of event) (length w.sites)) (world_here w event) w (IsCarried r floor)
    (λ e. carried_here r floor w event sound (omega (arith, ltb-true (place_of event) (length w.sites) e, sound.number)) past well.0 c)
    (λ e. c))

pub earlier_below : (u : World) → IsRebuiltWorld u → (i r h : ℕ) → i < u.layout.sites → IsInside (phase_of (account_at u i) r h) → (events : List Event) → AreWellTold events u → (j k : ℕ) → j < u.layout.sites → phase_of (account_at (run events u) j) r k ≡ Some Writer → fence u i r ≤ fence (run events u) j r
earlier_below u reached i r h below inside_there events well j k there writes =
    omega (arith, total_le u.layout.sites floor (λ s. known (account_at v j) r s Fin) (λ s lower. knows s), ap (λ m. total m (λ s. known (account_at v j) r s Fin)) same_sites)
  where
    floor : ℕ → ℕ
    floor = λ s. known (account_at u i) r s Fin

    v : World
    v = run events u

    sound : IsSoundWorld u
    sound = sound_rebuilt_world u reached

    sound_v : IsSoundWorld (run events u)
    sound_v = sound_run events u (sound_rebuilt_world u reached)

    same_sites : (run events u).layout.sites ≡ u.layout.sites
    same_sites = ap (λ (l : LayoutState). l.sites) (run_layout events u)

    there_v : j < (run events u).layout.sites
    there_v = omega (arith, there, same_sites)

    past : (s : ℕ) → u.layout.sites ≤ s → known (account_at u i) r s Fin ≡ 0
    past s beyond =
        let site = sound.family.sound i below in
        let few = sound.family.few_sites i below in
        omega (arith, known_other (account_at u i) r s Fin (λ e. absurd (omega (arith, site.site_there, few, beyond))), site.no_others.none_told r s Fin (omega (arith, few, beyond)))

    holds : 1 ≤ inside (account_at u i) r
    holds =
        some_inside (account_at u i) r h (sound.family.sound i below)
        (λ lower. omega (arith, same_seats (account_at u i).origin.layout u.layout (sound.family.same_records i below) r, some_seats u.layout sound.layout r (subst (λ (records : List RecordSpec). r < length records) (sound.family.same_records i below) lower)))
        inside_there

    rows_old : (whole rows : List Row) → AreSentRows u.layout (account_at u) rows → Tells (shape_of u.layout) r (λ s. known (account_at u i) r s Fin) (λ x y. own (account_at u x) r (Out y)) whole rows
    rows_old whole [] all = tt
    rows_old whole (p ∷ ps) all =
        (λ same_r y apart above s. absurd (omega (arith, above, all.0.done (Out y), ap (λ x. own (account_at u p.s) x (Out y)) same_r)), rows_old whole ps all.1)

    sent_old : (ds : List DeltaState) → AllByRecursion (IsMessage u.layout (account_at u)) ds → AllByRecursion (TellsIt (shape_of u.layout) r (λ s. known (account_at u i) r s Fin) (λ x y. own (account_at u x) r (Out y))) ds
    sent_old [] all = tt
    sent_old (d ∷ ds) all = (rows_old d.rows d.rows all.0.rows, sent_old ds all.1)

    begins : IsCarried r (λ s. known (account_at u i) r s Fin) u
    begins = record {
      before = λ x y. own (account_at u x) r (Out y);
      carries = record {
        shown = λ k x y lower x_there apart above. absurd (omega (arith, above, known_done u k x sound lower x_there r (Out y)));
        sent = sent_old u.sent sound.sent;
        least = λ x y lower. omega arith;
        seat = inl (i, (below, (λ s. omega arith, omega (arith, holds))));
      };
    }

    carried : IsCarried r (λ s. known (account_at u i) r s Fin) (run events u)
    carried = carried_run r floor events u sound past well begins

    at_end : Marked (run events u).layout.sites r (λ s. known (account_at u i) r s Fin) carried.before (account_at (run events u)) → KnowsFloor r (λ s. known (account_at u i) r s Fin) (account_at (run events u) j)
    at_end (inl (z, (lower, (knows, some)))) = at (cases_eq z j)
      where
        at : (z ≡ j) ⊎ (z ≡ j → ⊥) → KnowsFloor r (λ s. known (account_at u i) r s Fin) (account_at (run events u) j)
        at (inl e) = subst (λ (x : ℕ). KnowsFloor r floor (account_at v x)) e knows
        at (inr ne) = absurd (omega (arith, some, none_elsewhere v sound_v j r k there_v writes z lower ne))
    at_end (inr (x, (y, (x_there, (y_there, (apart, (given, flies))))))) =
        absurd (omega (arith, flies, arrived v sound_v j r k there_v writes x y x_there y_there apart))

    knows : KnowsFloor r (λ s. known (account_at u i) r s Fin) (account_at (run events u) j)
    knows = at_end carried.carries.seat
