-- What fair events leave as it was.
use Rattle.std.proofs.Common.{◌≡◌, ℕ, ◌<◌, ◌⊎◌, inl, inr, true, false, cond, ltb, List, [], ◌∷◌, length, Option, Some, None, refl, sym, ap, subst, ◌∙◌}
use Rattle.std.specs.Prelude.{slice_get}
use Rattle.std.proofs.lemmas.Bool.{cases_eq, cases_Bool, cond_both, ltb-true, cond-true, cond-false}
use Rattle.session_list.specs.declared.session.Phase.{Phase}
use Rattle.session_list.specs.declared.session.Phase.TheVariants.{Reader, Waiting, Writer}
use Rattle.admission_model.specs.declared.ask.Ask.{Ask}
use Rattle.admission_model.specs.declared.ask.Ask.TheVariants.{Read, Announce, Quill, Leave, Give, Help}
use Rattle.admission_model.specs.declared.ask.Call.TheVariants.{Ask as AskCall}
use Rattle.admission_model.specs.Account.{Account, is_key, phase_of}
use Rattle.admission_model.specs.Knowledge.{grown}
use Rattle.admission_model.specs.View.{view_of}
use Rattle.admission_model.specs.Replies.{ask_lines}
use Rattle.admission_model.specs.Serving.{advanced, unless_refused, after}
use Rattle.admission_model.proofs.ServingLemmas.{first_both}
use Rattle.multi_site_world.specs.declared.event.Event.{Event}
use Rattle.multi_site_world.specs.declared.event.Event.TheVariants.{Call, Send, Take, Thin, Restart, Grow}
use Rattle.multi_site_world.specs.World.{World, account_at, with_account, world_here, place_of, happens, run}
use Rattle.multi_site_world.specs.Laws.{IsInside}
use Rattle.multi_site_world.proofs.WorldLemmas.{other_account}
use Rattle.fencing_laws.specs.Entering.{GoesFirst, IsFairAsk, IsFair, AreFair, IsAsBeforeOrGone}
use Rattle.fencing_laws.proofs.StayLemmas.{same_key, at_each, taken_phase}

-- who goes first is inside, or waits at a site of a smaller number
who_goes : (w i : ℕ) (o : Option Phase) → GoesFirst w i o → IsInside o ⊎ ((o ≡ Some Waiting) × (i < w))
who_goes w i None out = elim out [ ]
who_goes w i (Some Reader) first = inl tt
who_goes w i (Some Waiting) first = inr (refl, first)
who_goes w i (Some Writer) first = inl tt

-- a fair ask, at its own site
fair_ask : (r w i : ℕ) (u : World) (ask : Ask) (q k : ℕ) → IsFairAsk r w u i ask → IsAsBeforeOrGone r w i q (phase_of (account_at u i) q k) (phase_of (after (account_at u i) (AskCall ask)) q k)
fair_ask r w i u (Leave p m) q k fair =
    first_both (λ o. IsAsBeforeOrGone r w i q (phase_of (account_at u i) q k) (phase_of (unless_refused o (account_at u i) (advanced (account_at u i) (AskCall (Leave p m)))) q k)) (ask_lines (view_of (account_at u i)) (Leave p m))
    (λ x. inl refl) (λ clear. at (cases_Bool (is_key p m q k)))
  where
    at : (is_key p m q k ≡ true) ⊎ (is_key p m q k ≡ false) → IsAsBeforeOrGone r w i q (phase_of (account_at u i) q k) (cond (is_key p m q k) None (phase_of (account_at u i) q k))
    at (inr e) = inl (cond-false (is_key p m q k) None (phase_of (account_at u i) q k) e)
    at (inl e) =
        let same = same_key p m q k e in
        let same_record : q ≡ r = sym same.0 ∙ fair.0 in
        let first : GoesFirst w i (phase_of (account_at u i) q k) =
        subst (λ (x : ℕ). GoesFirst w i (phase_of (account_at u i) q x)) same.1 (subst (λ (x : ℕ). GoesFirst w i (phase_of (account_at u i) x m)) (sym same_record) fair.1) in
        inr (same_record, (cond-true (is_key p m q k) None (phase_of (account_at u i) q k) e, who_goes w i (phase_of (account_at u i) q k) first))
fair_ask r w i u (Help p) q k fair =
    first_both (λ o. IsAsBeforeOrGone r w i q (phase_of (account_at u i) q k) (phase_of (unless_refused o (account_at u i) (advanced (account_at u i) (AskCall (Help p)))) q k)) (ask_lines (view_of (account_at u i)) (Help p))
    (λ x. inl refl) (λ clear. inl refl)
fair_ask r w i u (Read p m) q k fair = elim fair [ ]
fair_ask r w i u (Announce p m) q k fair = elim fair [ ]
fair_ask r w i u (Quill p m) q k fair = elim fair [ ]
fair_ask r w i u (Give p to seats) q k fair = elim fair [ ]

-- a fair event, at a site that there is
fair_here : (r w : ℕ) (u : World) (event : Event) (i q k : ℕ) → place_of event < length u.sites → IsFair r w u event → IsAsBeforeOrGone r w i q (phase_of (account_at u i) q k) (phase_of (account_at (world_here u event) i) q k)
fair_here r w u (Call j ask) i q k below fair = at (cases_eq i j)
  where
    b : Account
    b = after (account_at u j) (AskCall ask)

    at : (i ≡ j) ⊎ (i ≡ j → ⊥) → IsAsBeforeOrGone r w i q (phase_of (account_at u i) q k) (phase_of (account_at (with_account u j (after (account_at u j) (AskCall ask))) i) q k)
    at (inl e) =
        subst (λ (x : ℕ). IsAsBeforeOrGone r w x q (phase_of (account_at u i) q k) (phase_of (account_at (with_account u j b) i) q k)) (sym e)
        (at_each (λ a c. IsAsBeforeOrGone r w j q (phase_of a q k) (phase_of c q k)) (λ a. inl refl) u j b below (fair_ask r w j u ask q k fair) i)
    at (inr ne) = inl (ap (λ a. phase_of a q k) (other_account u j i b ne))
fair_here r w u (Send j) i q k below fair = inl refl
fair_here r w u (Take j m) i q k below fair = inl (taken_phase u j i q k (slice_get u.sent m) below)
fair_here r w u (Thin j m l) i q k below fair = elim fair [ ]
fair_here r w u (Restart j) i q k below fair = elim fair [ ]
fair_here r w u (Grow j) i q k below fair =
    cond_both (ltb (account_at u j).sites u.layout.sites) (with_account u j (grown u.layout.sites (account_at u j))) u (λ v. IsAsBeforeOrGone r w i q (phase_of (account_at u i) q k) (phase_of (account_at v i) q k))
    (λ e. inl (at_each (λ a c. phase_of c q k ≡ phase_of a q k) (λ a. refl) u j (grown u.layout.sites (account_at u j)) below refl i))
    (λ e. inl refl)

fair_event : (r w : ℕ) (u : World) (event : Event) (i q k : ℕ) → IsFair r w u event → IsAsBeforeOrGone r w i q (phase_of (account_at u i) q k) (phase_of (account_at (happens u event) i) q k)
fair_event r w u event i q k fair =
    cond_both (ltb (place_of event) (length u.sites)) (world_here u event) u (λ v. IsAsBeforeOrGone r w i q (phase_of (account_at u i) q k) (phase_of (account_at v i) q k))
    (λ e. fair_here r w u event i q k (ltb-true (place_of event) (length u.sites) e) fair)
    (λ e. inl refl)

-- who is gone doesn't go again
gone_once : (w i : ℕ) (o : Option Phase) → o ≡ None → IsInside o ⊎ ((o ≡ Some Waiting) × (i < w)) → ⊥
gone_once w i o none (inl inside) = subst IsInside none inside
gone_once w i o none (inr waits) = let gone : ◌≡◌ {A = Option Phase} None (Some Waiting) = sym none ∙ waits.0 in cc

in_two : (r w i q : ℕ) (first second third : Option Phase) → IsAsBeforeOrGone r w i q first second → IsAsBeforeOrGone r w i q second third → IsAsBeforeOrGone r w i q first third
in_two r w i q first second third (inl same) later = subst (λ o. IsAsBeforeOrGone r w i q o third) same later
in_two r w i q first second third (inr gone) (inl same) = inr (gone.0, (same ∙ gone.1.0, gone.1.1))
in_two r w i q first second third (inr gone) (inr again) = absurd (gone_once w i second gone.1.0 again.1.1)

pub others_stay : (u : World) (r w : ℕ) (events : List Event) → AreFair r w events u → (i q k : ℕ) → IsAsBeforeOrGone r w i q (phase_of (account_at u i) q k) (phase_of (account_at (run events u) i) q k)
others_stay u r w [] fair i q k = inl refl
others_stay u r w (event ∷ events) fair i q k =
    in_two r w i q (phase_of (account_at u i) q k) (phase_of (account_at (happens u event) i) q k) (phase_of (account_at (run events (happens u event)) i) q k)
    (fair_event r w u event i q k fair.0) (others_stay (happens u event) r w events fair.1 i q k)
