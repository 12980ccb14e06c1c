-- What a resource may rely on.
use Rattle.std.proofs.Common.{◌≡◌, ℕ, ◌<◌, ◌≤◌, ◌⊎◌, inl, inr, Bool, true, false, not, ◌||◌, ltb, List, [], ◌∷◌, Option, Some, None, refl, sym, ap, subst, ◌∙◌, arith}
use Rattle.std.specs.List.{AllByRecursion}
use Rattle.std.proofs.lemmas.Bool.{cases_Bool, le-leb, lt-leb, lt-ltb, le-ltb, and_from}
use Rattle.merge_core.specs.Layout.{LayoutState}
use Rattle.session_list.specs.declared.session.Phase.{Phase}
use Rattle.session_list.specs.declared.session.Phase.TheVariants.{Reader, Waiting, Writer}
use Rattle.admission_model.specs.declared.ask.Ask.TheVariants.{Leave}
use Rattle.admission_model.specs.Account.{phase_of}
use Rattle.multi_site_world.specs.declared.event.Event.{Event}
use Rattle.multi_site_world.specs.declared.event.Event.TheVariants.{Call}
use Rattle.multi_site_world.specs.World.{World, account_at, happens, run}
use Rattle.multi_site_world.specs.Laws.{IsInside}
use Rattle.rebuild_laws.specs.Groups.{IsRebuiltWorld}
use Rattle.rebuild_laws.proofs.RebuildLaw.{rebuilt_alone, rebuilt_on}
use Rattle.multi_site_world.proofs.LawLemmas.{run_layout}
use Rattle.fencing_laws.specs.Fences.{fence, AreWellTold, IsSameStay}
use Rattle.fencing_laws.specs.Resource.{Token, allows, all_allow, seen_of, lets_in, phase_for, IsTokenOf, WasTaken, IsTakenBeside}
use Rattle.fencing_laws.proofs.FenceLemmas.{later_above, number_rises}
use Rattle.fencing_laws.proofs.EarlierLemmas.{earlier_below}
use Rattle.fencing_laws.proofs.StayLemmas.{other_above}
use Rattle.fencing_laws.proofs.RememberLemmas.{for_writer, for_reader, two_numbers}

-- the two sides of the rule
writer_allowed : (old new : Token) → new.writes ≡ true → old.number ≤ new.number → allows old new ≡ true
writer_allowed old new w less = for_writer old new w ∙ le-leb old.number new.number less

writer_refused : (old new : Token) → new.writes ≡ true → new.number < old.number → allows old new ≡ false
writer_refused old new w more = for_writer old new w ∙ lt-leb old.number new.number more

reader_allowed : (old new : Token) → new.writes ≡ false → (old.writes ≡ false) ⊎ (old.number < new.number) → allows old new ≡ true
reader_allowed old new w why = for_reader old new w ∙ at why (cases_Bool old.writes)
  where
    at : (old.writes ≡ false) ⊎ (old.number < new.number) → (old.writes ≡ true) ⊎ (old.writes ≡ false) → (not old.writes || ltb old.number new.number) ≡ true
    at (inl reads) other = ap (λ b. not b || ltb old.number new.number) reads
    at (inr less) (inl writes) = ap (λ b. not b || ltb old.number new.number) writes ∙ lt-ltb old.number new.number less
    at (inr less) (inr reads) = ap (λ b. not b || ltb old.number new.number) reads

reader_refused : (old new : Token) → new.writes ≡ false → old.writes ≡ true → new.number ≤ old.number → allows old new ≡ false
reader_refused old new w writes less =
    for_reader old new w
    ∙ (ap (λ b. not b || ltb old.number new.number) writes ∙ le-ltb old.number new.number less)

-- the session of a token is inside
is_inside : (b : Bool) (o : Option Phase) → o ≡ Some (phase_for b) → IsInside o
is_inside true None e = cc
is_inside true (Some Reader) e = tt
is_inside true (Some Waiting) e = cc
is_inside true (Some Writer) e = tt
is_inside false None e = cc
is_inside false (Some Reader) e = tt
is_inside false (Some Waiting) e = cc
is_inside false (Some Writer) e = tt

writes_there : (w : World) (r i h : ℕ) (it : Token) → IsTokenOf w r i h it → it.writes ≡ true → phase_of (account_at w i) r h ≡ Some Writer
writes_there w r i h it token e = token.inside ∙ ap (λ b. Some (phase_for b)) e

reads_there : (w : World) (r i h : ℕ) (it : Token) → IsTokenOf w r i h it → it.writes ≡ false → phase_of (account_at w i) r h ≡ Some Reader
reads_there w r i h it token e = token.inside ∙ ap (λ b. Some (phase_for b)) e

same_sites : (events : List Event) (u : World) → (run events u).layout.sites ≡ u.layout.sites
same_sites events u = ap (λ (l : LayoutState). l.sites) (run_layout events u)

pub in_order : (u : World) → IsRebuiltWorld u → (r i h j k : ℕ) (old new : Token) → IsTokenOf u r i h old → (events : List Event) → AreWellTold events u → IsTokenOf (run events u) r j k new → allows old new ≡ true
in_order u reached r i h j k old new first events well second = at (cases_Bool new.writes) (cases_Bool old.writes)
  where
    there : j < u.layout.sites
    there = omega (arith, second.there, same_sites events u)

    reader : new.writes ≡ false → old.writes ≡ true → IsSameStay r i h j k events (run events u) ⊎ (fence u i r < fence (run events u) j r) → old.number < new.number
    reader e d (inl same) =
        let reads = reads_there (run events u) r j k new second e in
        let writes = same.writes in
        let gone : ◌≡◌ {A = Option Phase} (Some Reader) (Some Writer) = sym reads ∙ writes in cc
    reader e d (inr above) = omega (arith, above, first.number, second.number)

    at : (new.writes ≡ true) ⊎ (new.writes ≡ false) → (old.writes ≡ true) ⊎ (old.writes ≡ false) → allows old new ≡ true
    at (inl e) other =
        writer_allowed old new e
        (omega (arith, first.number, second.number, earlier_below u reached i r h first.there (is_inside old.writes (phase_of (account_at u i) r h) first.inside) events well j k there (writes_there (run events u) r j k new second e)))
    at (inr e) (inr d) = reader_allowed old new e (inl d)
    at (inr e) (inl d) =
        reader_allowed old new e (inr (reader e d (other_above u reached i r h first.there (writes_there u r i h old first d) events well j k there (is_inside new.writes (phase_of (account_at (run events u) j) r k) second.inside))))

pub meanwhile : (v : World) → IsRebuiltWorld v → (r i h j k : ℕ) (old new : Token) → IsTokenOf v r i h old → j < v.layout.sites → phase_of (account_at v j) r k ≡ Some (phase_for new.writes) → ¬ ((i ≡ j) × (h ≡ k)) → allows old new ≡ true
meanwhile v reached r i h j k old new token there here apart = at (cases_Bool new.writes) (cases_Bool old.writes)
  where
    at : (new.writes ≡ true) ⊎ (new.writes ≡ false) → (old.writes ≡ true) ⊎ (old.writes ≡ false) → allows old new ≡ true
    at (inr e) (inr d) = reader_allowed old new e (inl d)
    at other (inl d) =
        absurd (apart (rebuilt_alone v reached r i j h k token.there there (writes_there v r i h old token d) (is_inside new.writes (phase_of (account_at v j) r k) here)))
    at (inl e) other =
        let writes : phase_of (account_at v j) r k ≡ Some Writer = here ∙ ap (λ b. Some (phase_for b)) e in
        let same = rebuilt_alone v reached r j i k h there token.there writes (is_inside old.writes (phase_of (account_at v i) r h) token.inside) in
        absurd (apart (sym same.0, sym same.1))

rises_along : (events : List Event) (u : World) (i r : ℕ) → fence u i r ≤ fence (run events u) i r
rises_along [] u i r = omega arith
rises_along (event ∷ events) u i r = omega (arith, number_rises u event i r, rises_along events (happens u event) i r)

pub writer_left : (u : World) → IsRebuiltWorld u → (r i h j k : ℕ) (old new : Token) → IsTokenOf u r i h new → new.writes ≡ true → (stay : List Event) → phase_of (account_at (run stay u) i) r h ≡ Some Writer → (events : List Event)
    → AreWellTold events (happens (run stay u) (Call i (Leave r h))) → IsTokenOf (run events (happens (run stay u) (Call i (Leave r h)))) r j k old → allows old new ≡ false
writer_left u reached r i h j k old new token writes stay inside_still events well later =
    let v = run stay u in
    let below : i < v.layout.sites = omega (arith, token.there, same_sites stay u) in
    let there : j < v.layout.sites = omega (arith, later.there, same_sites (Call i (Leave r h) ∷ events) v) in
    writer_refused old new writes
    (omega (
      arith,
      token.number,
      later.number,
      rises_along stay u i r,
      later_above v (rebuilt_on u stay reached) i r h below inside_still events well j k there (is_inside old.writes (phase_of (account_at (run events (happens v (Call i (Leave r h)))) j) r k) later.inside),
    ))

pub reader_left : (u : World) → IsRebuiltWorld u → (r i h j k : ℕ) (old new : Token) → IsTokenOf u r i h new → new.writes ≡ false → (events : List Event) → AreWellTold events u → IsTokenOf (run events u) r j k old → old.writes ≡ true → allows old new ≡ false
reader_left u reached r i h j k old new token reads events well later writes =
    reader_refused old new reads writes
    (omega (
      arith,
      token.number,
      later.number,
      earlier_below u reached i r h token.there (is_inside new.writes (phase_of (account_at u i) r h) token.inside) events well j k (omega (arith, later.there, same_sites events u)) (writes_there (run events u) r j k old later writes),
    ))

-- whoever is inside is let in after all of these
pub let_in : (u : World) (r j k : ℕ) (new : Token) → IsTokenOf u r j k new → (olds : List Token) → AllByRecursion (λ old. WasTaken u r old ⊎ IsTakenBeside r j k new old) olds → lets_in (seen_of olds) new ≡ true
let_in u r j k new token olds all = two_numbers olds new ∙ each olds all
  where
    one : (old : Token) → WasTaken u r old ⊎ IsTakenBeside r j k new old → allows old new ≡ true
    one old (inl was) =
        in_order was.world was.reached r was.site was.holder j k old new was.taken was.events was.well (subst (λ (x : World). IsTokenOf x r j k new) was.leads token)
    one old (inr beside) =
        meanwhile beside.world beside.reached r beside.site beside.holder j k old new beside.taken beside.there beside.inside beside.other

    each : (olds : List Token) → AllByRecursion (λ old. WasTaken u r old ⊎ IsTakenBeside r j k new old) olds → all_allow olds new ≡ true
    each [] all = refl
    each (old ∷ olds) all = and_from (allows old new) (all_allow olds new) (one old all.0) (each olds all.1)
