-- From a world that was cleared and in which all sites heard all others, the writer's site gathers all seats, and the
-- writer enters.
use Rattle.std.proofs.Common.{◌≡◌, ◌≢◌, ℕ, zero, suc, ◌+◌, ◌<◌, ◌≤◌, ◌⊎◌, inl, inr, false, ◌||◌, cond, eqb, ltb, List, [], ◌∷◌, length, Option, Some, None, refl, sym, ap, subst, ◌∙◌, arith}
use Rattle.std.specs.Prelude.{is_none}
use Rattle.std.specs.List.{AllByRecursion}
use Rattle.std.proofs.lemmas.List.{length-append}
use Rattle.std.proofs.lemmas.Bool.{cases_eq, eq-eqb, ne_eqb, lt-leb, lt-ltb, le-ltb, or_right, or_from, ltb-false, cond_both, cond-true, cond-false}
use Rattle.merge_core.specs.Counts.{counter_limit}
use Rattle.merge_core.specs.declared.cell.Cell.TheVariants.{Out, Taken, Ann, Fin}
use Rattle.merge_core.specs.declared.layout.RecordSpec.{RecordSpec}
use Rattle.merge_core.specs.Layout.{LayoutState}
use Rattle.merge_core.proofs.SumLemmas.{total_member}
use Rattle.session_list.specs.declared.session.Phase.{Phase}
use Rattle.session_list.specs.declared.session.Phase.TheVariants.{Reader, Waiting, Writer}
use Rattle.admission_model.specs.declared.ask.Ask.TheVariants.{Help, Quill}
use Rattle.admission_model.specs.declared.ask.Call.TheVariants.{Ask as AskCall}
use Rattle.admission_model.specs.declared.reply.Plan.{Plan}
use Rattle.admission_model.specs.declared.reply.Refusal.TheVariants.{NoRecord, CounterFull, NoPlan}
use Rattle.admission_model.specs.declared.reply.Reply.{Reply}
use Rattle.admission_model.specs.declared.reply.Reply.TheVariants.{Admitted, Merged, Refused}
use Rattle.admission_model.specs.declared.operation.Operation.{Operation}
use Rattle.admission_model.specs.Account.{Account, Origin, seats_in, own, own_after, weight, writers, phase_of, phase_after, sessions_of}
use Rattle.admission_model.specs.Knowledge.{known, grown}
use Rattle.admission_model.specs.View.{view_of, rights_of, plan_for, plan_of, first_unfinished}
use Rattle.admission_model.specs.Merging.{snapshot_of}
use Rattle.admission_model.specs.Replies.{Line, line, no_record_there, is_not_announced, is_writer, planned, holder_limit, help_lines, write_lines}
use Rattle.admission_model.specs.Serving.{reason, reply_of, answer, replied}
use Rattle.admission_model.specs.Sound.{IsSound}
use Rattle.admission_model.specs.Laws.{IsFirstUnfinished}
use Rattle.admission_model.proofs.CounterLemmas.{known_own}
use Rattle.admission_model.proofs.ServingLemmas.{first_reason-none}
use Rattle.admission_model.proofs.ReaderLemmas.{reason_behind, found}
use Rattle.multi_site_world.specs.declared.event.Event.{Event}
use Rattle.multi_site_world.specs.declared.event.Event.TheVariants.{Call, Send, Take, Grow}
use Rattle.multi_site_world.specs.declared.event.WorldReply.{WorldReply}
use Rattle.multi_site_world.specs.declared.event.WorldReply.TheVariants.{Core, Sent}
use Rattle.multi_site_world.specs.World.{World, account_at, with_account, happens, world_reply, run, replies}
use Rattle.multi_site_world.specs.Laws.{IsMergedReply, gathering, IsOneOf, IsNeverFull}
use Rattle.rebuild_laws.specs.Groups.{IsRebuiltWorld}
use Rattle.multi_site_world.proofs.FamilyLemmas.{conserved, same_seats}
use Rattle.multi_site_world.proofs.WorldLemmas.{IsSoundWorld, other_account}
use Rattle.multi_site_world.proofs.EventLemmas.{sound_happens, sound_run, known_done}
use Rattle.rebuild_laws.proofs.RebuildLaw.{sound_rebuilt_world}
use Rattle.multi_site_world.proofs.LawLemmas.{sent_before, run_layout, reply_there, merged}
use Rattle.multi_site_world.proofs.GatherLemmas.{IsGathering, IsHanded, is_handed, handed, helper, told_on, two_events, sound_told_on, three_events}
use Rattle.multi_site_world.proofs.GatherSteps.{gathering_step, gather_all}
use Rattle.fencing_laws.specs.Entering.{AreFair, WaitsToEnter, CanEnter}
use Rattle.fencing_laws.proofs.SeatLemmas.{value_here}
use Rattle.fencing_laws.proofs.FenceLemmas.{happens_here}
use Rattle.fencing_laws.proofs.LeaveLemmas.{Leads, stays, leads_on, at_sites_of, IsReady, AreCleared, goes, clear_all, no_sessions}
use Rattle.fencing_laws.proofs.HearLemmas.{IsCalm, calm_cleared, HasHeard, hear_all}

-- help for the least writer meets no full counter where there is room for all rights
room_to_help : (a : Account) (r w : ℕ) → r < length a.origin.layout.records → w ≢ a.origin.site → IsFirstUnfinished (view_of a) r w → own a r (Out w) + rights_of (view_of a) r ≤ counter_limit → reply_of (view_of a) (AskCall (Help r)) ≢ Refused CounterFull
room_to_help a r w below apart first room full = at (cases_eq (rights_of (view_of a) r) 0)
  where
    all : Plan
    all = record { to = w; seats = rights_of (view_of a) r }

    is : first_unfinished (view_of a) r ≡ Some w
    is = found (view_of a) r w first

    there_line : Line
    there_line = line (no_record_there (view_of a) r) NoRecord

    plan_line : Line
    plan_line = line (is_none (plan_of (view_of a) r)) NoPlan

    full_line : Line
    full_line = line (ltb counter_limit (known a r a.origin.site (Out (planned (plan_of (view_of a) r)).to) + (planned (plan_of (view_of a) r)).seats)) CounterFull

    there : no_record_there (view_of a) r ≡ false
    there = lt-leb (length a.origin.layout.records) r below

    not_this : (x : Reply) → reply_of (view_of a) (AskCall (Help r)) ≡ x → x ≢ Refused CounterFull → ⊥
    not_this x e other = other (sym e ∙ full)

    at : (rights_of (view_of a) r ≡ 0) ⊎ (rights_of (view_of a) r ≡ 0 → ⊥) → ⊥
    at (inl none) =
        let no_plan : plan_of (view_of a) r ≡ None =
        ap (plan_for (view_of a) r) is ∙ cond-true ((eqb w a.origin.site) || (eqb (rights_of (view_of a) r) 0)) None (Some all)
        (or_right (eqb w a.origin.site) (eqb (rights_of (view_of a) r) 0) (eq-eqb (rights_of (view_of a) r) 0 none)) in
        not_this (Refused NoPlan) (ap (λ o. replied o (answer (view_of a) (AskCall (Help r)))) (reason_behind (there_line ∷ []) plan_line (full_line ∷ []) (there, tt) (ap is_none no_plan))) (λ e. cc)
    at (inr some) =
        let plan : plan_of (view_of a) r ≡ Some all =
        ap (plan_for (view_of a) r) is ∙ cond-false ((eqb w a.origin.site) || (eqb (rights_of (view_of a) r) 0)) None (Some all)
        (or_from (eqb w a.origin.site) (eqb (rights_of (view_of a) r) 0) (ne_eqb w a.origin.site apart) (ne_eqb (rights_of (view_of a) r) 0 some)) in
        let free : full_line.test ≡ false =
        ap (λ (p : Option Plan). ltb counter_limit (known a r a.origin.site (Out (planned p).to) + (planned p).seats)) plan
        ∙ le-ltb counter_limit (known a r a.origin.site (Out w) + rights_of (view_of a) r) (omega (arith, room, known_own a r (Out w))) in
        not_this (answer (view_of a) (AskCall (Help r))) (ap (λ o. replied o (answer (view_of a) (AskCall (Help r)))) (first_reason-none (help_lines (view_of a) r) (there, (ap is_none plan, (free, tt))))) (λ e. cc)

-- room for the rights of all sites but w
abbrev HasRoom : World → ℕ → ℕ → Type 0
HasRoom u r w =
    (j : ℕ) → j < u.layout.sites → j ≢ w → own (account_at u j) r (Out w) + rights_of (view_of (account_at u j)) r ≤ counter_limit

room_handed : (u : World) (r w i : ℕ) (g : IsGathering u r w) (below : i < u.layout.sites) (apart : i ≢ w) → IsHanded u r w i → HasRoom u r w → HasRoom (handed u r w i) r w
room_handed u r w i g below apart h room j there not_w = at (cases_eq j i)
  where
    sound : IsSoundWorld (handed u r w i)
    sound = (gathering_step u r w i g below apart h).sound

    at : (j ≡ i) ⊎ (j ≡ i → ⊥) → own (account_at (handed u r w i) j) r (Out w) + rights_of (view_of (account_at (handed u r w i) j)) r ≤ counter_limit
    at (inl e) =
        subst (λ (x : ℕ). own (account_at (handed u r w i) x) r (Out w) + rights_of (view_of (account_at (handed u r w i) x)) r ≤ counter_limit) (sym e)
        (omega (
          arith,
          h.helps.no_rights,
          ((sound.family.sound i below).balanced r).fits.few_moved w (λ d. apart (sym (d ∙ sound.family.same_site i below))),
        ))
    at (inr ne) = subst (λ (b : Account). own b r (Out w) + rights_of (view_of b) r ≤ counter_limit) (sym (h.rest j ne not_w)) (room j there not_w)

-- the account of w does nothing meanwhile
pub record IsGathered (r w : ℕ) (u v : World) (answers : List WorldReply) : Type 0 where
  pub never : IsNeverFull answers
  pub done : (account_at v w).done ≡ (account_at u w).done
  pub origin : (account_at v w).origin ≡ (account_at u w).origin

pub same_core : (x y : Reply) → ◌≡◌ {A = WorldReply} (Core x) (Core y) → x ≡ y
same_core x y same = cc

gather_on : (others : List ℕ) (u : World) (r w : ℕ) → IsGathering u r w → AllByRecursion (λ i. (i < u.layout.sites) × (i ≢ w)) others → HasRoom u r w → IsGathered r w u (run (gathering r w (length u.sent) others) u) (replies (gathering r w (length u.sent) others) u)
gather_on [] u r w g all room = record { never = tt; done = refl; origin = refl }
gather_on (i ∷ others) u r w g all room =
    let below = all.0.0 in
    let apart = all.0.1 in
    let a = account_at u i in
    let not_full = room_to_help a r w (subst (λ (records : List RecordSpec). r < length records) (sym (g.sound.family.same_records i below)) g.record_there)
    (λ e. apart (sym (e ∙ g.sound.family.same_site i below))) (g.shown i below apart) (room i below apart) in
    let h = is_handed u r w i g below apart not_full in
    let now = three_events u r w i g.sound below g.site_there in
    let next = handed u r w i in
    let more : length next.sent ≡ length u.sent + 1 = length-append u.sent _ in
    let later = gather_on others next r w (gathering_step u r w i g below apart h) all.1 (room_handed u r w i g below apart h room) in
    let moved : IsGathered r w next (run (gathering r w (length u.sent + 1) others) next) (replies (gathering r w (length u.sent + 1) others) next) =
    subst (λ (k : ℕ). IsGathered r w next (run (gathering r w k others) next) (replies (gathering r w k others) next)) more later in
    let third = happens (happens (happens u (Call i (Help r))) (Send i)) (Take w (length u.sent)) in
    let rest : IsGathered r w next (run (gathering r w (length u.sent + 1) others) third) (replies (gathering r w (length u.sent + 1) others) third) =
    subst (λ (x : World). IsGathered r w next (run (gathering r w (length u.sent + 1) others) x) (replies (gathering r w (length u.sent + 1) others) x)) (sym now) moved in
    record {
      never = (first_reply u r w i g below not_full, (second_reply u r w i g below, (third_reply u r w i g below apart, rest.never)));
      done = rest.done ∙ ap (λ (b : Account). b.done) h.hears_it;
      origin = rest.origin ∙ ap (λ (b : Account). b.origin) h.hears_it;
    }
  where
    first_reply : (u : World) (r w i : ℕ) → IsGathering u r w → i < u.layout.sites → reply_of (view_of (account_at u i)) (AskCall (Help r)) ≢ Refused CounterFull → world_reply u (Call i (Help r)) ≢ Core (Refused CounterFull)
    first_reply u r w i g below not_full e =
        not_full (same_core (reply_of (view_of (account_at u i)) (AskCall (Help r))) (Refused CounterFull) (sym (reply_there u (Call i (Help r)) g.sound below) ∙ e))

    second_reply : (u : World) (r w i : ℕ) → IsGathering u r w → i < u.layout.sites → world_reply (happens u (Call i (Help r))) (Send i) ≢ Core (Refused CounterFull)
    second_reply u r w i g below e =
        let u1 = happens u (Call i (Help r)) in
        let below_1 : i < u1.layout.sites = subst (λ (l : LayoutState). i < l.sites) (sym (run_layout (Call i (Help r) ∷ []) u)) below in
        let gone : ◌≡◌ {A = WorldReply} (Sent (length u1.sent)) (Core (Refused CounterFull)) = sym (reply_there u1 (Send i) (sound_happens u (Call i (Help r)) g.sound) below_1) ∙ e in cc

    not_merged : (reply : WorldReply) → IsMergedReply reply → reply ≢ Core (Refused CounterFull)
    not_merged reply is e = let gone : ◌≡◌ {A = WorldReply} (Core (Merged is.0)) (Core (Refused CounterFull)) = sym is.1 ∙ e in cc

    third_reply : (u : World) (r w i : ℕ) → IsGathering u r w → i < u.layout.sites → i ≢ w → world_reply (happens (happens u (Call i (Help r))) (Send i)) (Take w (length u.sent)) ≢ Core (Refused CounterFull)
    third_reply u r w i g below apart =
        let longer : length u.sent < length (told_on u r i).sent = omega (arith, length-append u.sent (snapshot_of (view_of (account_at (with_account u i (helper u r i)) i)) ∷ [])) in
        not_merged (world_reply (happens (happens u (Call i (Help r))) (Send i)) (Take w (length u.sent)))
        (subst (λ (v : World). IsMergedReply (world_reply v (Take w (length u.sent)))) (sym (two_events u r i g.sound below))
        (merged (told_on u r i) w (length u.sent) (sound_told_on u r i g.sound below) g.site_there (ap (λ (c : Account). c.sites) (other_account u i w (helper u r i) (λ e. apart (sym e))) ∙ g.all_known) longer))

gather_fair : (r w k : ℕ) (others : List ℕ) (u : World) → AreFair r w (gathering r w k others) u
gather_fair r w k [] u = tt
gather_fair r w k (i ∷ others) u = (refl, (tt, (tt, gather_fair r w (k + 1) others _)))

-- all sites but one
abbrev others_than : ℕ → ℕ → List ℕ
others_than w zero = []
others_than w (suc n) = cond (eqb n w) (others_than w n) (n ∷ others_than w n)

others_below : (w n m : ℕ) → n ≤ m → AllByRecursion (λ i. (i < m) × (i ≢ w)) (others_than w n)
others_below w zero m few = tt
others_below w (suc n) m few = at (cases_eq n w) (others_below w n m (omega arith))
  where
    at : (n ≡ w) ⊎ (n ≡ w → ⊥) → AllByRecursion (λ i. (i < m) × (i ≢ w)) (others_than w n) → AllByRecursion (λ i. (i < m) × (i ≢ w)) (others_than w (suc n))
    at (inl e) earlier =
        subst (AllByRecursion (λ i. (i < m) × (i ≢ w))) (sym (cond-true (eqb n w) (others_than w n) (n ∷ others_than w n) (eq-eqb n w e))) earlier
    at (inr ne) earlier =
        subst (AllByRecursion (λ i. (i < m) × (i ≢ w))) (sym (cond-false (eqb n w) (others_than w n) (n ∷ others_than w n) (ne_eqb n w ne))) ((omega arith, ne), earlier)

is_other : (w n j : ℕ) → j < n → j ≢ w → IsOneOf j (others_than w n)
is_other w zero j below apart = absurd (omega arith)
is_other w (suc n) j below apart = at (cases_eq n w) (cases_eq j n) (λ lower. is_other w n j lower apart)
  where
    at : (n ≡ w) ⊎ (n ≡ w → ⊥) → (j ≡ n) ⊎ (j ≡ n → ⊥) → (j < n → IsOneOf j (others_than w n)) → IsOneOf j (others_than w (suc n))
    at (inl e) (inl d) earlier = absurd (apart (d ∙ e))
    at (inl e) (inr d) earlier =
        subst (IsOneOf j) (sym (cond-true (eqb n w) (others_than w n) (n ∷ others_than w n) (eq-eqb n w e))) (earlier (omega arith))
    at (inr ne) (inl d) earlier =
        subst (IsOneOf j) (sym (cond-false (eqb n w) (others_than w n) (n ∷ others_than w n) (ne_eqb n w ne))) (inl d)
    at (inr ne) (inr d) earlier =
        subst (IsOneOf j) (sym (cond-false (eqb n w) (others_than w n) (n ∷ others_than w n) (ne_eqb n w ne))) (inr (earlier (omega arith)))

none_inside : (seats w i : ℕ) (p : Phase) → goes w i p ≡ 0 → weight seats p ≡ 0
none_inside seats w i Reader none = absurd (omega (arith, none))
none_inside seats w i Waiting none = refl
none_inside seats w i Writer none = absurd (omega (arith, none))

none_before : (w i : ℕ) → i < w → (p : Phase) → goes w i p ≡ 0 → writers p ≡ 0
none_before w i lower Reader none = refl
none_before w i lower Waiting none = absurd (omega (arith, none, cond-true {A = ℕ} (ltb i w) 1 0 (lt-ltb i w lower)))
none_before w i lower Writer none = absurd (omega (arith, none))

module _ (n r w h : ℕ) (x : World) (cleared : AreCleared n r w h n x) (heard : (i : ℕ) → i < n → (j : ℕ) → j < n → HasHeard r x i j) where
  is : IsReady n r w h x
  is = cleared.ready

  there_x : w < x.layout.sites
  there_x = omega (arith, is.there, is.sites)

  below_n : (i : ℕ) → i < x.layout.sites → i < n
  below_n i below = omega (arith, is.sites)

  open_at_w : own (account_at x w) r Fin < own (account_at x w) r Ann
  open_at_w =
      let sound = is.sound.family.sound w there_x in
      omega (arith, (sound.balanced r).writers, value_here writers (account_at x w) r h Waiting sound is.waits)

  closed_before : (t : ℕ) → t < w → own (account_at x t) r Ann ≡ own (account_at x t) r Fin
  closed_before t lower =
      let below : t < x.layout.sites = omega (arith, there_x) in
      omega (
        arith,
        ((is.sound.family.sound t below).balanced r).writers,
        no_sessions writers (goes w t) r (none_before w t lower) (sessions_of (account_at x t)) (cleared.none t (below_n t below)),
      )

  gathers_now : IsGathering x r w
  gathers_now = record {
    sound = is.sound;
    record_there = is.record_there;
    site_there = there_x;
    all_known = is.all_known w is.there ∙ sym is.sites;
    empty = λ i below. no_sessions (weight (seats_in (account_at x i).origin.layout r)) (goes w i) r (none_inside (seats_in (account_at x i).origin.layout r) w i) (sessions_of (account_at x i)) (cleared.none i (below_n i below));
    quiet = λ i j below there apart. (heard i (below_n i below) j (below_n j there)).outs;
    shown = λ i below apart. record {
      there = omega (arith, is.all_known i (below_n i below), is.there);
      unfinished = omega (arith, known_done x i w is.sound below there_x r Fin, open_at_w, (heard i (below_n i below) w is.there).anns);
      least = λ t lower.
          let t_there : t < n = omega (arith, is.there) in
          omega (arith, known_done x i t is.sound below (omega (arith, is.sites, t_there)) r Ann, closed_before t lower, (heard i (below_n i below) t t_there).fins);
    };
  }

  has_room : HasRoom x r w
  has_room j below apart =
      omega (
        arith,
        is.rooms j (below_n j below) apart,
        conserved x.layout (account_at x) r is.sound.layout is.sound.family (sent_before x r is.sound),
        total_member x.layout.sites j (λ y. rights_of (view_of (account_at x y)) r) below,
      )

  others : List ℕ
  others = others_than w x.layout.sites

  last : List Event
  last = gathering r w (length x.sent) (others_than w x.layout.sites)

  all_gathered : IsGathered r w x (run (gathering r w (length x.sent) (others_than w x.layout.sites)) x) (replies (gathering r w (length x.sent) (others_than w x.layout.sites)) x)
  all_gathered = gather_on (others_than w x.layout.sites) x r w gathers_now (others_below w x.layout.sites x.layout.sites (omega arith)) has_room

  admits : world_reply (run (gathering r w (length x.sent) (others_than w x.layout.sites)) x) (Call w (Quill r h)) ≡ Core Admitted
  admits = reply_there v (Call w (Quill r h)) sound there_v ∙ ap (λ o. Core (replied o Admitted)) clear
    where
      v : World
      v = run (gathering r w (length x.sent) (others_than w x.layout.sites)) x

      a : Account
      a = account_at (run (gathering r w (length x.sent) (others_than w x.layout.sites)) x) w

      sound : IsSoundWorld (run (gathering r w (length x.sent) (others_than w x.layout.sites)) x)
      sound = sound_run (gathering r w (length x.sent) (others_than w x.layout.sites)) x is.sound

      layout : (run (gathering r w (length x.sent) (others_than w x.layout.sites)) x).layout ≡ x.layout
      layout = run_layout (gathering r w (length x.sent) (others_than w x.layout.sites)) x

      there_v : w < (run (gathering r w (length x.sent) (others_than w x.layout.sites)) x).layout.sites
      there_v = omega (arith, there_x, ap (λ (l : LayoutState). l.sites) layout)

      here : IsSound (account_at (run (gathering r w (length x.sent) (others_than w x.layout.sites)) x) w)
      here = sound.family.sound w there_v

      waits : phase_of (account_at (run (gathering r w (length x.sent) (others_than w x.layout.sites)) x) w) r h ≡ Some Waiting
      waits =
          ap (λ (o : Origin). phase_after o a.done r h) all_gathered.origin ∙ (ap (λ (done : List Operation). phase_after (account_at x w).origin done r h) all_gathered.done ∙ is.waits)

      same_taken : own (account_at (run (gathering r w (length x.sent) (others_than w x.layout.sites)) x) w) r Taken ≡ own (account_at x w) r Taken
      same_taken =
          ap (λ (o : Origin). own_after o a.done r Taken) all_gathered.origin ∙ ap (λ (done : List Operation). own_after (account_at x w).origin done r Taken) all_gathered.done

      same_seats_v : seats_in (account_at (run (gathering r w (length x.sent) (others_than w x.layout.sites)) x) w).origin.layout r ≡ seats_in x.layout r
      same_seats_v = same_seats a.origin.layout v.layout (sound.family.same_records w there_v) r ∙ ap (λ (l : LayoutState). seats_in l r) layout

      all_rights : rights_of (view_of (account_at (run (gathering r w (length x.sent) (others_than w x.layout.sites)) x) w)) r ≡ seats_in x.layout r
      all_rights =
          gather_all (others_than w x.layout.sites) x r w gathers_now (others_below w x.layout.sites x.layout.sites (omega arith)) all_gathered.never
          (λ j below apart. inr (is_other w x.layout.sites j below apart))

      clear : reason (view_of (account_at (run (gathering r w (length x.sent) (others_than w x.layout.sites)) x) w)) (AskCall (Quill r h)) ≡ None
      clear =
          first_reason-none (write_lines (view_of a) r h) (
            lt-leb (length a.origin.layout.records) r (here.record_there r h Waiting waits),
            (
              le-ltb holder_limit h (here.holder_there r h Waiting waits),
              (
                ap is_not_announced waits,
                (
                  ap is_writer waits,
                  (
                    le-ltb counter_limit (known a r a.origin.site Taken + seats_in a.origin.layout r) (omega (arith, is.room, same_taken, same_seats_v, known_own a r Taken)),
                    (le-ltb (rights_of (view_of a) r) (seats_in a.origin.layout r) (omega (arith, all_rights, same_seats_v)), tt),
                  ),
                ),
              ),
            ),
          )

  pub admitted_last : Leads r w (λ v. world_reply v (Call w (Quill r h)) ≡ Core Admitted) x
  admitted_last = record {
    events = gathering r w (length x.sent) (others_than w x.layout.sites);
    fair = gather_fair r w (length x.sent) (others_than w x.layout.sites) x;
    reaches = admits;
  }

-- the same before all sites know all sites
record IsWaiting (n r w h : ℕ) (v : World) : Type 0 where
  pub sound : IsSoundWorld v
  pub sites : v.layout.sites ≡ n
  pub there : w < n
  pub record_there : r < length v.layout.records
  pub waits : phase_of (account_at v w) r h ≡ Some Waiting
  pub room : own (account_at v w) r Taken + seats_in v.layout r ≤ counter_limit
  pub rooms : (i : ℕ) → i < n → i ≢ w → own (account_at v i) r (Out w) + seats_in v.layout r ≤ counter_limit

-- the first sites know all sites
record AreGrown (n r w h m : ℕ) (v : World) : Type 0 where
  pub waiting : IsWaiting n r w h v
  pub known_all : (i : ℕ) → i < m → (account_at v i).sites ≡ n

grow_one : (n r w h m : ℕ) (v : World) → m < n → AreGrown n r w h m v → AreGrown n r w h (suc m) (happens v (Grow m))
grow_one n r w h m v below g =
    subst (AreGrown n r w h (suc m)) (sym (happens_here v (Grow m) sound below_v))
    (cond_both (ltb (account_at v m).sites v.layout.sites) (with_account v m (grown v.layout.sites (account_at v m))) v (λ x. IsSoundWorld x → AreGrown n r w h (suc m) x)
    (λ e now. grew now) (λ e now. was e)
    (subst IsSoundWorld (happens_here v (Grow m) sound below_v) (sound_happens v (Grow m) sound)))
  where
    is : IsWaiting n r w h v
    is = g.waiting

    sound : IsSoundWorld v
    sound = g.waiting.sound

    below_v : m < v.layout.sites
    below_v = omega (arith, below, g.waiting.sites)

    b : Account
    b = grown v.layout.sites (account_at v m)

    at : (P : ℕ → Account → Type 0) → P m (grown v.layout.sites (account_at v m)) → ((j : ℕ) → j ≢ m → P j (account_at v j)) → (j : ℕ) → P j (account_at (with_account v m (grown v.layout.sites (account_at v m))) j)
    at = at_sites_of v m (grown v.layout.sites (account_at v m)) g.waiting.sound below_v

    grew : IsSoundWorld (with_account v m (grown v.layout.sites (account_at v m))) → AreGrown n r w h (suc m) (with_account v m (grown v.layout.sites (account_at v m)))
    grew now = record {
      waiting = record {
        sound = now;
        sites = is.sites;
        there = is.there;
        record_there = is.record_there;
        waits = at (λ j a. j ≡ w → phase_of a r h ≡ Some Waiting) (λ e. ap (λ x. phase_of (account_at v x) r h) e ∙ is.waits) (λ j ne e. ap (λ x. phase_of (account_at v x) r h) e ∙ is.waits) w refl;
        room = at (λ j a. j ≡ w → own a r Taken + seats_in v.layout r ≤ counter_limit)
            (λ e. omega (arith, is.room, ap (λ x. own (account_at v x) r Taken) e)) (λ j ne e. omega (arith, is.room, ap (λ x. own (account_at v x) r Taken) e)) w refl;
        rooms = λ j lower apart. at (λ j a. j < n → j ≢ w → own a r (Out w) + seats_in v.layout r ≤ counter_limit)
            (λ lower apart. is.rooms m lower apart) (λ j ne lower apart. is.rooms j lower apart) j lower apart;
      };
      known_all = λ i lower. at (λ j a. j < suc m → a.sites ≡ n) (λ low. is.sites) (λ j ne low. g.known_all j (omega arith)) i lower;
    }

    was : ltb (account_at v m).sites v.layout.sites ≡ false → AreGrown n r w h (suc m) v
    was e = record { waiting = is; known_all = λ i lower. all i lower (cases_eq i m) }
      where
        all : (i : ℕ) → i < suc m → (i ≡ m) ⊎ (i ≡ m → ⊥) → (account_at v i).sites ≡ n
        all i lower (inl same) =
            ap (λ x. (account_at v x).sites) same ∙ omega (arith, ltb-false (account_at v m).sites v.layout.sites e, sound.family.few_sites m below_v, is.sites)
        all i lower (inr ne) = g.known_all i (omega arith)

grow_all : (m n r w h : ℕ) (v : World) → IsWaiting n r w h v → m ≤ n → Leads r w (AreGrown n r w h m) v
grow_all zero n r w h v is few = stays r w (AreGrown n r w h zero) v (record { waiting = is; known_all = λ i lower. absurd (omega arith) })
grow_all (suc m) n r w h v is few =
    leads_on r w (AreGrown n r w h m) (AreGrown n r w h (suc m)) v (grow_all m n r w h v is (omega arith)) (λ x g.
    record { events = Grow m ∷ []; fair = (tt, tt); reaches = grow_one n r w h m x (omega arith) g })

ready_of : (n r w h : ℕ) (v : World) → AreGrown n r w h n v → IsReady n r w h v
ready_of n r w h v g = record {
  sound = g.waiting.sound;
  sites = g.waiting.sites;
  there = g.waiting.there;
  record_there = g.waiting.record_there;
  waits = g.waiting.waits;
  all_known = g.known_all;
  room = g.waiting.room;
  rooms = g.waiting.rooms;
}

pub not_stuck : (u : World) → IsRebuiltWorld u → (r w h : ℕ) → WaitsToEnter u r w h → CanEnter u r w h
not_stuck u reached r w h waiting =
    let it = leads_on r w (AreGrown n r w h n) Admits u (grow_all n n r w h u begins (omega arith)) (λ y g.
    leads_on r w (AreCleared n r w h n) Admits y (clear_all n n r w h y (ready_of n r w h y g) (omega arith)) (λ x cleared.
    leads_on r w (λ z. IsCalm x z × ((i : ℕ) → i < n → (j : ℕ) → j < n → HasHeard r z i j)) Admits x (hear_all n n r w h x cleared.ready (omega arith)) (λ z heard.
    admitted_last n r w h z (calm_cleared n r w h n x z cleared heard.0) heard.1))) in
    record { events = it.events; fair = it.fair; admitted = it.reaches }
  where
    n : ℕ
    n = u.layout.sites

    Admits : World → Type 0
    Admits = λ v. world_reply v (Call w (Quill r h)) ≡ Core Admitted

    sound : IsSoundWorld u
    sound = sound_rebuilt_world u reached

    begins : IsWaiting u.layout.sites r w h u
    begins = record {
      sound = sound;
      sites = refl;
      there = waiting.there;
      record_there = subst (λ (records : List RecordSpec). r < length records) (sound.family.same_records w waiting.there) ((sound.family.sound w waiting.there).record_there r h Waiting waiting.waits);
      waits = waiting.waits;
      room = waiting.room;
      rooms = waiting.room_to_give;
    }
