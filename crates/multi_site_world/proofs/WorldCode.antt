-- What the running world stands for after each kind of event.
use Rattle.std.proofs.Common.{◌≡◌, ◌≢◌, ℕ, ◌+◌, ◌<◌, ◌≤◌, ◌⊎◌, inl, inr, Bool, true, false, cond, eqb, leb, ltb, List, [], ◌∷◌, ◌++◌, length, get_or, set, Option, Some, None, refl, sym, ap, subst, ◌∙◌, arith}
use Rattle.std.specs.Prelude.{slice_get, not, ◌||◌, ◌&&◌, All}
use Rattle.std.specs.List.{list_all}
use Rattle.std.proofs.lemmas.List.{length-set, get_or-set_same, get_or-set_other, get_or_append_left, get_or_at}
use Rattle.std.proofs.lemmas.List.Elements.{All-weaker}
use Rattle.std.proofs.lemmas.List.Sums.{list_all-from_AllPass}
use Rattle.std.proofs.lemmas.Bool.{cases_eq, cond-true, cond-false, ltb-true, lt-ltb, le-ltb, le-leb, ne_eqb}
use Rattle.std.proofs.lemmas.Option.{slice_get-get_or}
use Rattle.merge_core.specs.Delta.{DeltaState}
use Rattle.merge_core.specs.Layout.{LayoutState, IsLayout, at_sites, layout_fault, names_differ, has_good_name, has_good_seats, has_good_home, has_good_problem}
use Rattle.merge_core.specs.declared.layout.RecordSpec.{RecordSpec}
use Rattle.admission_model.specs.declared.ask.Ask.{Ask}
use Rattle.admission_model.specs.declared.ask.Call.{Call}
use Rattle.admission_model.specs.declared.ask.Call.TheVariants.{Ask as AskCall, Merge}
use Rattle.admission_model.specs.declared.reply.Reply.{Reply}
use Rattle.admission_model.specs.declared.reply.Refusal.{Refusal}
use Rattle.admission_model.specs.declared.reply.Refusal.TheVariants.{Memory as NoMemory}
use Rattle.admission_model.specs.declared.reply.Reply.TheVariants.{Refused}
use Rattle.admission_model.specs.Account.{Account, begin, start_origin}
use Rattle.admission_model.specs.Knowledge.{restarted, grown}
use Rattle.admission_model.specs.View.{view_of}
use Rattle.admission_model.specs.Merging.{snapshot_of}
use Rattle.admission_model.specs.Serving.{reply_of, after, reason}
use Rattle.admission_core.specs.Core.{Core as SiteState, Stands, IsServed, is_memory}
use Rattle.multi_site_world.specs.declared.event.Event.{Event}
use Rattle.multi_site_world.specs.declared.event.Event.TheVariants.{Call as CallEvent, Send, Take, Thin, Restart, Grow}
use Rattle.multi_site_world.specs.declared.event.WorldReply.{WorldReply}
use Rattle.multi_site_world.specs.declared.event.WorldReply.TheVariants.{Core, Sent, Restarted, Grown, NoSite, NoGrowth, Memory}
use Rattle.multi_site_world.specs.World.{World, account_at, with_account, start_world, first_account, thin, thin_message, world_taken, reply_taken, world_here, reply_here, place_of, happens, run}
use Rattle.multi_site_world.specs.Laws.{IsReachedWorld}
use Rattle.multi_site_world.specs.Worlds.{WorldState, HasCores, StandsForWorld, IsWorldState, IsStep, IsStepHere, is_wanting, reply_of_core, refused_by, refusal_taken, refusal_thin, certain_here}
use Rattle.multi_site_world.proofs.WorldLemmas.{same_account, other_account}
use Rattle.multi_site_world.proofs.EventLemmas.{account_in, sound_start_world, sound_reached}

-- one more event
pub run_more : (events : List Event) (event : Event) (w : World) → run (events ++ event ∷ []) w ≡ happens (run events w) event
run_more [] event w = refl
run_more (e ∷ events) event w = run_more events event (happens w e)

pub happened : (m : World) (event : Event) → IsReachedWorld m → IsReachedWorld (happens m event)
happened m event is = record {
  whole = is.whole;
  is_layout = is.is_layout;
  first = is.first;
  events = is.events ++ event ∷ [];
  reached = ap (λ (w : World). happens w event) is.reached ∙ sym (run_more is.events event (start_world is.first is.whole));
}

pub happened_here : (m : World) (event : Event) → place_of event < length m.sites → IsReachedWorld m → IsReachedWorld (world_here m event)
happened_here m event there is =
    subst IsReachedWorld (cond-true (ltb (place_of event) (length m.sites)) (world_here m event) m (lt-ltb (place_of event) (length m.sites) there)) (happened m event is)

-- a world that differs at one site has the cores that differ there
cores_with : (m n : World) (cores : List SiteState) (i : ℕ) (c : SiteState) → HasCores m cores → i < length m.sites → length n.sites ≡ length m.sites → Stands (account_at n i) c → ((j : ℕ) → j ≢ i → account_at n j ≡ account_at m j) → HasCores n (set cores i c)
cores_with m n cores i c has below same here others = record {
  number = length-set cores i c ∙ (has.number ∙ sym same);
  each = λ j none there. at j none there (cases_eq j i);
}
  where
    at : (j : ℕ) (none : SiteState) → j < length n.sites → (j ≡ i) ⊎ (j ≡ i → ⊥) → Stands (account_at n j) (get_or (set cores i c) j none)
    at j none there (inl e) =
        subst (λ (x : ℕ). Stands (account_at n x) (get_or (set cores i c) x none)) (sym e)
        (subst (Stands (account_at n i)) (sym (get_or-set_same cores i c none (omega (arith, below, has.number)))) here)
    at j none there (inr ne) =
        subst (Stands (account_at n j)) (sym (get_or-set_other cores i j c none ne))
        (subst (λ (a : Account). Stands a (get_or cores j none)) (sym (others j ne)) (has.each j none (omega (arith, there, same))))

-- the core at a site stands for its account
pub stands_at : (m : World) (w : WorldState) (i : ℕ) (old none : SiteState) → old ≡ get_or w.cores i none → i < length w.cores → StandsForWorld m w → Stands (account_at m i) old
stands_at m w i old none is below stands =
    subst (Stands (account_at m i)) (sym is) (stands.cores.each i none (omega (arith, below, stands.cores.number)))

-- another core of the same account changes nothing
kept : (m : World) (w : WorldState) (i : ℕ) (new : SiteState) → i < length w.cores → StandsForWorld m w → Stands (account_at m i) new → StandsForWorld m (record w { cores = set w.cores i new })
kept m w i new below stands here = record {
  reached = stands.reached;
  layout = stands.layout;
  sent = stands.sent;
  cores = cores_with m m w.cores i new stands.cores (omega (arith, below, stands.cores.number)) refl here (λ j ne. refl);
}

-- a core of another account
changed : (m : World) (w : WorldState) (i : ℕ) (a : Account) (new : SiteState) → i < length w.cores → StandsForWorld m w → IsReachedWorld (with_account m i a) → Stands a new → StandsForWorld (with_account m i a) (record w { cores = set w.cores i new })
changed m w i a new below stands reached here = record {
  reached = reached;
  layout = stands.layout;
  sent = stands.sent;
  cores =
      cores_with m (with_account m i a) w.cores i new stands.cores there (length-set m.sites i a)
      (subst (λ (b : Account). Stands b new) (sym (same_account m i a there)) here) (λ j ne. other_account m i j a ne);
}
  where
    there : i < length m.sites
    there = omega (arith, below, stands.cores.number)

none_some : (x : WorldReply) → ◌≡◌ {A = Option WorldReply} None (Some x) → ⊥
none_some x e = cc

same_some : (x y : WorldReply) → ◌≡◌ {A = Option WorldReply} (Some x) (Some y) → x ≡ y
same_some x y e = cc

-- an event that is a call of one core
pub record IsCoreEvent (w : WorldState) (event : Event) (i : ℕ) (call : Call) : Type 0 where
  pub place : place_of event ≡ i
  pub leaves : (m : World) → StandsForWorld m w → world_here m event ≡ with_account m i (after (account_at m i) call)
  pub answer : (m : World) → StandsForWorld m w → reply_here m event ≡ Core (reply_of (view_of (account_at m i)) call)
  pub sure : (m : World) → StandsForWorld m w → (certain_here m event ≡ refused_by (reason (view_of (account_at m i)) call)) ⊎ (certain_here m event ≡ None)

-- a core's reply as the world's, by whether it is want of memory
told_as : (reply : Reply) → reply_of_core reply ≡ cond (is_memory reply) Memory (Core reply)
told_as (Refused NoMemory) = refl
told_as _ = refl

-- a core that serves a call serves the event
pub core_step : (w : WorldState) (event : Event) (i : ℕ) (call : Call) (old new none : SiteState) (reply : Reply) → old ≡ get_or w.cores i none → i < length w.cores → IsServed old new call reply → IsCoreEvent w event i call → IsStepHere w (record w { cores = set w.cores i new }) event (reply_of_core reply)
core_step w event i call old new none reply is below serves it =
    subst (IsStepHere w (record w { cores = set w.cores i new }) event) (sym (told_as reply)) (at (is_memory reply) refl)
  where
    -- a refusal of the model's is the core's
    refuses : (sure : WorldReply) (m : World) → StandsForWorld m w → certain_here m event ≡ Some sure → reply_of_core reply ≡ sure
    refuses sure m stands certain = from (it.sure m stands)
      where
        a : Account
        a = account_at m i

        is_refused : (o : Option Refusal) → reason (view_of a) call ≡ o → refused_by o ≡ Some sure → reply_of_core reply ≡ sure
        is_refused None told is_sure = absurd (none_some sure is_sure)
        is_refused (Some refusal) told is_sure =
            ap reply_of_core (serves.refused refusal a (stands_at m w i old none is below stands) told) ∙ same_some _ _ is_sure

        from : (certain_here m event ≡ refused_by (reason (view_of a) call)) ⊎ (certain_here m event ≡ None) → reply_of_core reply ≡ sure
        from (inl known) = is_refused (reason (view_of a) call) refl (sym known ∙ certain)
        from (inr unknown) = absurd (none_some sure (sym unknown ∙ certain))

    at : (b : Bool) → is_memory reply ≡ b → IsStepHere w (record w { cores = set w.cores i new }) event (cond b Memory (Core reply))
    at true e = record {
      answered = λ wanting m stands. cc;
      certain = λ sure m stands certain. sym (told_as reply ∙ cond-true (is_memory reply) Memory (Core reply) e) ∙ refuses sure m stands certain;
      world = λ m stands.
          kept m w i new below stands
          (subst (λ (a : Account). Stands a new) (cond-true (is_memory reply) (account_at m i) (after (account_at m i) call) e)
          (serves.account (account_at m i) (stands_at m w i old none is below stands)));
    }
    at false e = record {
      answered = λ wanting m stands.
          ap Core (serves.answered e (account_at m i) (stands_at m w i old none is below stands)) ∙ sym (it.answer m stands);
      certain = λ sure m stands certain. sym (told_as reply ∙ cond-false (is_memory reply) Memory (Core reply) e) ∙ refuses sure m stands certain;
      world = λ m stands.
          subst (λ (n : World). StandsForWorld n (record w { cores = set w.cores i new })) (sym (it.leaves m stands))
          (changed m w i (after (account_at m i) call) new below stands
          (subst IsReachedWorld (it.leaves m stands) (happened_here m event (omega (arith, it.place, below, stands.cores.number)) stands.reached))
          (subst (λ (a : Account). Stands a new) (cond-false (is_memory reply) (account_at m i) (after (account_at m i) call) e)
          (serves.account (account_at m i) (stands_at m w i old none is below stands))));
    }

-- a call, and a message that is there, whole or thin
pub is_asked : (w : WorldState) (i : ℕ) (ask : Ask) → IsCoreEvent w (CallEvent i ask) i (AskCall ask)
is_asked w i ask = record { place = refl; leaves = λ m stands. refl; answer = λ m stands. refl; sure = λ m stands. inl refl }

pub is_taken : (w : WorldState) (i k : ℕ) (message : DeltaState) → slice_get w.sent k ≡ Some message → IsCoreEvent w (Take i k) i (Merge message)
is_taken w i k message there = record {
  place = refl;
  leaves = λ m stands. ap (world_taken m i) (found m stands);
  answer = λ m stands. ap (reply_taken m i) (found m stands);
  sure = λ m stands. inl (ap (refusal_taken m i) (found m stands));
}
  where
    found : (m : World) → StandsForWorld m w → slice_get m.sent k ≡ Some message
    found m stands = ap (λ (sent : List DeltaState). slice_get sent k) (sym stands.sent) ∙ there

pub is_thin : (w : WorldState) (i k l : ℕ) (message earlier rest : DeltaState) → slice_get w.sent k ≡ Some message → slice_get w.sent l ≡ Some earlier → rest ≡ thin message earlier → IsCoreEvent w (Thin i k l) i (Merge rest)
is_thin w i k l message earlier rest there before is = record {
  place = refl;
  leaves = λ m stands. ap (world_taken m i) (found m stands);
  answer = λ m stands. ap (reply_taken m i) (found m stands);
  sure = λ m stands. inr (ap refusal_thin (found m stands));
}
  where
    found : (m : World) → StandsForWorld m w → thin_message (slice_get m.sent k) (slice_get m.sent l) ≡ Some rest
    found m stands =
        ap (λ (sent : List DeltaState). thin_message (slice_get sent k) (slice_get sent l)) (sym stands.sent)
        ∙ (ap (λ (o : Option DeltaState). thin_message o (slice_get w.sent l)) there ∙ (ap (thin_message (Some message)) before ∙ ap Some (sym is)))

-- a message that a look-up gave
pub found_at : (xs ys : List DeltaState) (k : ℕ) (d : DeltaState) → ys ≡ xs → true ≡ ltb k (length ys) → d ≡ get_or ys k d → slice_get xs k ≡ Some d
found_at xs ys k d same below is =
    subst (λ (zs : List DeltaState). slice_get zs k ≡ Some d) same (slice_get-get_or ys k d (ltb-true k (length ys) (sym below)) ∙ ap Some (sym is))

-- the step of a site that is started again
pub restart_step : (w : WorldState) (i : ℕ) (old new none : SiteState) → old ≡ get_or w.cores i none → i < length w.cores → ((a : Account) → Stands a old → Stands (restarted a) new) → IsStepHere w (record w { cores = set w.cores i new }) (Restart i) Restarted
restart_step w i old new none is below again = record {
  answered = λ wanting m stands. refl;
  certain = λ sure m stands certain. same_some Restarted sure certain;
  world = λ m stands.
      changed m w i (restarted (account_at m i)) new below stands
      (happened_here m (Restart i) (omega (arith, below, stands.cores.number)) stands.reached)
      (again (account_at m i) (stands_at m w i old none is below stands));
}

-- the step of a site that sends
pub send_step : (w : WorldState) (i : ℕ) (old none : SiteState) (message : DeltaState) → old ≡ get_or w.cores i none → i < length w.cores → ((a : Account) → Stands a old → message ≡ snapshot_of (view_of a)) → IsStepHere w (record w { sent = w.sent ++ message ∷ [] }) (Send i) (Sent (length w.sent))
send_step w i old none message is below tells = record {
  answered = λ wanting m stands. ap (λ (sent : List DeltaState). Sent (length sent)) stands.sent;
  certain = λ sure m stands certain. absurd (none_some sure certain);
  world = λ m stands. record {
    reached = happened_here m (Send i) (omega (arith, below, stands.cores.number)) stands.reached;
    layout = stands.layout;
    sent =
        ap (λ (sent : List DeltaState). sent ++ message ∷ []) stands.sent
        ∙ ap (λ (d : DeltaState). m.sent ++ d ∷ []) (tells (account_at m i) (stands_at m w i old none is below stands));
    cores = record { number = stands.cores.number; each = stands.cores.each };
  };
}

-- a site's layout and the world's differ in the number of sites alone
pub same_records : (m : World) (w : WorldState) (i : ℕ) (old none : SiteState) → old ≡ get_or w.cores i none → i < length w.cores → StandsForWorld m w → w.layout.records ≡ old.layout.records
same_records m w i old none is below stands =
    let sound = sound_reached m stands.reached in
    ap (λ (l : LayoutState). l.records) stands.layout
    ∙ (sym (sound.family.same_records i (omega (arith, below, stands.cores.number, sound.number)))
    ∙ sym (ap (λ (l : LayoutState). l.records) (stands_at m w i old none is below stands).shows.layout))

-- a site knows as many sites as its core has
knows_sites : (m : World) (w : WorldState) (i : ℕ) (old none : SiteState) → old ≡ get_or w.cores i none → i < length w.cores → StandsForWorld m w → old.layout.sites ≡ (account_at m i).sites
knows_sites m w i old none is below stands = ap (λ (l : LayoutState). l.sites) (stands_at m w i old none is below stands).shows.layout

-- the step of a site that grows
pub grow_step : (w : WorldState) (i : ℕ) (old new none : SiteState) → old ≡ get_or w.cores i none → i < length w.cores → old.layout.sites < w.layout.sites → ((a : Account) → Stands a old → Stands (grown w.layout.sites a) new) → IsStepHere w (record w { cores = set w.cores i new }) (Grow i) Grown
grow_step w i old new none is below few grows = record {
  answered = λ wanting m stands. sym (cond-true (ltb (account_at m i).sites m.layout.sites) Grown NoGrowth (fewer m stands));
  certain = λ sure m stands certain. absurd (none_some sure (sym (cond-true (ltb (account_at m i).sites m.layout.sites) None (Some NoGrowth) (fewer m stands)) ∙ certain));
  world = λ m stands.
      let more : world_here m (Grow i) ≡ with_account m i (grown m.layout.sites (account_at m i)) = cond-true (ltb (account_at m i).sites m.layout.sites) (with_account m i (grown m.layout.sites (account_at m i))) m (fewer m stands) in
      subst (λ (n : World). StandsForWorld n (record w { cores = set w.cores i new })) (sym more)
      (changed m w i (grown m.layout.sites (account_at m i)) new below stands
      (subst IsReachedWorld more (happened_here m (Grow i) (omega (arith, below, stands.cores.number)) stands.reached))
      (subst (λ (l : LayoutState). Stands (grown l.sites (account_at m i)) new) stands.layout (grows (account_at m i) (stands_at m w i old none is below stands))));
}
  where
    fewer : (m : World) → StandsForWorld m w → ltb (account_at m i).sites m.layout.sites ≡ true
    fewer m stands =
        lt-ltb (account_at m i).sites m.layout.sites
        (omega (arith, few, knows_sites m w i old none is below stands, ap (λ (l : LayoutState). l.sites) stands.layout))

-- a site that knows all sites does not grow
pub no_growth : (w : WorldState) (i : ℕ) (old none : SiteState) → old ≡ get_or w.cores i none → i < length w.cores → w.layout.sites ≤ old.layout.sites → IsStepHere w w (Grow i) NoGrowth
no_growth w i old none is below all = record {
  answered = λ wanting m stands. sym (cond-false (ltb (account_at m i).sites m.layout.sites) Grown NoGrowth (enough m stands));
  certain = λ sure m stands certain. same_some NoGrowth sure (sym (cond-false (ltb (account_at m i).sites m.layout.sites) None (Some NoGrowth) (enough m stands)) ∙ certain);
  world = λ m stands.
      subst (λ (n : World). StandsForWorld n w)
      (sym (cond-false (ltb (account_at m i).sites m.layout.sites) (with_account m i (grown m.layout.sites (account_at m i))) m (enough m stands)))
      stands;
}
  where
    enough : (m : World) → StandsForWorld m w → ltb (account_at m i).sites m.layout.sites ≡ false
    enough m stands =
        le-ltb (account_at m i).sites m.layout.sites
        (omega (arith, all, knows_sites m w i old none is below stands, ap (λ (l : LayoutState). l.sites) stands.layout))

-- a step of a world leaves a world
pub is_world : (w new : WorldState) (event : Event) (reply : WorldReply) → IsWorldState w → IsStepHere w new event reply → new.layout ≡ w.layout → length new.cores ≡ length w.cores → IsWorldState new
is_world w new event reply is step layout number = record {
  layout = subst IsLayout (sym layout) is.layout;
  number = number ∙ (is.number ∙ sym (ap (λ (l : LayoutState). l.sites) layout));
  model = cond (is_wanting reply) is.model (world_here is.model event);
  stands = step.world is.model is.stands;
}

-- an event at a site that there is
pub step_here : (old new : WorldState) (event : Event) (reply : WorldReply) → place_of event < length old.cores → IsStepHere old new event reply → IsStep old new event reply
step_here old new event reply below step = record {
  answered = λ wanting m stands. step.answered wanting m stands ∙ sym (cond-true (ltb (place_of event) (length m.sites)) (reply_here m event) NoSite (there m stands));
  certain = λ sure m stands certain. step.certain sure m stands (sym (cond-true (ltb (place_of event) (length m.sites)) (certain_here m event) (Some NoSite) (there m stands)) ∙ certain);
  world = λ m stands.
      subst (λ (n : World). StandsForWorld (cond (is_wanting reply) m n) new)
      (sym (cond-true (ltb (place_of event) (length m.sites)) (world_here m event) m (there m stands))) (step.world m stands);
}
  where
    there : (m : World) → StandsForWorld m old → ltb (place_of event) (length m.sites) ≡ true
    there m stands = lt-ltb (place_of event) (length m.sites) (omega (arith, below, stands.cores.number))

-- an event at a site that there is not
pub step_nowhere : (w : WorldState) (event : Event) → length w.cores ≤ place_of event → IsStep w w event NoSite
step_nowhere w event past = record {
  answered = λ wanting m stands. sym (cond-false (ltb (place_of event) (length m.sites)) (reply_here m event) NoSite (gone m stands));
  certain = λ sure m stands certain. same_some NoSite sure (sym (cond-false (ltb (place_of event) (length m.sites)) (certain_here m event) (Some NoSite) (gone m stands)) ∙ certain);
  world = λ m stands.
      subst (λ (n : World). StandsForWorld n w)
      (sym (cond-false (ltb (place_of event) (length m.sites)) (world_here m event) m (gone m stands))) stands;
}
  where
    gone : (m : World) → StandsForWorld m w → ltb (place_of event) (length m.sites) ≡ false
    gone m stands = le-ltb (place_of event) (length m.sites) (omega (arith, past, stands.cores.number))

and_true : (a b : Bool) → a ≡ true → b ≡ true → (a && b) ≡ true
and_true a b x y = subst (λ (p : Bool). (p && b) ≡ true) (sym x) y

-- a test that holds of each element
all_true : {X : Type 0} → (p : X → Bool) (P : X → Type 0) → ((x : X) → P x → p x ≡ true) → (xs : List X) → All P xs → list_all p xs ≡ true
all_true p P tells xs all = list_all-from_AllPass p xs (All-weaker P (λ x. p x ≡ true) tells xs all)

-- a layout has no fault
pub no_fault : (l : LayoutState) → IsLayout l → layout_fault l.sites l.records ≡ None
no_fault l is =
    cond-false (eqb l.sites 0) _ _ (ne_eqb l.sites 0 (λ e. absurd (omega (arith, is.some_sites))))
    ∙ (cond-false (ltb 16 l.sites) _ _ (le-ltb 16 l.sites is.few_sites)
    ∙ (cond-false (eqb (length l.records) 0) _ _ (ne_eqb (length l.records) 0 (λ e. absurd (omega (arith, is.some_records))))
    ∙ (cond-false (ltb 256 (length l.records)) _ _ (le-ltb 256 (length l.records) is.few_records)
    ∙ (cond-false (not (list_all has_good_name l.records)) _ _ (ap not (all_true has_good_name _ (λ r h. h) l.records is.names))
    ∙ (cond-false (not (names_differ l.records)) _ _ (ap not is.apart)
    ∙ (cond-false (not (list_all has_good_seats l.records)) _ _ (ap not (all_true has_good_seats _ seats l.records is.seats))
    ∙ (cond-false (not (list_all (has_good_home l.sites) l.records)) _ _ (ap not (all_true (has_good_home l.sites) _ (λ r h. lt-ltb r.home l.sites h) l.records is.homes))
    ∙ cond-false (not (list_all has_good_problem l.records)) _ _ (ap not (all_true has_good_problem _ problem l.records is.problems)))))))))
  where
    seats : (r : RecordSpec) → (1 ≤ r.seats) × (r.seats ≤ 65535) → has_good_seats r ≡ true
    seats r h = and_true (leb 1 r.seats) (leb r.seats 65535) (le-leb 1 r.seats h.0) (le-leb r.seats 65535 h.1)

    problem : (r : RecordSpec) → (r.problem ≡ 1) ⊎ (r.problem ≡ 2) → has_good_problem r ≡ true
    problem r (inl e) = subst (λ (n : ℕ). (eqb n 1 || eqb n 2) ≡ true) (sym e) refl
    problem r (inr e) = subst (λ (n : ℕ). (eqb n 1 || eqb n 2) ≡ true) (sym e) refl

-- one more core
pub pushed : (P : ℕ → SiteState → Type 0) (cores new : List SiteState) (i : ℕ) (core : SiteState) → new ≡ cores ++ core ∷ [] → length cores ≡ i → ((j : ℕ) (none : SiteState) → j < i → P j (get_or cores j none)) → P i core → (j : ℕ) (none : SiteState) → j < i + 1 → P j (get_or new j none)
pushed P cores new i core is same all here j none below = subst (λ (cs : List SiteState). P j (get_or cs j none)) (sym is) (at (cases_eq j i))
  where
    at : (j ≡ i) ⊎ (j ≡ i → ⊥) → P j (get_or (cores ++ core ∷ []) j none)
    at (inl e) = subst (λ (n : ℕ). P n (get_or (cores ++ core ∷ []) n none)) (sym e) (subst (P i) (sym (get_or_at cores core [] none i same)) here)
    at (inr ne) =
        let before : j < i = omega arith in
        subst (P j) (sym (get_or_append_left cores (core ∷ []) none j (omega (arith, before, same)))) (all j none before)

-- the cores before any event
pub begun : (first : ℕ) (layout earlier : LayoutState) (cores : List SiteState) (sent : List DeltaState) → IsLayout layout → earlier ≡ at_sites first layout → length cores ≡ layout.sites → ((i : ℕ) (none : SiteState) → i < layout.sites → Stands (first_account earlier.sites layout i) (get_or cores i none)) → sent ≡ [] → StandsForWorld (start_world first layout) (record { layout = layout; cores = cores; sent = sent })
begun first layout earlier cores sent is same number each none_sent = record {
  reached = record { whole = layout; is_layout = is; first = first; events = []; reached = refl };
  layout = refl;
  sent = none_sent;
  cores = record {
    number = number ∙ sym accounts;
    each = λ i none there.
        let below : i < layout.sites = omega (arith, there, accounts) in
        subst (λ (a : Account). Stands a (get_or cores i none)) (sym (account_in first layout layout.sites i (begin (start_origin layout i)) below))
        (subst (λ (n : ℕ). Stands (first_account n layout i) (get_or cores i none)) (ap (λ (l : LayoutState). l.sites) same) (each i none below));
  };
}
  where
    accounts : length (start_world first layout).sites ≡ layout.sites
    accounts = (sound_start_world first layout is).number

-- so they make a world
pub is_begun : (w : WorldState) (first : ℕ) → IsLayout w.layout → length w.cores ≡ w.layout.sites → StandsForWorld (start_world first w.layout) w → IsWorldState w
is_begun w first is number stands = record { layout = is; number = number; model = start_world first w.layout; stands = stands }
