-- One site helps, sends, and the writer's site takes the message.
use Rattle.std.proofs.Common.{◌≡◌, ◌≢◌, ℕ, ◌<◌, ◌≤◌, ltb, List, [], ◌∷◌, ◌++◌, length, Some, None, refl, sym, ap, subst, ◌∙◌, arith}
use Rattle.std.specs.Prelude.{slice_get}
use Rattle.std.proofs.lemmas.List.{length-set}
use Rattle.std.proofs.lemmas.Bool.{lt-ltb, cond-true}
use Rattle.merge_core.specs.declared.cell.Cell.TheVariants.{Out}
use Rattle.merge_core.specs.declared.delta.Row.{Row}
use Rattle.merge_core.specs.Delta.{DeltaState}
use Rattle.merge_core.specs.declared.layout.RecordSpec.{RecordSpec}
use Rattle.merge_core.specs.Layout.{shape_of}
use Rattle.merge_core.specs.Naming.{shown_by}
use Rattle.admission_model.specs.declared.ask.Ask.TheVariants.{Help}
use Rattle.admission_model.specs.declared.ask.Call.TheVariants.{Ask as AskCall, Merge}
use Rattle.admission_model.specs.declared.reply.Refusal.TheVariants.{CounterFull}
use Rattle.admission_model.specs.declared.reply.Reply.TheVariants.{Refused}
use Rattle.admission_model.specs.Account.{Account, Origin, layout_of, own, inside}
use Rattle.admission_model.specs.Knowledge.{known, hears}
use Rattle.admission_model.specs.View.{view_of}
use Rattle.admission_model.specs.Merging.{snapshot_of}
use Rattle.admission_model.specs.Serving.{reason, reply_of, unless_refused, after}
use Rattle.admission_model.specs.Laws.{IsFirstUnfinished}
use Rattle.admission_model.proofs.CounterLemmas.{known_own}
use Rattle.admission_model.proofs.SnapshotLemmas.{snapshot_shows}
use Rattle.admission_model.proofs.HelpLemmas.{IsHelped, helped}
use Rattle.multi_site_world.specs.declared.event.Event.{Event}
use Rattle.multi_site_world.specs.declared.event.Event.TheVariants.{Call, Send, Take}
use Rattle.multi_site_world.specs.World.{World, account_at, with_account, world_taken, world_here, place_of, happens}
use Rattle.multi_site_world.proofs.WorldLemmas.{IsSoundWorld, same_account, other_account, rows_accepted, all_narrow}
use Rattle.multi_site_world.proofs.FamilyLemmas.{same_shown}
use Rattle.multi_site_world.proofs.EventLemmas.{sound_happens, message_there}

-- a world on the way to w having all seats of record r
pub record IsGathering (u : World) (r w : ℕ) : Type 0 where
  pub sound : IsSoundWorld u
  pub record_there : r < length u.layout.records
  pub site_there : w < u.layout.sites
  pub all_known : (account_at u w).sites ≡ u.layout.sites
  pub empty : (i : ℕ) → i < u.layout.sites → inside (account_at u i) r ≡ 0
  pub quiet : (i j : ℕ) → i < u.layout.sites → j < u.layout.sites → j ≢ i → own (account_at u j) r (Out i) ≤ known (account_at u i) r j (Out i)
  pub shown : (i : ℕ) → i < u.layout.sites → i ≢ w → IsFirstUnfinished (view_of (account_at u i)) r w

happens_here : (u : World) (event : Event) → IsSoundWorld u → place_of event < u.layout.sites → happens u event ≡ world_here u event
happens_here u event sound below =
    cond-true (ltb (place_of event) (length u.sites)) (world_here u event) u (lt-ltb (place_of event) (length u.sites) (omega (arith, sound.number)))

last_message : (xs : List DeltaState) (d : DeltaState) → slice_get (xs ++ d ∷ []) (length xs) ≡ Some d
last_message [] d = refl
last_message (x ∷ xs) d = last_message xs d

-- the helper's account, its message, and the world after the three events
abbrev pub helper : World → ℕ → ℕ → Account
helper u r i = after (account_at u i) (AskCall (Help r))

abbrev pub told_on : World → ℕ → ℕ → World
told_on u r i =
    record (with_account u i (helper u r i)) { sent = u.sent ++ snapshot_of (view_of (account_at (with_account u i (helper u r i)) i)) ∷ [] }

abbrev pub handed : World → ℕ → ℕ → ℕ → World
handed u r w i =
    with_account (told_on u r i) w (after (account_at (told_on u r i) w) (Merge (snapshot_of (view_of (account_at (with_account u i (helper u r i)) i)))))

pub three_events : (u : World) (r w i : ℕ) → IsSoundWorld u → i < u.layout.sites → w < u.layout.sites → happens (happens (happens u (Call i (Help r))) (Send i)) (Take w (length u.sent)) ≡ handed u r w i
three_events u r w i sound below there =
    let first = happens_here u (Call i (Help r)) sound below in
    let u1 = with_account u i (helper u r i) in
    let sound_1 : IsSoundWorld u1 = subst IsSoundWorld first (sound_happens u (Call i (Help r)) sound) in
    let second = happens_here u1 (Send i) sound_1 below in
    let u2 = told_on u r i in
    let sound_2 : IsSoundWorld u2 = subst IsSoundWorld second (sound_happens u1 (Send i) sound_1) in
    let third = happens_here u2 (Take w (length u.sent)) sound_2 there in
    ap (λ v. happens (happens v (Send i)) (Take w (length u.sent))) first
    ∙ (ap (λ v. happens v (Take w (length u.sent))) second
    ∙ (third
    ∙ ap (world_taken u2 w) (last_message u.sent (snapshot_of (view_of (account_at u1 i))))))

pub two_events : (u : World) (r i : ℕ) → IsSoundWorld u → i < u.layout.sites → happens (happens u (Call i (Help r))) (Send i) ≡ told_on u r i
two_events u r i sound below =
    let first = happens_here u (Call i (Help r)) sound below in
    let u1 = with_account u i (helper u r i) in
    let sound_1 : IsSoundWorld u1 = subst IsSoundWorld first (sound_happens u (Call i (Help r)) sound) in
    ap (λ v. happens v (Send i)) first ∙ happens_here u1 (Send i) sound_1 below

pub sound_told_on : (u : World) (r i : ℕ) → IsSoundWorld u → i < u.layout.sites → IsSoundWorld (told_on u r i)
sound_told_on u r i sound below =
    let u1 = with_account u i (helper u r i) in
    let sound_1 : IsSoundWorld u1 = subst IsSoundWorld (happens_here u (Call i (Help r)) sound below) (sound_happens u (Call i (Help r)) sound) in
    subst IsSoundWorld (happens_here u1 (Send i) sound_1 below) (sound_happens u1 (Send i) sound_1)

pub sound_handed : (u : World) (r w i : ℕ) → IsSoundWorld u → i < u.layout.sites → w < u.layout.sites → IsSoundWorld (handed u r w i)
sound_handed u r w i sound below there =
    subst IsSoundWorld (three_events u r w i sound below there)
    (sound_happens (happens (happens u (Call i (Help r))) (Send i)) (Take w (length u.sent))
    (sound_happens (happens u (Call i (Help r))) (Send i) (sound_happens u (Call i (Help r)) sound)))

-- what the accounts are after the three events
pub record IsHanded (u : World) (r w i : ℕ) : Type 0 where
  pub helps : IsHelped (account_at u i) (account_at (handed u r w i) i) r w
  pub rest : (j : ℕ) → j ≢ i → j ≢ w → account_at (handed u r w i) j ≡ account_at u j
  pub rows : List Row
  pub hears_it : account_at (handed u r w i) w ≡ hears (account_at u w) rows
  pub shows : shown_by (shape_of u.layout) rows r i (Out w) ≡ own (account_at (handed u r w i) i) r (Out w)

pub is_handed : (u : World) (r w i : ℕ) → IsGathering u r w → i < u.layout.sites → i ≢ w → reply_of (view_of (account_at u i)) (AskCall (Help r)) ≢ Refused CounterFull → IsHanded u r w i
is_handed u r w i g below apart not_full = record {
  helps = subst (λ (b : Account). IsHelped a b r w) (sym helper_after) helped_a;
  rest = λ j not_i not_w. other_account u2 w j merged not_w ∙ other_account u i j b not_i;
  rows = d.rows;
  hears_it = same_account u2 w merged (omega (arith, length-set u.sites i b, g.sound.number, g.site_there)) ∙ (ap (λ o. unless_refused o (account_at u2 w) (hears (account_at u2 w) d.rows)) accepted ∙ ap (λ c. hears c d.rows) (other_account u i w b (λ e. apart (sym e))));
  shows = shown ∙ ap (λ c. own c r (Out w)) (sym helper_after);
}
  where
    a : Account
    a = account_at u i

    b : Account
    b = helper u r i

    u2 : World
    u2 = told_on u r i

    d : DeltaState
    d = snapshot_of (view_of (account_at (with_account u i (helper u r i)) i))

    merged : Account
    merged = after (account_at (told_on u r i) w) (Merge (snapshot_of (view_of (account_at (with_account u i (helper u r i)) i))))

    there : i < length u.sites
    there = omega (arith, g.sound.number)

    same_site : (account_at u i).origin.site ≡ i
    same_site = g.sound.family.same_site i below

    helper_now : account_at (with_account u i (helper u r i)) i ≡ helper u r i
    helper_now = same_account u i (helper u r i) there

    helper_after : account_at (handed u r w i) i ≡ helper u r i
    helper_after = other_account (told_on u r i) w i (after (account_at (told_on u r i) w) (Merge (snapshot_of (view_of (account_at (with_account u i (helper u r i)) i))))) apart ∙ helper_now

    helped_a : IsHelped (account_at u i) (helper u r i) r w
    helped_a =
        helped (account_at u i) r w (g.sound.family.sound i below)
        (subst (λ (records : List RecordSpec). r < length records) (sym (g.sound.family.same_records i below)) g.record_there)
        (λ e. apart (sym (e ∙ same_site))) (g.shown i below apart) not_full

    accepted : reason (view_of (account_at (told_on u r i) w)) (Merge (snapshot_of (view_of (account_at (with_account u i (helper u r i)) i)))) ≡ None
    accepted =
        let sound_2 = sound_told_on u r i g.sound below in
        let message = message_there (told_on u r i) (length u.sent) (snapshot_of (view_of (account_at (with_account u i (helper u r i)) i))) sound_2 (last_message u.sent (snapshot_of (view_of (account_at (with_account u i (helper u r i)) i)))) in
        let all : (account_at (told_on u r i) w).sites ≡ u.layout.sites = ap (λ (c : Account). c.sites) (other_account u i w (helper u r i) (λ e. apart (sym e))) ∙ g.all_known in
        rows_accepted (told_on u r i) w (snapshot_of (view_of (account_at (with_account u i (helper u r i)) i))) sound_2 g.site_there message.rows
        (all_narrow (told_on u r i) w (snapshot_of (view_of (account_at (with_account u i (helper u r i)) i))).rows all message.rows)

    same_records : (helper u r i).origin.layout.records ≡ u.layout.records
    same_records = ap (λ (o : Origin). o.layout.records) helped_a.same_origin ∙ g.sound.family.same_records i below

    shown : shown_by (shape_of u.layout) (snapshot_of (view_of (account_at (with_account u i (helper u r i)) i))).rows r i (Out w) ≡ own (helper u r i) r (Out w)
    shown =
        let c = helper u r i in
        let v = view_of (helper u r i) in
        let site : (helper u r i).origin.site ≡ i = ap (λ (o : Origin). o.site) helped_a.same_origin ∙ same_site in
        let old = g.sound.family.sound i below in
        let knows_w = g.shown i below apart in
        ap (λ b. shown_by (shape_of u.layout) (snapshot_of (view_of b)).rows r i (Out w)) helper_now
        ∙ (sym (same_shown (layout_of (helper u r i)) u.layout same_records (snapshot_of v).rows r i (Out w))
        ∙ (snapshot_shows v r i (Out w)
        (subst (λ (records : List RecordSpec). r < length records) (sym same_records) g.record_there)
        (omega (arith, helped_a.same_sites, old.site_there, same_site))
        (omega (arith, helped_a.same_sites, knows_w.there))
        ∙ (ap (λ x. known (helper u r i) r x (Out w)) (sym site) ∙ known_own (helper u r i) r (Out w))))
