-- From one site to the next: all seats reach the writer's site.
use Rattle.std.proofs.Common.{◌≡◌, ◌≢◌, ℕ, ◌+◌, ◌<◌, ◌≤◌, ◌⊎◌, inl, inr, max, cond, eqb, List, [], ◌∷◌, length, sym, ap, subst, ◌∙◌, arith}
use Rattle.std.specs.List.{AllByRecursion}
use Rattle.std.proofs.lemmas.List.{length-append}
use Rattle.std.proofs.lemmas.Bool.{cases_eq, eq-eqb, ne_eqb, cond-true, cond-false}
use Rattle.merge_core.specs.declared.cell.Cell.{Cell}
use Rattle.merge_core.specs.declared.cell.Cell.TheVariants.{Out, Ann, Fin}
use Rattle.merge_core.specs.declared.layout.RecordSpec.{RecordSpec}
use Rattle.merge_core.specs.Layout.{LayoutState, shape_of}
use Rattle.merge_core.specs.Naming.{shown_by}
use Rattle.admission_model.specs.declared.ask.Ask.TheVariants.{Help}
use Rattle.admission_model.specs.declared.ask.Call.TheVariants.{Ask as AskCall}
use Rattle.admission_model.specs.declared.reply.Refusal.TheVariants.{CounterFull, NoPlan}
use Rattle.admission_model.specs.declared.reply.Reply.TheVariants.{Gave, Refused}
use Rattle.merge_core.specs.Sums.{total_others}
use Rattle.admission_model.specs.Account.{Account, seats_in, own, inside}
use Rattle.admission_model.specs.Knowledge.{known, told, told_after}
use Rattle.admission_model.specs.View.{view_of, rights_of}
use Rattle.admission_model.specs.Serving.{reply_of}
use Rattle.admission_model.specs.Merging.{snapshot_of}
use Rattle.admission_model.specs.Laws.{IsFirstUnfinished}
use Rattle.admission_model.proofs.HelpLemmas.{help_reply}
use Rattle.merge_core.proofs.SumLemmas.{total_zero, total_split}
use Rattle.admission_model.proofs.CounterLemmas.{known_own, known_other}
use Rattle.multi_site_world.specs.declared.event.Event.TheVariants.{Call, Send, Take}
use Rattle.multi_site_world.specs.declared.event.WorldReply.{WorldReply}
use Rattle.multi_site_world.specs.declared.event.WorldReply.TheVariants.{Core}
use Rattle.multi_site_world.specs.World.{World, account_at, with_account, happens, world_reply, run, replies}
use Rattle.multi_site_world.specs.Laws.{in_flight, gathering, IsOneOf, IsNeverFull, IsHelpReply, IsMergedReply, AreGathered}
use Rattle.multi_site_world.proofs.FamilyLemmas.{conserved, same_shown}
use Rattle.multi_site_world.proofs.WorldLemmas.{IsSoundWorld, other_account}
use Rattle.multi_site_world.proofs.EventLemmas.{sound_happens}
use Rattle.multi_site_world.proofs.LawLemmas.{sent_before, run_layout, reply_there, merged}
use Rattle.multi_site_world.proofs.GatherLemmas.{IsGathering, IsHanded, is_handed, handed, sound_handed, helper, told_on, two_events, sound_told_on, three_events}

module _ (u : World) (r w i : ℕ) (g : IsGathering u r w) (below : i < u.layout.sites) (apart : i ≢ w) (h : IsHanded u r w i) where
  -- a fact of the helper's new account, of the writer's, and of any other old one
  three_cases : (j : ℕ) → (P : ℕ → Type 0) → ((j ≡ i) → P i) → ((j ≡ w) → P w) → (j ≢ i → j ≢ w → P j) → P j
  three_cases j P at_i at_w at_j = at (cases_eq j i) (cases_eq j w)
    where
      at : (j ≡ i) ⊎ (j ≡ i → ⊥) → (j ≡ w) ⊎ (j ≡ w → ⊥) → P j
      at (inl e) other = subst P (sym e) (at_i e)
      at (inr ne) (inl e) = subst P (sym e) (at_w e)
      at (inr ne) (inr not_w) = at_j ne not_w

  own_same : (j x : ℕ) → x ≢ w → own (account_at (handed u r w i) j) r (Out x) ≡ own (account_at u j) r (Out x)
  own_same j x other =
      three_cases j (λ y. own (account_at (handed u r w i) y) r (Out x) ≡ own (account_at u y) r (Out x))
      (λ e. h.helps.outs x other)
      (λ e. ap (λ c. own c r (Out x)) h.hears_it)
      (λ not_i not_w. ap (λ c. own c r (Out x)) (h.rest j not_i not_w))

  own_w : (j : ℕ) → j ≢ i → own (account_at (handed u r w i) j) r (Out w) ≡ own (account_at u j) r (Out w)
  own_w j not_i = at (cases_eq j w)
    where
      at : (j ≡ w) ⊎ (j ≡ w → ⊥) → own (account_at (handed u r w i) j) r (Out w) ≡ own (account_at u j) r (Out w)
      at (inl e) =
          subst (λ (y : ℕ). own (account_at (handed u r w i) y) r (Out w) ≡ own (account_at u y) r (Out w)) (sym e) (ap (λ c. own c r (Out w)) h.hears_it)
      at (inr not_w) = ap (λ c. own c r (Out w)) (h.rest j not_i not_w)

  told_same : (x : ℕ) → x ≢ w → (s : ℕ) (cell : Cell) → told (account_at (handed u r w i) x) r s cell ≡ told (account_at u x) r s cell
  told_same x other s cell = at (cases_eq x i)
    where
      at : (x ≡ i) ⊎ (x ≡ i → ⊥) → told (account_at (handed u r w i) x) r s cell ≡ told (account_at u x) r s cell
      at (inl e) =
          subst (λ (y : ℕ). told (account_at (handed u r w i) y) r s cell ≡ told (account_at u y) r s cell) (sym e)
          (ap (λ o. told_after o (account_at (handed u r w i) i).heard r s cell) h.helps.same_origin
          ∙ ap (λ l. told_after (account_at u i).origin l r s cell) h.helps.same_heard)
      at (inr not_i) = ap (λ c. told c r s cell) (h.rest x not_i other)

  site_now : (x : ℕ) → x < u.layout.sites → (account_at (handed u r w i) x).origin.site ≡ x
  site_now x there = (sound_handed u r w i g.sound below g.site_there).family.same_site x there

  known_same : (x j : ℕ) → x < u.layout.sites → x ≢ w → j ≢ x → known (account_at (handed u r w i) x) r j (Out x) ≡ known (account_at u x) r j (Out x)
  known_same x j there other not_x =
      known_other (account_at (handed u r w i) x) r j (Out x) (λ e. not_x (e ∙ site_now x there))
      ∙ (told_same x other j (Out x)
      ∙ sym (known_other (account_at u x) r j (Out x) (λ e. not_x (e ∙ g.sound.family.same_site x there))))

  -- the writer's site knows no less than it was told
  writer_knows : (j : ℕ) → j ≢ w → known (account_at (handed u r w i) w) r j (Out w) ≡ max (told (account_at u w) r j (Out w)) (shown_by (shape_of u.layout) h.rows r j (Out w))
  writer_knows j not_w =
      known_other (account_at (handed u r w i) w) r j (Out w) (λ e. not_w (e ∙ site_now w g.site_there))
      ∙ (ap (λ c. told c r j (Out w)) h.hears_it
      ∙ ap (λ x. max (told (account_at u w) r j (Out w)) x)
      (same_shown (account_at u w).origin.layout u.layout (g.sound.family.same_records w g.site_there) h.rows r j (Out w)))

  quiet_now : (x j : ℕ) → x < u.layout.sites → j < u.layout.sites → j ≢ x → own (account_at (handed u r w i) j) r (Out x) ≤ known (account_at (handed u r w i) x) r j (Out x)
  quiet_now x j there j_there not_x = at (cases_eq x w) (cases_eq j i)
    where
      at : (x ≡ w) ⊎ (x ≡ w → ⊥) → (j ≡ i) ⊎ (j ≡ i → ⊥) → own (account_at (handed u r w i) j) r (Out x) ≤ known (account_at (handed u r w i) x) r j (Out x)
      at (inr other) place = omega (arith, own_same j x other, known_same x j there other not_x, g.quiet x j there j_there not_x)
      at (inl e) (inl d) =
          subst (λ (y : ℕ). own (account_at (handed u r w i) j) r (Out y) ≤ known (account_at (handed u r w i) y) r j (Out y)) (sym e)
          (subst (λ (z : ℕ). own (account_at (handed u r w i) z) r (Out w) ≤ known (account_at (handed u r w i) w) r z (Out w)) (sym d)
          (omega (arith, writer_knows i apart, h.shows)))
      at (inl e) (inr not_i) =
          let not_w : j ≢ w = λ d. not_x (d ∙ sym e) in
          let before = g.quiet w j g.site_there j_there not_w in
          let old : known (account_at u w) r j (Out w) ≡ told (account_at u w) r j (Out w) =
          known_other (account_at u w) r j (Out w) (λ d. not_w (d ∙ g.sound.family.same_site w g.site_there)) in
          subst (λ (y : ℕ). own (account_at (handed u r w i) j) r (Out y) ≤ known (account_at (handed u r w i) y) r j (Out y)) (sym e)
          (omega (arith, own_w j not_i, writer_knows j not_w, before, old))

  inside_same : (j : ℕ) → inside (account_at (handed u r w i) j) r ≡ inside (account_at u j) r
  inside_same j =
      three_cases j (λ y. inside (account_at (handed u r w i) y) r ≡ inside (account_at u y) r)
      (λ e. h.helps.same_inside) (λ e. ap (λ c. inside c r) h.hears_it) (λ not_i not_w. ap (λ c. inside c r) (h.rest j not_i not_w))

  -- what a site knows of notices, where its own are the same
  notices_same : (cell : Cell) → own (account_at (handed u r w i) i) r cell ≡ own (account_at u i) r cell → (s : ℕ) → known (account_at (handed u r w i) i) r s cell ≡ known (account_at u i) r s cell
  notices_same cell same s = at (cases_eq s i)
    where
      at : (s ≡ i) ⊎ (s ≡ i → ⊥) → known (account_at (handed u r w i) i) r s cell ≡ known (account_at u i) r s cell
      at (inl e) =
          ap (λ x. known (account_at (handed u r w i) i) r x cell) (e ∙ sym (site_now i below)) ∙ (known_own (account_at (handed u r w i) i) r cell
          ∙ (same ∙ (sym (known_own (account_at u i) r cell) ∙ ap (λ x. known (account_at u i) r x cell) (g.sound.family.same_site i below ∙ sym e))))
      at (inr ne) =
          known_other (account_at (handed u r w i) i) r s cell (λ e. ne (e ∙ site_now i below))
          ∙ (told_same i apart s cell ∙ sym (known_other (account_at u i) r s cell (λ e. ne (e ∙ g.sound.family.same_site i below))))

  shown_now : (j : ℕ) → j < u.layout.sites → j ≢ w → IsFirstUnfinished (view_of (account_at (handed u r w i) j)) r w
  shown_now j there not_w = at (cases_eq j i)
    where
      at : (j ≡ i) ⊎ (j ≡ i → ⊥) → IsFirstUnfinished (view_of (account_at (handed u r w i) j)) r w
      at (inl e) =
          let old = g.shown i below apart in
          subst (λ (y : ℕ). IsFirstUnfinished (view_of (account_at (handed u r w i) y)) r w) (sym e)
          (record {
            there = omega (arith, h.helps.same_sites, old.there);
            unfinished = omega (arith, old.unfinished, notices_same Ann h.helps.anns w, notices_same Fin h.helps.fins w);
            least = λ t lower. omega (arith, old.least t lower, notices_same Ann h.helps.anns t, notices_same Fin h.helps.fins t);
          })
      at (inr not_i) = subst (λ (c : Account). IsFirstUnfinished (view_of c) r w) (sym (h.rest j not_i not_w)) (g.shown j there not_w)

  pub gathering_step : IsGathering (handed u r w i) r w
  gathering_step = record {
    sound = sound_handed u r w i g.sound below g.site_there;
    record_there = g.record_there;
    site_there = g.site_there;
    all_known = ap (λ (c : Account). c.sites) h.hears_it ∙ g.all_known;
    empty = λ j there. inside_same j ∙ g.empty j there;
    quiet = quiet_now;
    shown = shown_now;
  }

  -- the helper has no rights left, and who had none has none
  pub emptied : (j : ℕ) → j ≢ w → (j ≡ i) ⊎ (rights_of (view_of (account_at u j)) r ≡ 0) → rights_of (view_of (account_at (handed u r w i) j)) r ≡ 0
  emptied j not_w (inl e) = subst (λ (y : ℕ). rights_of (view_of (account_at (handed u r w i) y)) r ≡ 0) (sym e) h.helps.no_rights
  emptied j not_w (inr none) = at (cases_eq j i)
    where
      at : (j ≡ i) ⊎ (j ≡ i → ⊥) → rights_of (view_of (account_at (handed u r w i) j)) r ≡ 0
      at (inl e) = subst (λ (y : ℕ). rights_of (view_of (account_at (handed u r w i) y)) r ≡ 0) (sym e) h.helps.no_rights
      at (inr not_i) = ap (λ c. rights_of (view_of c) r) (h.rest j not_i not_w) ∙ none

-- where all seats are at one site
all_at_one : (u : World) (r w : ℕ) → IsGathering u r w → ((j : ℕ) → j < u.layout.sites → j ≢ w → rights_of (view_of (account_at u j)) r ≡ 0) → rights_of (view_of (account_at u w)) r ≡ seats_in u.layout r
all_at_one u r w g none =
    let n = u.layout.sites in
    let has = λ (j : ℕ). rights_of (view_of (account_at u j)) r in
    omega (
      arith,
      conserved u.layout (account_at u) r g.sound.layout g.sound.family (sent_before u r g.sound),
      total_zero n (λ j. inside (account_at u j) r) g.empty,
      total_zero n (λ x. total_others n x (λ j. in_flight (account_at u) r j x)) (λ x there.
          total_zero n (λ j. cond (eqb j x) 0 (in_flight (account_at u) r j x)) (λ j j_there. flight x j there j_there (cases_eq j x))),
      total_split n w has g.site_there,
      total_zero n (λ j. cond (eqb j w) 0 (has j)) (λ j there. others j there (cases_eq j w)),
    )
  where
    flight : (x j : ℕ) → x < u.layout.sites → j < u.layout.sites → (j ≡ x) ⊎ (j ≡ x → ⊥) → cond (eqb j x) 0 (in_flight (account_at u) r j x) ≡ 0
    flight x j there j_there (inl e) = cond-true {A = ℕ} (eqb j x) 0 (in_flight (account_at u) r j x) (eq-eqb j x e)
    flight x j there j_there (inr ne) =
        cond-false {A = ℕ} (eqb j x) 0 (in_flight (account_at u) r j x) (ne_eqb j x ne) ∙ omega (arith, g.quiet x j there j_there ne)

    others : (j : ℕ) → j < u.layout.sites → (j ≡ w) ⊎ (j ≡ w → ⊥) → cond (eqb j w) 0 (rights_of (view_of (account_at u j)) r) ≡ 0
    others j there (inl e) = cond-true {A = ℕ} (eqb j w) 0 (rights_of (view_of (account_at u j)) r) (eq-eqb j w e)
    others j there (inr ne) = cond-false {A = ℕ} (eqb j w) 0 (rights_of (view_of (account_at u j)) r) (ne_eqb j w ne) ∙ none j there ne

not_full_here : (u : World) (r i : ℕ) → IsSoundWorld u → i < u.layout.sites → world_reply u (Call i (Help r)) ≢ Core (Refused CounterFull) → reply_of (view_of (account_at u i)) (AskCall (Help r)) ≢ Refused CounterFull
not_full_here u r i sound below not_full e =
    not_full (reply_there u (Call i (Help r)) sound below ∙ ap {B = WorldReply} Core e)

pub gather_all : (others : List ℕ) (u : World) (r w : ℕ) → IsGathering u r w → AllByRecursion (λ i. (i < u.layout.sites) × (i ≢ w)) others → IsNeverFull (replies (gathering r w (length u.sent) others) u) → ((j : ℕ) → j < u.layout.sites → j ≢ w → (rights_of (view_of (account_at u j)) r ≡ 0) ⊎ IsOneOf j others) → rights_of (view_of (account_at (run (gathering r w (length u.sent) others) u) w)) r ≡ seats_in u.layout r
gather_all [] u r w g all never left = all_at_one u r w g (λ j there not_w. none j (left j there not_w))
  where
    none : (j : ℕ) → (rights_of (view_of (account_at u j)) r ≡ 0) ⊎ IsOneOf j [] → rights_of (view_of (account_at u j)) r ≡ 0
    none j (inl e) = e
    none j (inr out) = elim out [ ]
gather_all (i ∷ others) u r w g all never left =
    let below = all.0.0 in
    let apart = all.0.1 in
    let h = is_handed u r w i g below apart (not_full_here u r i g.sound below never.0) in
    let now = three_events u r w i g.sound below g.site_there in
    let next = handed u r w i in
    let more : length next.sent ≡ length u.sent + 1 = length-append u.sent _ in
    let later : IsNeverFull (replies (gathering r w (length next.sent) others) next) =
    subst (λ (k : ℕ). IsNeverFull (replies (gathering r w k others) next)) (sym more)
    (subst (λ (v : World). IsNeverFull (replies (gathering r w (length u.sent + 1) others) v)) now never.1.1.1) in
    ap (λ v. rights_of (view_of (account_at (run (gathering r w (length u.sent + 1) others) v) w)) r) now
    ∙ (ap (λ k. rights_of (view_of (account_at (run (gathering r w k others) next) w)) r) (sym more)
    ∙ gather_all others next r w (gathering_step u r w i g below apart h) all.1 later
    (λ j there not_w. still j not_w (left j there not_w) h))
  where
    still : (j : ℕ) → j ≢ w → (rights_of (view_of (account_at u j)) r ≡ 0) ⊎ IsOneOf j (i ∷ others) → IsHanded u r w i → (rights_of (view_of (account_at (handed u r w i) j)) r ≡ 0) ⊎ IsOneOf j others
    still j not_w (inl none) h = inl (emptied u r w i g all.0.0 all.0.1 h j not_w (inr none))
    still j not_w (inr (inl e)) h = inl (emptied u r w i g all.0.0 all.0.1 h j not_w (inl e))
    still j not_w (inr (inr later)) h = inr later

gathered_help : (u : World) (r w i : ℕ) → IsGathering u r w → i < u.layout.sites → i ≢ w → reply_of (view_of (account_at u i)) (AskCall (Help r)) ≢ Refused CounterFull → IsHelpReply (world_reply u (Call i (Help r)))
gathered_help u r w i g below apart not_full =
    at (help_reply (account_at u i) r w (subst (λ (records : List RecordSpec). r < length records) (sym (g.sound.family.same_records i below)) g.record_there)
    (λ e. apart (sym (e ∙ g.sound.family.same_site i below))) (g.shown i below apart) not_full)
  where
    there : world_reply u (Call i (Help r)) ≡ Core (reply_of (view_of (account_at u i)) (AskCall (Help r)))
    there = reply_there u (Call i (Help r)) g.sound below

    at : (reply_of (view_of (account_at u i)) (AskCall (Help r)) ≡ Gave w (rights_of (view_of (account_at u i)) r)) ⊎ (reply_of (view_of (account_at u i)) (AskCall (Help r)) ≡ Refused NoPlan) → IsHelpReply (world_reply u (Call i (Help r)))
    at (inl e) = inl (w, rights_of (view_of (account_at u i)) r, there ∙ ap {B = WorldReply} Core e)
    at (inr e) = inr (there ∙ ap {B = WorldReply} Core e)

pub gather_answers : (others : List ℕ) (u : World) (r w : ℕ) → IsGathering u r w → AllByRecursion (λ i. (i < u.layout.sites) × (i ≢ w)) others → IsNeverFull (replies (gathering r w (length u.sent) others) u) → AreGathered (replies (gathering r w (length u.sent) others) u)
gather_answers [] u r w g all never = tt
gather_answers (i ∷ others) u r w g all never =
    let below = all.0.0 in
    let apart = all.0.1 in
    let not_full = not_full_here u r i g.sound below never.0 in
    let h = is_handed u r w i g below apart not_full in
    let now = three_events u r w i g.sound below g.site_there in
    let next = handed u r w i in
    let more : length next.sent ≡ length u.sent + 1 = length-append u.sent _ in
    let later : IsNeverFull (replies (gathering r w (length next.sent) others) next) =
    subst (λ (k : ℕ). IsNeverFull (replies (gathering r w k others) next)) (sym more)
    (subst (λ (v : World). IsNeverFull (replies (gathering r w (length u.sent + 1) others) v)) now never.1.1.1) in
    let rest : AreGathered (replies (gathering r w (length next.sent) others) next) =
    gather_answers others next r w (gathering_step u r w i g below apart h) all.1 later in
    let u1 = happens u (Call i (Help r)) in
    let sound_1 = sound_happens u (Call i (Help r)) g.sound in
    let below_1 : i < u1.layout.sites = subst (λ (l : LayoutState). i < l.sites) (sym (run_layout (Call i (Help r) ∷ []) u)) below in
    let sent_2 = two_events u r i g.sound below in
    let sound_2 = sound_told_on u r i g.sound below in
    let longer : length u.sent < length (told_on u r i).sent = omega (arith, length-append u.sent (snapshot_of (view_of (account_at (with_account u i (helper u r i)) i)) ∷ [])) in (
      gathered_help u r w i g below apart not_full,
      (
        (length u1.sent, reply_there u1 (Send i) sound_1 below_1),
        (
          subst (λ (v : World). IsMergedReply (world_reply v (Take w (length u.sent)))) (sym sent_2) (merged (told_on u r i) w (length u.sent) sound_2 g.site_there (ap (λ (c : Account). c.sites) (other_account u i w (helper u r i) (λ e. apart (sym e))) ∙ g.all_known) longer),
          subst (λ (v : World). AreGathered (replies (gathering r w (length u.sent + 1) others) v)) (sym now)
              (subst (λ (k : ℕ). AreGathered (replies (gathering r w k others) next)) more rest),
        ),
      ),
    )
