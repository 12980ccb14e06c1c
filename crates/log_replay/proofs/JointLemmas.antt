-- The joint between two runs.
use Rattle.std.proofs.Common.{◌≡◌, ℕ, ◌≤◌, ◌⊎◌, inl, inr, Bool, true, false, List, [], ◌∷◌, Some, None, refl, sym, ap, subst, ◌∙◌, arith}
use Rattle.std.specs.Prelude.{◌↔◌, IsTrue}
use Rattle.std.proofs.lemmas.Bool.{cases_Bool, cond-false, cond-true, cond_both}
use Rattle.merge_core.specs.Layout.{LayoutState, at_sites}
use Rattle.admission_model.specs.Account.{Account, Origin}
use Rattle.admission_model.specs.Knowledge.{grown, restarted}
use Rattle.admission_model.specs.Reached.{IsReached}
use Rattle.admission_model.proofs.ServingLemmas.{origin_after, sites_after}
use Rattle.admission_core.specs.Core.{Core, Stands}
use Rattle.admission_core.specs.Kept.{DurableState, durable_of}
use Rattle.admission_core.proofs.StandsLemmas.{reached_after}
use Rattle.desk_log.specs.declared.entry.Entry.{Entry}
use Rattle.desk_log.specs.declared.transcript.Run.{Run}
use Rattle.log_replay.specs.Legal.{is_same_part, Begins}
use Rattle.log_replay.specs.Replay.{settled, tried_at, FitsNext, IsJoint, IsKept}
use Rattle.log_replay.proofs.SameLemmas.{part_from, part_same}

-- a test that tells whether parts are equal is their comparison
pub same_test : (b : Bool) (d e : DurableState) → IsTrue b ↔ (d ≡ e) → b ≡ is_same_part d e
same_test true d e tells = sym (part_same d e (tells.0 refl))
same_test false d e tells = at (cases_Bool (is_same_part d e))
  where
    at : (is_same_part d e ≡ true) ⊎ (is_same_part d e ≡ false) → false ≡ is_same_part d e
    at (inl same) = absurd (let wrong : false ≡ true = tells.1 (part_from d e same) in cc)
    at (inr other) = sym other

-- a call in doubt changes neither the beginning nor the number of sites
tried_origin : (b : Account) (left : List Entry) → (tried_at b left).origin ≡ b.origin
tried_origin b [] = refl
tried_origin b (e ∷ later) = origin_after b e.call

tried_sites : (b : Account) (left : List Entry) → (tried_at b left).sites ≡ b.sites
tried_sites b [] = refl
tried_sites b (e ∷ later) = sites_after b e.call

tried_reached : (b : Account) (left : List Entry) → IsReached b → IsReached (tried_at b left)
tried_reached b [] reached = reached
tried_reached b (e ∷ later) reached = reached_after b e.call reached

module _ (b : Account) (left : List Entry) (run : Run) where
  settled_origin : (settled b (tried_at b left) run).origin ≡ b.origin
  settled_origin =
      cond_both (is_same_part run.first (durable_of (tried_at b left))) (tried_at b left) b (λ (x : Account). x.origin ≡ b.origin) (λ is. tried_origin b left) (λ is. refl)

  settled_sites : (settled b (tried_at b left) run).sites ≡ b.sites
  settled_sites =
      cond_both (is_same_part run.first (durable_of (tried_at b left))) (tried_at b left) b (λ (x : Account). x.sites ≡ b.sites) (λ is. tried_sites b left) (λ is. refl)

  settled_reached : IsReached b → IsReached (settled b (tried_at b left) run)
  settled_reached reached =
      cond_both (is_same_part run.first (durable_of (tried_at b left))) (tried_at b left) b IsReached (λ is. tried_reached b left reached) (λ is. reached)

  -- the run has fewer sites than the site knew, or a number of sites that the site can't know
  pub none_fits : (layout : LayoutState) (core : Core) → Stands b core → (¬ FitsNext layout core run.sites) → ¬ Begins layout core.site (settled b (tried_at b left) run) run
  none_fits layout core stands unfit begins =
      let knew : core.layout.sites ≡ b.sites = ap (λ (l : LayoutState). l.sites) stands.shows.layout in
      unfit (record {
        no_fewer = omega (arith, knew, settled_sites, begins.no_fewer);
        fits = record { site_there = begins.site_there; no_more = begins.no_more; records_fit = begins.records_fit };
      })

  -- it begins with neither part
  pub none_first : (layout : LayoutState) (i : ℕ) → IsKept b (tried_at b left) run.first None → ¬ Begins layout i (settled b (tried_at b left) run) run
  none_first layout i neither begins =
      let test : is_same_part run.first (durable_of (tried_at b left)) ≡ false = sym (same_test false run.first (durable_of (tried_at b left)) ((λ (wrong : false ≡ true). cc), λ same. absurd (neither.0 same))) in
      let here : settled b (tried_at b left) run ≡ b = cond-false (is_same_part run.first (durable_of (tried_at b left))) (tried_at b left) b test in
      neither.1 (begins.first_part ∙ ap durable_of here)

  -- it begins with the part of the settled account
  first_is : (kept : Bool) → IsTrue kept ↔ (run.first ≡ durable_of (tried_at b left)) → (kept ≡ false → run.first ≡ durable_of b) → run.first ≡ durable_of (settled b (tried_at b left) run)
  first_is kept tells without =
      cond_both (is_same_part run.first (durable_of (tried_at b left))) (tried_at b left) b (λ (x : Account). run.first ≡ durable_of x)
      (λ is. part_from run.first (durable_of (tried_at b left)) is)
      (λ is. without (same_test kept run.first (durable_of (tried_at b left)) tells ∙ is))

  -- what was kept tells which part it is
  kept_tells : (kept : Bool) → IsKept b (tried_at b left) run.first (Some kept) → IsTrue kept ↔ (run.first ≡ durable_of (tried_at b left))
  kept_tells true is = ((λ _. is), λ _. refl)
  kept_tells false is = ((λ (wrong : false ≡ true). cc), λ same. absurd (is.0 same))

  kept_without : (kept : Bool) → IsKept b (tried_at b left) run.first (Some kept) → kept ≡ false → run.first ≡ durable_of b
  kept_without true is lost = let both : true ≡ false = lost in cc
  kept_without false is lost = is.1

  pub joint_some : (layout : LayoutState) (core : Core) (under : LayoutState) (kept : Bool) (c : Core) → Stands b core → core.layout.records ≡ layout.records → FitsNext layout core run.sites → under ≡ at_sites run.sites layout
      → IsKept b (tried_at b left) run.first (Some kept)
      → ((a : Account) → IsReached a → under ≡ at_sites under.sites a.origin.layout → a.sites ≤ under.sites → core.site ≡ a.origin.site → run.first ≡ durable_of a → Stands (grown under.sites a) c)
      → IsJoint layout core.site b (tried_at b left) run (Some (c, kept))
  joint_some layout core under kept c stands records next is keeps restored =
      let tells = kept_tells kept keeps in
      let without = kept_without kept keeps in
      let fits = next.fits in
      let knew : core.layout.sites ≡ b.sites = ap (λ (l : LayoutState). l.sites) stands.shows.layout in
      let same_records : core.layout.records ≡ b.origin.layout.records = ap (λ (l : LayoutState). l.records) stands.shows.layout in
      let a = settled b (tried_at b left) run in
      let first = first_is kept tells without in
      let number : under.sites ≡ run.sites = ap (λ (l : LayoutState). l.sites) is in
      let origin_records : a.origin.layout.records ≡ layout.records = ap (λ (o : Origin). o.layout.records) settled_origin ∙ (sym same_records ∙ records) in
      let origin_site : a.origin.site ≡ core.site = ap (λ (o : Origin). o.site) settled_origin ∙ sym stands.shows.site in
      let whole : under ≡ at_sites under.sites a.origin.layout = is ∙ (λ k. record { sites = sym number k; records = sym origin_records k }) in
      let more : a.sites ≤ run.sites = omega (arith, settled_sites, knew, next.no_fewer) in
      let begun : Stands (grown under.sites a) c = restored a (settled_reached stands.reached) whole (omega (arith, number, more)) (sym origin_site) first in (
        record { site_there = fits.site_there; no_fewer = more; no_more = fits.no_more; records_fit = fits.records_fit; first_part = first },
        same_test kept run.first (durable_of (tried_at b left)) tells,
        subst (λ (n : ℕ). Stands (grown n a) c) number begun,
      )

-- a run behind one without a call in doubt, at as many sites, begins with what the site leaves, and the site was started again
pub joint_restarted : (b : Account) (run : Run) (layout : LayoutState) (core c : Core) → Stands b core → FitsNext layout core run.sites → core.layout.sites ≡ run.sites
    → run.first ≡ durable_of b → Stands (restarted b) c → IsJoint layout core.site b b run (Some (c, true))
joint_restarted b run layout core c stands next number first again =
    let same : is_same_part run.first (durable_of b) ≡ true = part_same run.first (durable_of b) first in
    let here : settled b b run ≡ b = cond-true (is_same_part run.first (durable_of b)) b b same in
    let knew : core.layout.sites ≡ b.sites = ap (λ (l : LayoutState). l.sites) stands.shows.layout in
    let fits = next.fits in
    let begins : Begins layout core.site b run = record {
      site_there = fits.site_there;
      no_fewer = omega (arith, knew, next.no_fewer);
      no_more = fits.no_more;
      records_fit = fits.records_fit;
      first_part = first;
    } in
    let begun : Stands (grown run.sites b) c = subst (λ (n : ℕ). Stands (grown n b) c) (sym knew ∙ number) again in
    subst (λ (x : Account). Begins layout core.site x run × (true ≡ is_same_part run.first (durable_of b)) × Stands (grown run.sites x) c) (sym here) (begins, sym same, begun)
