-- Deltas that were sent build the site that the world has.
use Rattle.std.proofs.Common.{◌≡◌, ℕ, ◌<◌, ◌≤◌, ◌⊎◌, inl, inr, true, false, cond, eqb, ltb, List, [], ◌∷◌, length, Result, Ok, Err, refl, sym, ap, subst, ◌∙◌, arith}
use Rattle.std.specs.List.{AllByRecursion}
use Rattle.std.proofs.lemmas.List.{length-set}
use Rattle.admission_model.proofs.OrderLemmas.{move_all}
use Rattle.std.proofs.lemmas.Bool.{cases_eq, cases_Bool, eq-eqb, eqb-true, ne_eqb, cond-true, cond-false, or_left, or_right, or_from, false≢true, lt-ltb}
use Rattle.std.proofs.lemmas.List.Elements.{All-from_recursion}
use Rattle.merge_core.specs.Counts.{counter_limit}
use Rattle.merge_core.specs.declared.cell.Cell.{Cell}
use Rattle.merge_core.specs.declared.cell.Cell.TheVariants.{Out}
use Rattle.merge_core.specs.Delta.{DeltaState}
use Rattle.merge_core.specs.Rows.{grant}
use Rattle.merge_core.proofs.SumLemmas.{total_le}
use Rattle.merge_core.specs.Layout.{LayoutState, shape_of, at_sites}
use Rattle.merge_core.specs.Check.{IsChecked}
use Rattle.admission_model.specs.Account.{Account, Origin, begin}
use Rattle.admission_model.specs.Knowledge.{restarted}
use Rattle.admission_model.specs.Sound.{IsOrigin}
use Rattle.admission_core.specs.Core.{Core, Stands}
use Rattle.multi_site_world.specs.declared.event.Event.TheVariants.{Restart}
use Rattle.multi_site_world.specs.World.{World, account_at, with_account, world_here, happens}
use Rattle.rebuild_laws.specs.Groups.{IsSentDelta, Losing, lost_alone, Stage, Loss, MayRebuild, MayLose, IsRebuiltWorld, told_most, told_settled, rebuilt_row, rebuilt_origin, still_silent, world_waiting, world_settled}
use Rattle.multi_site_world.proofs.WorldLemmas.{same_account}
use Rattle.rebuild_laws.proofs.RebuildLaw.{rebuilt_told, rebuilt_shown, rebuilt_waiting, rebuilt_begins, rebuilt_idle, told_checked}
use Rattle.rebuild_laws.specs.Settling.{lacking, settlement, settling}
use Rattle.rebuild_laws.proofs.IdleLemmas.{IsIdle}
use Rattle.rebuild_laws.proofs.MostLemmas.{told_same}
use Rattle.rebuild_laws.proofs.SettlingLemmas.{settled_none}
use Rattle.site_rebuild.proofs.ActingLemmas.{all_of_site, teller_of_site}
use Rattle.site_rebuild.specs.declared.rebuilding.RebuildError.{RebuildError}
use Rattle.site_rebuild.specs.declared.rebuilding.RebuildError.TheVariants.{BadSite, NoDelta, BadDelta, CounterFull, Acted, Apart, Memory}
use Rattle.site_rebuild.specs.Rebuilt.{of_site, IsFit, IsUnused, gone_of, settled_by, origin_of, IsWithin, AreSettledBy, IsRebuilt, IsBuiltAgain}

-- an account that was put at a site, once it is started
started : (v : World) (d : ℕ) (a : Account) → d < length v.sites → account_at (happens (with_account v d a) (Restart d)) d ≡ restarted a
started v d a there =
    let b = with_account v d a in
    let again : d < length b.sites = omega (arith, there, length-set v.sites d a) in
    ap (λ (y : World). account_at y d) (cond-true (ltb d (length b.sites)) (world_here b (Restart d)) b (lt-ltb d (length b.sites) again))
    ∙ (same_account b d (restarted (account_at b d)) again ∙ ap restarted (same_account v d a there))

-- each site that a list names
all_named : (lost : List ℕ) (n : ℕ) → ((i : ℕ) → gone_of lost i ≡ true → i < n) → AllByRecursion (λ s. s < n) lost
all_named [] n there = tt
all_named (x ∷ xs) n there = (
  there x (or_left (eqb x x) (gone_of xs x) (eq-eqb x x refl)),
  all_named xs n (λ i e. there i (or_right (eqb x i) (gone_of xs i) e)),
)

-- deltas of the group's sites that its books take
all_fit : (w : World) (loss : Loss) (ds : List DeltaState) → AllByRecursion (λ m. (m.from < loss.sites) × (loss.lost.gone m.from ≡ false)) ds → AllByRecursion (λ m. IsChecked (shape_of (at_sites loss.sites w.layout)) m.rows) ds → AllByRecursion (IsFit (shape_of (at_sites loss.sites w.layout))) ds
all_fit w loss [] others checked = tt
all_fit w loss (d ∷ ds) others checked = (record { from_there = others.0.0; checked = checked.0 }, all_fit w loss ds others.1 checked.1)

module _ (w : World) (is : IsRebuiltWorld w) (loss : Loss) (may : MayLose w loss) (stage : Stage) (next : MayRebuild loss.lost.gone loss.sites (still_silent loss.lost.gone loss.stages) (world_settled w loss) stage) (lost : List ℕ) (settles : AreSettledBy (at_sites loss.sites w.layout) loss.lost lost stage.told) where
  place : stage.lost < length (world_waiting (world_settled w loss) stage).sites
  place =
      let at_stage = rebuilt_waiting w is loss may stage next in
      omega (arith, next.there, may.moves.few, at_stage.sound.number, ap (λ (l : LayoutState). l.sites) at_stage.later.same_layout)

  origin_same : origin_of (at_sites loss.sites w.layout) (gone_of lost) stage.lost stage.told ≡ rebuilt_origin (at_sites loss.sites w.layout) loss.lost.settled stage.lost stage.told
  origin_same =
      let same : settled_by (at_sites loss.sites w.layout) (gone_of lost) (told_most (shape_of (at_sites loss.sites w.layout)) stage.told) ≡ loss.lost.settled = λ k r d j. settles.same_settled r d j k in
      ap (λ (f : ℕ → ℕ → ℕ → ℕ). rebuilt_origin (at_sites loss.sites w.layout) f stage.lost stage.told) same

  may_begin : IsOrigin (origin_of (at_sites loss.sites w.layout) (gone_of lost) stage.lost stage.told)
  may_begin = subst IsOrigin (sym origin_same) (rebuilt_begins w is loss may stage next)

  unused : IsUnused (at_sites loss.sites w.layout) (gone_of lost) stage.lost stage.told (told_most (shape_of (at_sites loss.sites w.layout)) stage.told)
  unused = record {
    none_of_lost = All-from_recursion (λ m. gone_of lost m.from ≡ false) stage.told
        (move_all (λ m. (m.from < loss.sites) × (loss.lost.gone m.from ≡ false)) (λ m. gone_of lost m.from ≡ false) (λ m it. settles.same_lost m.from ∙ it.1) stage.told next.told.others);
    rows = λ r low.
        let it = rebuilt_told w is loss may stage next r in
        record {
          none_taken = it.0;
          none_returned = it.1.0;
          settled = λ j below e ne. omega (arith, it.1.1 j (sym (settles.same_lost j) ∙ e) ne, settles.same_settled r stage.lost j);
        };
    shown = λ j below e r low.
        rebuilt_shown w is loss may stage next (of_site j stage.told) (all_of_site (IsSentDelta (world_waiting (world_settled w loss) stage).sent) j stage.told next.told.sent) j below (sym (settles.same_lost j) ∙ e)
        (teller_of_site j stage.told (next.told.each j below (sym (settles.same_lost j) ∙ e))) r;
  }

  pub genuine : (answer : Result Core RebuildError) → IsRebuilt (at_sites loss.sites w.layout) lost stage.lost stage.told answer → IsBuiltAgain (at_sites loss.sites w.layout) loss.lost.settled (world_settled w loss) stage lost answer
  genuine (Ok core) told =
      subst (λ (a : Account). Stands a core)
      (sym (started (world_waiting (world_settled w loss) stage) stage.lost (begin (rebuilt_origin (at_sites loss.sites w.layout) loss.lost.settled stage.lost stage.told)) place))
      (subst (λ (o : Origin). Stands (restarted (begin o)) core) origin_same (told.1.1.1.1.1.1 may_begin))
  genuine (Err BadSite) told =
      told (record {
        there = next.there;
        named = settles.same_lost stage.lost ∙ next.is_lost;
        all = All-from_recursion (λ s. s < loss.sites) lost (all_named lost loss.sites (λ i e. may.moves.lost_there i (sym (settles.same_lost i) ∙ e)));
      })
  genuine (Err (NoDelta i)) told = told.1.none (next.told.each i told.1.there (sym (settles.same_lost i) ∙ told.1.is_left))
  genuine (Err (BadDelta k)) told =
      let none : DeltaState = record { from = 0; rows = [] } in
      told.1.1.unfit none (All-from_recursion (IsFit (shape_of (at_sites loss.sites w.layout))) stage.told (all_fit w loss stage.told next.told.others (told_checked w is loss may stage next)) k none told.1.1.there)
  genuine (Err CounterFull) told = told.1.1.1
  genuine (Err Acted) told = told.1.1.1.1 unused
  genuine (Err Apart) told = told.1.1.1.1.1.1 may_begin
  genuine (Err Memory) told = tt

-- of one lost site
module _ (layout : LayoutState) (d : ℕ) (ds : List DeltaState) where
  abbrev told : ℕ → ℕ → Cell → ℕ
  told = told_most (shape_of layout) ds

  only : (i : ℕ) → gone_of (d ∷ []) i ≡ true → i ≡ d
  only i e = sym (eqb-true d i (named_first i e))
    where
      named_first : (k : ℕ) → gone_of (d ∷ []) k ≡ true → eqb d k ≡ true
      named_first k f = at (cases_Bool (eqb d k)) f
        where
          at : (eqb d k ≡ true) ⊎ (eqb d k ≡ false) → gone_of (d ∷ []) k ≡ true → eqb d k ≡ true
          at (inl g) h = g
          at (inr g) h = absurd (false≢true (sym (or_from (eqb d k) false g refl) ∙ h))

  pub settles_alone : AreSettledBy layout (lost_alone d) (d ∷ []) ds
  settles_alone = record {
    same_lost = λ i. same i (cases_eq i d);
    same_settled = λ r e j. settled_none (shape_of layout) (gone_of (d ∷ [])) layout.sites (told_most (shape_of layout) ds) d only r e j;
  }
    where
      same : (i : ℕ) → (i ≡ d) ⊎ (i ≡ d → ⊥) → gone_of (d ∷ []) i ≡ eqb i d
      same i (inl e) = or_left (eqb d i) false (eq-eqb d i (sym e)) ∙ sym (eq-eqb i d e)
      same i (inr ne) = or_from (eqb d i) false (ne_eqb d i (λ e. ne (sym e))) refl ∙ sym (ne_eqb i d ne)

  -- a site that may begin so lacks no seats
  pub within_alone : IsIdle layout d (rebuilt_origin layout (lost_alone d).settled d ds).base.counters → IsWithin layout (gone_of (d ∷ [])) (told_most (shape_of layout) ds)
  within_alone idle r low i below lost =
      subst (λ (k : ℕ). lacking (shape_of layout) (gone_of (d ∷ [])) layout.sites (told_most (shape_of layout) ds) r k ≤ counter_limit) (sym (only i lost))
      (omega (arith, idle.affordable r, total_le layout.sites (λ j. cond (gone_of (d ∷ []) j) 0 (told r d (Out j))) (λ j. cond (eqb j d) 0 (counters r d (Out j))) (λ j there. row j (cases_eq j d)), total_le layout.sites (λ j. cond (eqb j d) 0 (counters r j (Out d))) (λ j. cond (gone_of (d ∷ []) j) 0 (told r j (Out d))) (λ j there. column j (cases_eq j d))))
    where
      counters : ℕ → ℕ → Cell → ℕ
      counters = (rebuilt_origin layout (lost_alone d).settled d ds).base.counters

      row : (j : ℕ) → (j ≡ d) ⊎ (j ≡ d → ⊥) → cond (gone_of (d ∷ []) j) 0 (told r d (Out j)) ≤ cond (eqb j d) 0 (counters r d (Out j))
      row j (inl e) = omega (arith, cond-true {A = ℕ} (gone_of (d ∷ []) j) 0 (told r d (Out j)) (or_left (eqb d j) false (eq-eqb d j (sym e))))
      row j (inr ne) =
          omega (
            arith,
            cond-false {A = ℕ} (gone_of (d ∷ []) j) 0 (told r d (Out j)) (or_from (eqb d j) false (ne_eqb d j (λ e. ne (sym e))) refl),
            cond-false {A = ℕ} (eqb j d) 0 (counters r d (Out j)) (ne_eqb j d ne),
            cond-true {A = ℕ} (eqb d d) (rebuilt_row (shape_of layout) d (told_settled (lost_alone d).settled told) r (Out j)) (told_settled (lost_alone d).settled told r d (Out j)) (eq-eqb d d refl),
            cond-false {A = ℕ} (eqb j d) (grant (shape_of layout) r d) (told_settled (lost_alone d).settled told r d (Out j)) (ne_eqb j d ne),
          )

      column : (j : ℕ) → (j ≡ d) ⊎ (j ≡ d → ⊥) → cond (eqb j d) 0 (counters r j (Out d)) ≤ cond (gone_of (d ∷ []) j) 0 (told r j (Out d))
      column j (inl e) = omega (arith, cond-true {A = ℕ} (eqb j d) 0 (counters r j (Out d)) (eq-eqb j d e))
      column j (inr ne) =
          omega (
            arith,
            cond-false {A = ℕ} (gone_of (d ∷ []) j) 0 (told r j (Out d)) (or_from (eqb d j) false (ne_eqb d j (λ e. ne (sym e))) refl),
            cond-false {A = ℕ} (eqb j d) 0 (counters r j (Out d)) (ne_eqb j d ne),
            cond-false {A = ℕ} (eqb j d) (rebuilt_row (shape_of layout) d (told_settled (lost_alone d).settled told) r (Out d)) (told_settled (lost_alone d).settled told r j (Out d)) (ne_eqb j d ne),
          )

pub genuine_alone : (w : World) → IsRebuiltWorld w → (loss : Loss) → MayLose w loss → (stage : Stage) → MayRebuild loss.lost.gone loss.sites (still_silent loss.lost.gone loss.stages) (world_settled w loss) stage → loss.lost ≡ lost_alone stage.lost → AreSettledBy (at_sites loss.sites w.layout) loss.lost (stage.lost ∷ []) stage.told × IsWithin (at_sites loss.sites w.layout) (gone_of (stage.lost ∷ [])) (told_most (shape_of (at_sites loss.sites w.layout)) stage.told)
genuine_alone w is loss may stage next alone = (
  subst (λ (l : Losing). AreSettledBy (at_sites loss.sites w.layout) l (stage.lost ∷ []) stage.told) (sym alone) (settles_alone (at_sites loss.sites w.layout) stage.lost stage.told),
  within_alone (at_sites loss.sites w.layout) stage.lost stage.told
      (subst (λ (l : Losing). IsIdle (at_sites loss.sites w.layout) stage.lost (rebuilt_origin (at_sites loss.sites w.layout) l.settled stage.lost stage.told).base.counters) alone (rebuilt_idle w is loss may stage next)),
)

-- what the deltas settle that all lost sites are built of
pub settles_together : (layout : LayoutState) (n : ℕ) (lost : List ℕ) (ds : List DeltaState) → AreSettledBy (at_sites n layout) (settling (shape_of layout) (gone_of lost) n (told_most (shape_of layout) ds)) lost ds
settles_together layout n lost ds = record {
  same_lost = λ i. refl;
  same_settled = λ r d j. ap (λ (f : ℕ → ℕ → Cell → ℕ). settlement (shape_of layout) (gone_of lost) n f r d j) same;
}
  where
    same : told_most (shape_of (at_sites n layout)) ds ≡ told_most (shape_of layout) ds
    same = λ k r s cell. told_same layout n ds r s cell k
