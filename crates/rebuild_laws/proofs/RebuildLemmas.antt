-- A site that is built again from a delta of each other one leaves a sound world.
use Rattle.std.proofs.Common.{◌≡◌, ◌≢◌, ℕ, ◌<◌, ◌≤◌, ◌⊎◌, inl, inr, Bool, true, false, cond, eqb, List, [], ◌∷◌, length, refl, sym, ap, subst, ◌∙◌, arith}
use Rattle.std.specs.List.{AllByRecursion}
use Rattle.std.proofs.lemmas.Bool.{cases_eq, cases_lt, eq-eqb, ne_eqb, cond-true, cond-false, cond_both, cases_Bool, false≢true}
use Rattle.merge_core.specs.declared.cell.Cell.{Cell}
use Rattle.merge_core.specs.declared.cell.Cell.TheVariants.{Out, Taken, Ann, Fin}
use Rattle.merge_core.specs.declared.delta.Row.{Row}
use Rattle.merge_core.specs.Delta.{DeltaState}
use Rattle.merge_core.specs.declared.layout.RecordSpec.{RecordSpec}
use Rattle.merge_core.specs.Layout.{LayoutState, shape_of, at_sites}
use Rattle.merge_core.specs.Rows.{grant, start_counter}
use Rattle.merge_core.specs.Changes.{keeps_counter}
use Rattle.merge_core.specs.Check.{IsChecked}
use Rattle.admission_model.specs.Account.{Account, Origin, begin, own}
use Rattle.admission_model.specs.Knowledge.{known, restarted}
use Rattle.admission_model.specs.Sound.{FitsRow, IsSound}
use Rattle.admission_model.proofs.SumLemmas.{total_others_more}
use Rattle.admission_model.proofs.RowLemmas.{FitsRow-along, start_below, start_elsewhere}
use Rattle.admission_model.proofs.HeardLemmas.{kept_row, kept_column}
use Rattle.multi_site_world.specs.World.{World, account_at, with_account}
use Rattle.rebuild_laws.specs.Groups.{IsTeller, Losing, left_row, left_origin, new_group, told_most, told_settled, rebuilt_row, rebuilt_counters, rebuilt_origin, IsSentDelta, AreTold, MayMove}
use Rattle.multi_site_world.proofs.FamilyLemmas.{row_fits}
use Rattle.multi_site_world.proofs.WorldLemmas.{IsSoundWorld, IsMessage, IsNext, sound_with}
use Rattle.multi_site_world.proofs.EventLemmas.{message_at}
use Rattle.rebuild_laws.proofs.IdleLemmas.{others_le, IsIdle, idle_origin, sound_idle}
use Rattle.rebuild_laws.proofs.GroupLemmas.{writers_most, left_diagonal, left_sent, left_settled, left_past, own_known, own_left, moved_lost, moved_other}
use Rattle.rebuild_laws.proofs.TellingLemmas.{known_kept, IsNarrow, IsLater}
use Rattle.rebuild_laws.proofs.MostLemmas.{messages, most_done, most_fits, most_past_records, most_past_rows, told_same, sent_checked, most_kept}

-- nobody past the group's sites was sent anything by a lost site
left_late : (w : World) (l : Losing) (d n : ℕ) → IsSoundWorld w → MayMove w l n → l.gone d ≡ true → (r j : ℕ) → n ≤ j → left_row w l d r (Out j) ≡ 0
left_late w l d n sound moves lost r j past = at (cases_Bool (l.gone j)) (cases_lt j w.layout.sites)
  where
    lower : d < n
    lower = moves.lost_there d lost

    apart : j ≢ d
    apart e = absurd (omega (arith, lower))

    low : (i : ℕ) → l.gone i ≡ true → i < w.layout.sites
    low i e = omega (arith, moves.lost_there i e, moves.few)

    at : (l.gone j ≡ true) ⊎ (l.gone j ≡ false) → (j < w.layout.sites) ⊎ (w.layout.sites ≤ j) → left_row w l d r (Out j) ≡ 0
    at (inl e) somewhere = absurd (omega (arith, moves.lost_there j e))
    at (inr e) (inl below) =
        omega (arith, left_sent w l sound low moves.settled r d j apart e, moves.unbegun j past below r d (Out j), start_elsewhere (shape_of w.layout) r d j apart)
    at (inr e) (inr beyond) = left_past w l sound low moves.settled r d j lost beyond

-- a world of the new group while some lost sites are silent
pub record IsStage (w : World) (l : Losing) (n : ℕ) (silent : ℕ → Bool) (v : World) : Type 0 where
  pub sound : IsSoundWorld v
  pub later : IsLater l.gone (new_group w l) v
  pub silent_gone : (i : ℕ) → silent i ≡ true → l.gone i ≡ true
  pub is_silent : (i : ℕ) → i < w.layout.sites → silent i ≡ true → account_at v i ≡ begin (left_origin w l i)
  pub quiet : (i : ℕ) → n ≤ i → i < w.layout.sites → account_at v i ≡ restarted (account_at w i)

-- a world of the new group, in which the lost site d is silent, and deltas that were sent there
module _ (w : World) (l : Losing) (n : ℕ) (sound_w : IsSoundWorld w) (moves : MayMove w l n) (silent : ℕ → Bool) (v : World) (at_stage : IsStage w l n silent v) (d : ℕ) (was : silent d ≡ true) (ds : List DeltaState) (none_more : (i : ℕ) → i < n → silent i ≡ false → (account_at v i).sites ≤ n) (are : AreTold v l.gone n ds) where
  sound : IsSoundWorld v
  sound = at_stage.sound

  later : IsLater l.gone (new_group w l) v
  later = at_stage.later

  lost : l.gone d ≡ true
  lost = at_stage.silent_gone d was

  lower : d < n
  lower = moves.lost_there d lost

  low : (i : ℕ) → l.gone i ≡ true → i < w.layout.sites
  low i e = omega (arith, moves.lost_there i e, moves.few)

  below : d < v.layout.sites
  below = subst (λ (x : LayoutState). d < x.sites) (sym later.same_layout) (low d lost)

  all : AllByRecursion (IsMessage v.layout (account_at v)) ds
  all = messages v sound ds are.sent

  -- what is told and settled
  abbrev told_of : ℕ → ℕ → Cell → ℕ
  told_of = told_settled l.settled (told_most (shape_of v.layout) ds)

  -- a lost site's row has not fallen, and a silent one's stays
  own_lost : (i r : ℕ) (cell : Cell) → l.gone i ≡ true → left_row w l i r cell ≤ own (account_at v i) r cell
  own_lost i r cell e =
      omega (
        arith,
        ap (λ (a : Account). own a r cell) (moved_lost w l i (low i e) e),
        own_left w l sound_w low moves.settled i e r cell,
        later.grows i (low i e) r cell,
      )

  own_of_silent : (i : ℕ) → silent i ≡ true → (r : ℕ) (cell : Cell) → own (account_at v i) r cell ≡ left_row w l i r cell
  own_of_silent i e r cell =
      let gone = at_stage.silent_gone i e in
      ap (λ (a : Account). own a r cell) (at_stage.is_silent i (low i gone) e) ∙ own_left w l sound_w low moves.settled i gone r cell

  own_silent : (r : ℕ) (cell : Cell) → own (account_at v d) r cell ≡ left_row w l d r cell
  own_silent = own_of_silent d was

  -- what is settled was done
  settled_done : (s r j : ℕ) → l.settled r s j ≤ own (account_at v s) r (Out j)
  settled_done s r j = at (cases_Bool (l.gone s)) (cases_Bool (l.gone j)) (cases_eq j s)
    where
      at : (l.gone s ≡ true) ⊎ (l.gone s ≡ false) → (l.gone j ≡ true) ⊎ (l.gone j ≡ false) → (j ≡ s) ⊎ (j ≡ s → ⊥) → l.settled r s j ≤ own (account_at v s) r (Out j)
      at (inr e) other somewhere = omega (arith, moves.settled.by_lost r s j e)
      at (inl e) (inr f) somewhere = omega (arith, moves.settled.to_lost r s j f)
      at (inl e) (inl f) (inl same) = omega (arith, ap (λ (k : ℕ). l.settled r s k) same, moves.settled.to_others r s)
      at (inl e) (inl f) (inr ne) = omega (arith, left_settled w l sound_w low moves.settled r s j ne f, own_lost s r (Out j) e)

  told_done : (s : ℕ) → s < v.layout.sites → (r : ℕ) (cell : Cell) → told_of r s cell ≤ own (account_at v s) r cell
  told_done s there r (Out j) = omega (arith, most_done v sound ds all s there r (Out j), settled_done s r j)
  told_done s there r Taken = most_done v sound ds all s there r Taken
  told_done s there r Ann = most_done v sound ds all s there r Ann
  told_done s there r Fin = most_done v sound ds all s there r Fin

  told_fits : (r s : ℕ) → FitsRow (grant (shape_of v.layout) r s) s (told_of r s)
  told_fits r s =
      let it = most_fits v sound ds all r s in
      record {
        grant_kept = omega (arith, it.grant_kept);
        returned_after_taken = omega (arith, it.returned_after_taken, moves.settled.to_others r s);
        few_taken = it.few_taken;
        few_moved = λ j apart. omega (arith, it.few_moved j apart, moves.settled.few r s j);
        finished_after_announced = it.finished_after_announced;
        few_announced = it.few_announced;
      }

  told_past_records : (r s : ℕ) (cell : Cell) → length v.layout.records ≤ r → told_of r s cell ≡ 0
  told_past_records r s cell past = at cell
    where
      most : (c : Cell) → told_most (shape_of v.layout) ds r s c ≡ 0
      most c = most_past_records v sound ds all r s c past

      at : (c : Cell) → told_of r s c ≡ 0
      at (Out j) =
          omega (arith, most (Out j), moves.settled.of_records r s j (subst (λ (x : LayoutState). length x.records ≤ r) later.same_layout past))
      at Taken = most Taken
      at Ann = most Ann
      at Fin = most Fin

  granted : (r : ℕ) → grant (shape_of v.layout) r d ≡ grant (shape_of w.layout) r d
  granted r = ap (λ (x : LayoutState). grant (shape_of x) r d) later.same_layout

  rebuilt_diagonal : (r : ℕ) → rebuilt_row (shape_of v.layout) d told_of r (Out d) ≡ grant (shape_of v.layout) r d
  rebuilt_diagonal r = cond-true {A = ℕ} (eqb d d) (grant (shape_of v.layout) r d) (told_of r d (Out d)) (eq-eqb d d refl)

  rebuilt_sent : (r j : ℕ) → j ≢ d → rebuilt_row (shape_of v.layout) d told_of r (Out j) ≡ told_of r d (Out j)
  rebuilt_sent r j apart = cond-false {A = ℕ} (eqb j d) (grant (shape_of v.layout) r d) (told_of r d (Out j)) (ne_eqb j d apart)

  -- the row that is built is no more than the silent site's ..
  no_more : (r : ℕ) (cell : Cell) → rebuilt_row (shape_of v.layout) d told_of r cell ≤ left_row w l d r cell
  no_more r (Out j) = at (cases_eq j d)
    where
      at : (j ≡ d) ⊎ (j ≡ d → ⊥) → rebuilt_row (shape_of v.layout) d told_of r (Out j) ≤ left_row w l d r (Out j)
      at (inl e) =
          subst (λ (x : ℕ). rebuilt_row (shape_of v.layout) d told_of r (Out x) ≤ left_row w l d r (Out x)) (sym e)
          (omega (arith, rebuilt_diagonal r, left_diagonal w l sound_w low moves.settled r d, granted r))
      at (inr ne) = omega (arith, rebuilt_sent r j ne, told_done d below r (Out j), own_silent r (Out j))
  no_more r Taken = omega arith
  no_more r Ann = omega (arith, told_done d below r Ann, own_silent r Ann)
  no_more r Fin = omega (arith, told_done d below r Ann, own_silent r Ann)

  -- a site that has not begun did nothing
  own_late : (i : ℕ) → n ≤ i → i < w.layout.sites → (r : ℕ) (cell : Cell) → own (account_at v i) r cell ≤ start_counter (shape_of v.layout) r i cell
  own_late i past there r cell =
      omega (
        arith,
        ap (λ (b : Account). own b r cell) (at_stage.quiet i past there),
        own_known w i sound_w there r cell,
        moves.unbegun i past there r i cell,
        ap (λ (x : LayoutState). start_counter (shape_of x) r i cell) later.same_layout,
      )

  -- nothing is settled with sites past the group's
  settled_late : (r s j : ℕ) → n ≤ s → l.settled r s j ≡ 0
  settled_late r s j past = at (cases_Bool (l.gone s))
    where
      at : (l.gone s ≡ true) ⊎ (l.gone s ≡ false) → l.settled r s j ≡ 0
      at (inl e) = absurd (omega (arith, moves.lost_there s e))
      at (inr e) = moves.settled.by_lost r s j e

  settled_late_to : (r s j : ℕ) → n ≤ j → l.settled r s j ≡ 0
  settled_late_to r s j past = at (cases_Bool (l.gone j))
    where
      at : (l.gone j ≡ true) ⊎ (l.gone j ≡ false) → l.settled r s j ≡ 0
      at (inl e) = absurd (omega (arith, moves.lost_there j e))
      at (inr e) = moves.settled.to_lost r s j e

  -- what was told of sites past the group's, and as sent to them
  most_late : (s : ℕ) → n ≤ s → (r : ℕ) (cell : Cell) → told_most (shape_of v.layout) ds r s cell ≤ start_counter (shape_of v.layout) r s cell
  most_late s past r cell = at (cases_lt s w.layout.sites)
    where
      at : (s < w.layout.sites) ⊎ (w.layout.sites ≤ s) → told_most (shape_of v.layout) ds r s cell ≤ start_counter (shape_of v.layout) r s cell
      at (inl there) =
          omega (arith, most_done v sound ds all s (subst (λ (x : LayoutState). s < x.sites) (sym later.same_layout) there) r cell, own_late s past there r cell)
      at (inr beyond) = most_past_rows v sound ds all r s cell (subst (λ (x : LayoutState). x.sites ≤ s) (sym later.same_layout) beyond)

  told_late : (s : ℕ) → n ≤ s → (r : ℕ) (cell : Cell) → told_of r s cell ≤ start_counter (shape_of v.layout) r s cell
  told_late s past r (Out j) = omega (arith, most_late s past r (Out j), settled_late r s j past)
  told_late s past r Taken = most_late s past r Taken
  told_late s past r Ann = most_late s past r Ann
  told_late s past r Fin = most_late s past r Fin

  told_late_sent : (r s j : ℕ) → n ≤ j → s ≢ d → told_of r s (Out j) ≤ start_counter (shape_of v.layout) r s (Out j)
  told_late_sent r s j past apart = at (cases_lt s n) (cases_Bool (silent s))
    where
      low_of : s < n → s < v.layout.sites
      low_of lesser = subst (λ (x : LayoutState). s < x.sites) (sym later.same_layout) (omega (arith, lesser, moves.few))

      at : (s < n) ⊎ (n ≤ s) → (silent s ≡ true) ⊎ (silent s ≡ false) → told_of r s (Out j) ≤ start_counter (shape_of v.layout) r s (Out j)
      at (inl lesser) (inl e) =
          omega (
            arith,
            told_done s (low_of lesser) r (Out j),
            own_of_silent s e r (Out j),
            left_late w l s n sound_w moves (at_stage.silent_gone s e) r j past,
          )
      at (inl lesser) (inr e) =
          omega (
            arith,
            told_done s (low_of lesser) r (Out j),
            (sound.family.sound s (low_of lesser)).no_others.none_sent r j (omega (arith, none_more s lesser e)),
          )
      at (inr over) other = told_late s over r (Out j)

  -- what a site knew at the start of the group and kept is told by any deltas of which one is its own
  kept_by : (xs : List DeltaState) → AllByRecursion (IsSentDelta v.sent) xs → (i : ℕ) → i < n → l.gone i ≡ false → IsTeller i xs → (r s : ℕ) (cell : Cell) → keeps_counter i s cell ≡ true → known (account_at w i) r s cell ≤ told_most (shape_of v.layout) xs r s cell
  kept_by xs sent i lesser left teller r s cell keeps =
      let a = account_at w i in
      let there : i < w.layout.sites = omega (arith, lesser, moves.few) in
      let mine : keeps_counter a.origin.site s cell ≡ true = subst (λ (x : ℕ). keeps_counter x s cell ≡ true) (sym (sound_w.family.same_site i there)) keeps in
      omega (
        arith,
        known_kept a a.sites r s cell mine,
        ap (λ (b : Account). known b r s cell) (moved_other w l i there left),
        most_kept l.gone (new_group w l) v xs later.same_layout later.sent sent i left teller r s cell keeps,
      )

  told_kept : (i : ℕ) → i < n → l.gone i ≡ false → (r s : ℕ) (cell : Cell) → keeps_counter i s cell ≡ true → known (account_at w i) r s cell ≤ told_most (shape_of v.layout) ds r s cell
  told_kept i lesser left r s cell keeps = kept_by ds are.sent i lesser left (are.each i lesser left) r s cell keeps

  writers_kept : (r : ℕ) → left_row w l d r Ann ≤ told_of r d Ann
  writers_kept r = writers_most w l.gone d r (told_most (shape_of v.layout) ds r d Ann) (λ i there left. at i there left (cases_lt i n))
    where
      at : (i : ℕ) → i < w.layout.sites → l.gone i ≡ false → (i < n) ⊎ (n ≤ i) → known (account_at w i) r d Ann ≤ told_most (shape_of v.layout) ds r d Ann
      at i there left (inl lesser) = told_kept i lesser left r d Ann refl
      at i there left (inr past) = omega (arith, moves.unbegun i past there r d Ann)

  -- .. and no less
  no_less : (r : ℕ) (cell : Cell) → left_row w l d r cell ≤ rebuilt_row (shape_of v.layout) d told_of r cell
  no_less r (Out j) = at (cases_eq j d) (cases_Bool (l.gone j)) (cases_lt j n)
    where
      at : (j ≡ d) ⊎ (j ≡ d → ⊥) → (l.gone j ≡ true) ⊎ (l.gone j ≡ false) → (j < n) ⊎ (n ≤ j) → left_row w l d r (Out j) ≤ rebuilt_row (shape_of v.layout) d told_of r (Out j)
      at (inl e) other somewhere =
          subst (λ (x : ℕ). left_row w l d r (Out x) ≤ rebuilt_row (shape_of v.layout) d told_of r (Out x)) (sym e)
          (omega (arith, rebuilt_diagonal r, left_diagonal w l sound_w low moves.settled r d, granted r))
      at (inr ne) (inl e) somewhere = omega (arith, rebuilt_sent r j ne, left_settled w l sound_w low moves.settled r d j ne e)
      at (inr ne) (inr e) (inl lesser) = omega (arith, rebuilt_sent r j ne, left_sent w l sound_w low moves.settled r d j ne e, told_kept j lesser e r d (Out j) (kept_column j d))
      at (inr ne) (inr e) (inr past) = let none = left_late w l d n sound_w moves lost r j past in omega arith
  no_less r Taken = omega arith
  no_less r Ann = writers_kept r
  no_less r Fin = writers_kept r

  abbrev counters : ℕ → ℕ → Cell → ℕ
  counters = rebuilt_counters (shape_of v.layout) d told_of

  mine : (r : ℕ) (cell : Cell) → counters r d cell ≡ rebuilt_row (shape_of v.layout) d told_of r cell
  mine r cell = cond-true {A = ℕ} (eqb d d) (rebuilt_row (shape_of v.layout) d told_of r cell) (told_of r d cell) (eq-eqb d d refl)

  other : (r s : ℕ) (cell : Cell) → s ≢ d → counters r s cell ≡ told_of r s cell
  other r s cell apart = cond-false {A = ℕ} (eqb s d) (rebuilt_row (shape_of v.layout) d told_of r cell) (told_of r s cell) (ne_eqb s d apart)

  -- the row that is built is the silent site's
  row_is : (r : ℕ) (cell : Cell) → counters r d cell ≡ own (account_at v d) r cell
  row_is r cell = omega (arith, mine r cell, own_silent r cell, no_more r cell, no_less r cell)

  -- seats that others gave to the lost one, or were settled so, are told
  column_told : (r j : ℕ) → j < w.layout.sites → j ≢ d → cond (l.gone j) (l.settled r j d) (own (account_at w j) r (Out d)) ≤ told_of r j (Out d)
  column_told r j there apart = at (cases_Bool (l.gone j)) (cases_lt j n)
    where
      at : (l.gone j ≡ true) ⊎ (l.gone j ≡ false) → (j < n) ⊎ (n ≤ j) → cond (l.gone j) (l.settled r j d) (own (account_at w j) r (Out d)) ≤ told_of r j (Out d)
      at (inl e) somewhere = omega (arith, cond-true {A = ℕ} (l.gone j) (l.settled r j d) (own (account_at w j) r (Out d)) e)
      at (inr e) (inl lesser) =
          omega (
            arith,
            cond-false {A = ℕ} (l.gone j) (l.settled r j d) (own (account_at w j) r (Out d)) e,
            own_known w j sound_w there r (Out d),
            told_kept j lesser e r j (Out d) (kept_row j (Out d)),
          )
      at (inr e) (inr past) =
          omega (
            arith,
            cond-false {A = ℕ} (l.gone j) (l.settled r j d) (own (account_at w j) r (Out d)) e,
            own_known w j sound_w there r (Out d),
            moves.unbegun j past there r j (Out d),
            start_elsewhere (shape_of w.layout) r j d (λ same. apart (sym same)),
          )

  number : v.layout.sites ≡ w.layout.sites
  number = ap (λ (x : LayoutState). x.sites) later.same_layout

  column_late : (r j : ℕ) → n ≤ j → j ≢ d → counters r j (Out d) ≡ 0
  column_late r j past apart =
      omega (arith, other r j (Out d) apart, told_late j past r (Out d), start_elsewhere (shape_of v.layout) r j d (λ e. apart (sym e)))

  row_late : (r j : ℕ) → n ≤ j → counters r d (Out j) ≡ 0
  row_late r j past = omega (arith, mine r (Out j), no_more r (Out j), left_late w l d n sound_w moves lost r j past)

  pub idle_rebuilt : IsIdle (at_sites n v.layout) d counters
  idle_rebuilt = record {
    there = lower;
    fits = λ r s. fits_at r s (cases_eq s d);
    none_inside = λ r. omega (arith, mine r Taken, mine r (Out d), rebuilt_diagonal r);
    none_unfinished = λ r. omega (arith, mine r Ann, mine r Fin);
    affordable = λ r.
        omega (
          arith,
          granted r,
          moves.can_spare d lost r,
          total_others_more n w.layout.sites d (λ j. counters r d (Out j)) moves.few (λ j past apart. row_late r j past),
          total_others_more n w.layout.sites d (λ j. counters r j (Out d)) moves.few (λ j past apart. column_late r j past apart),
          others_le w.layout.sites d (λ j. counters r d (Out j)) (λ j. left_row w l d r (Out j)) (λ j there apart. omega (arith, mine r (Out j), no_more r (Out j))),
          others_le w.layout.sites d (λ j. cond (l.gone j) (l.settled r j d) (own (account_at w j) r (Out d))) (λ j. counters r j (Out d)) (λ j there apart. omega (arith, other r j (Out d) apart, column_told r j there apart)),
        );
    none_sent = λ r j past. row_late r j past;
    none_told = λ r s cell past.
        let apart : s ≢ d = λ e. absurd (omega (arith, lower)) in omega (arith, other r s cell apart, told_late s past r cell);
    none_told_sent = λ r s j past. sent_at r s j past (cases_eq s d);
    no_records = λ r s cell past. past_at r s cell past (cases_eq s d);
  }
    where
      fits_at : (r s : ℕ) → (s ≡ d) ⊎ (s ≡ d → ⊥) → FitsRow (grant (shape_of v.layout) r s) s (counters r s)
      fits_at r s (inl e) =
          subst (λ (x : ℕ). FitsRow (grant (shape_of v.layout) r x) x (counters r x)) (sym e)
          (FitsRow-along (grant (shape_of v.layout) r d) d (own (account_at v d) r) (counters r d) (row_is r) (row_fits v.layout (account_at v) sound.family d below r))
      fits_at r s (inr ne) =
          FitsRow-along (grant (shape_of v.layout) r s) s (told_of r s) (counters r s) (λ cell. other r s cell ne) (told_fits r s)

      sent_at : (r s j : ℕ) → n ≤ j → (s ≡ d) ⊎ (s ≡ d → ⊥) → counters r s (Out j) ≤ start_counter (shape_of v.layout) r s (Out j)
      sent_at r s j past (inl e) =
          subst (λ (x : ℕ). counters r x (Out j) ≤ start_counter (shape_of v.layout) r x (Out j)) (sym e) (omega (arith, row_late r j past))
      sent_at r s j past (inr ne) = omega (arith, other r s (Out j) ne, told_late_sent r s j past ne)

      past_at : (r s : ℕ) (cell : Cell) → length v.layout.records ≤ r → (s ≡ d) ⊎ (s ≡ d → ⊥) → counters r s cell ≡ 0
      past_at r s cell past (inl e) =
          subst (λ (x : ℕ). counters r x cell ≡ 0) (sym e)
          (row_is r cell
          ∙ (sound.family.sound d below).no_other_records.none_done r cell (omega (arith, ap (λ (records : List RecordSpec). length records) (sound.family.same_records d below))))
      past_at r s cell past (inr ne) = other r s cell ne ∙ told_past_records r s cell past

  -- the same of the layout with the group's sites
  origin_is : rebuilt_origin (at_sites n v.layout) l.settled d ds ≡ idle_origin (at_sites n v.layout) d counters
  origin_is =
      let same : told_most (shape_of (at_sites n v.layout)) ds ≡ told_most (shape_of v.layout) ds = λ k r s cell. told_same v.layout n ds r s cell k in
      ap (λ (f : ℕ → ℕ → Cell → ℕ). idle_origin (at_sites n v.layout) d (rebuilt_counters (shape_of v.layout) d (told_settled l.settled f))) same

  next_rebuilt : IsNext v d (begin (idle_origin (at_sites n v.layout) d counters))
  next_rebuilt = record {
    sound = sound_idle (at_sites n v.layout) d counters idle_rebuilt;
    same_records = refl;
    same_site = refl;
    few_sites = omega (arith, moves.few, number);
    more = λ r cell. omega (arith, row_is r cell);
    told_done = λ j there r cell.
        cond_both (keeps_counter d j cell) (counters r j cell) (start_counter (shape_of v.layout) r j cell) (λ x. x ≤ own (account_at v j) r cell)
        (λ e. kept_done j there r cell (cases_eq j d))
        (λ e. start_below (shape_of v.layout) r j (own (account_at v j) r) (row_fits v.layout (account_at v) sound.family j there r) cell);
  }
    where
      kept_done : (j : ℕ) → j < v.layout.sites → (r : ℕ) (cell : Cell) → (j ≡ d) ⊎ (j ≡ d → ⊥) → counters r j cell ≤ own (account_at v j) r cell
      kept_done j there r cell (inl e) =
          subst (λ (x : ℕ). counters r x cell ≤ own (account_at v x) r cell) (sym e) (omega (arith, row_is r cell))
      kept_done j there r cell (inr ne) = omega (arith, other r j cell ne, told_done j there r cell)

  pub sound_rebuilt : IsSoundWorld (with_account v d (begin (rebuilt_origin (at_sites n w.layout) l.settled d ds)))
  sound_rebuilt =
      subst (λ (x : LayoutState). IsSoundWorld (with_account v d (begin (rebuilt_origin (at_sites n x) l.settled d ds)))) later.same_layout
      (subst (λ (o : Origin). IsSoundWorld (with_account v d (begin o))) (sym origin_is)
      (sound_with v d (begin (idle_origin (at_sites n v.layout) d counters)) sound below next_rebuilt))

  pub begins_rebuilt : IsSound (begin (rebuilt_origin (at_sites n w.layout) l.settled d ds))
  begins_rebuilt =
      subst (λ (x : LayoutState). IsSound (begin (rebuilt_origin (at_sites n x) l.settled d ds))) later.same_layout
      (subst (λ (o : Origin). IsSound (begin o)) (sym origin_is) (sound_idle (at_sites n v.layout) d counters idle_rebuilt))

  pub idle_begins : IsIdle (at_sites n w.layout) d (rebuilt_origin (at_sites n w.layout) l.settled d ds).base.counters
  idle_begins =
      subst (λ (x : LayoutState). IsIdle (at_sites n x) d (rebuilt_origin (at_sites n x) l.settled d ds).base.counters) later.same_layout
      (subst (λ (o : Origin). IsIdle (at_sites n v.layout) d o.base.counters) (sym origin_is) idle_rebuilt)

  -- its row is the one that was there
  pub more_rebuilt : (r : ℕ) (cell : Cell) → own (account_at v d) r cell ≤ own (begin (rebuilt_origin (at_sites n w.layout) l.settled d ds)) r cell
  more_rebuilt r cell =
      subst (λ (x : LayoutState). own (account_at v d) r cell ≤ own (begin (rebuilt_origin (at_sites n x) l.settled d ds)) r cell) later.same_layout
      (subst (λ (o : Origin). own (account_at v d) r cell ≤ own (begin o) r cell) (sym origin_is) (omega (arith, row_is r cell)))

  -- what is told of the silent site's row is no more than it is
  row_most : (r : ℕ) (cell : Cell) → told_most (shape_of (at_sites n w.layout)) ds r d cell ≤ left_row w l d r cell
  row_most r cell =
      omega (
        arith,
        told_same w.layout n ds r d cell,
        ap (λ (x : LayoutState). told_most (shape_of x) ds r d cell) later.same_layout,
        most_done v sound ds all d below r cell,
        own_silent r cell,
      )

  -- so nothing that is told shows that it acted: no seat taken or given back, none given to a lost one but what was settled,
  pub row_told : (r : ℕ) → (told_most (shape_of (at_sites n w.layout)) ds r d Taken ≡ 0) × ((told_most (shape_of (at_sites n w.layout)) ds r d (Out d) ≤ grant (shape_of w.layout) r d) × ((j : ℕ) → l.gone j ≡ true → j ≢ d → told_most (shape_of (at_sites n w.layout)) ds r d (Out j) ≤ l.settled r d j))
  row_told r = (
    omega (arith, row_most r Taken),
    (
      omega (arith, row_most r (Out d), left_diagonal w l sound_w low moves.settled r d),
      λ j e ne. omega (arith, row_most r (Out j), left_settled w l sound_w low moves.settled r d j ne e),
    ),
  )

  -- .. and none given to another one that this one's own deltas don't show
  pub row_shown : (xs : List DeltaState) → AllByRecursion (IsSentDelta v.sent) xs → (j : ℕ) → j < n → l.gone j ≡ false → IsTeller j xs → (r : ℕ) → told_most (shape_of (at_sites n w.layout)) ds r d (Out j) ≤ told_most (shape_of (at_sites n w.layout)) xs r d (Out j)
  row_shown xs sent j lesser left teller r =
      let apart : j ≢ d = λ e. false≢true (sym left ∙ (ap l.gone e ∙ lost)) in
      omega (
        arith,
        row_most r (Out j),
        left_sent w l sound_w low moves.settled r d j apart left,
        kept_by xs sent j lesser left teller r d (Out j) (kept_column j d),
        told_same w.layout n xs r d (Out j),
        ap (λ (x : LayoutState). told_most (shape_of x) xs r d (Out j)) later.same_layout,
      )

  -- each delta is one that the group's books take
  pub checked_rebuilt : AllByRecursion (λ m. IsChecked (shape_of (at_sites n w.layout)) m.rows) ds
  checked_rebuilt =
      subst (λ (x : LayoutState). AllByRecursion (λ m. IsChecked (shape_of (at_sites n x)) m.rows) ds) later.same_layout (each ds all are.sent are.others)
    where
      narrow_rows : (k : ℕ) → k ≤ n → (rows : List Row) → AllByRecursion (λ p. length p.out ≤ k) rows → AllByRecursion (λ p. length p.out ≤ n) rows
      narrow_rows k less [] every = tt
      narrow_rows k less (p ∷ ps) every = (omega (arith, every.0), narrow_rows k less ps every.1)

      -- a site that is left is not silent
      heard : (i : ℕ) → l.gone i ≡ false → (silent i ≡ true) ⊎ (silent i ≡ false) → silent i ≡ false
      heard i left (inl e) = absurd (false≢true (sym left ∙ at_stage.silent_gone i e))
      heard i left (inr e) = e

      each : (xs : List DeltaState) → AllByRecursion (IsMessage v.layout (account_at v)) xs → AllByRecursion (IsSentDelta v.sent) xs → AllByRecursion (λ m. (m.from < n) × (l.gone m.from ≡ false)) xs → AllByRecursion (λ m. IsChecked (shape_of (at_sites n v.layout)) m.rows) xs
      each [] are_messages sent from = tt
      each (m ∷ ms) are_messages sent from = (
        sent_checked v.layout (account_at v) n m are_messages.0
            (narrow_rows (account_at v m.from).sites (none_more m.from from.0.0 (heard m.from from.0.1 (cases_Bool (silent m.from)))) m.rows (message_at (λ x. l.gone x.from ≡ false → IsNarrow v x) v.sent sent.0.0 m later.narrow sent.0.1 from.0.1)),
        each ms are_messages.1 sent.1 from.1,
      )
