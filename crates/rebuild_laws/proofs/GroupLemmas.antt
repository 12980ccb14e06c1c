-- A new group without a lost site is sound.
use Rattle.std.proofs.Common.{◌≡◌, ◌≢◌, ℕ, zero, suc, ◌<◌, ◌≤◌, ◌⊎◌, inl, inr, Bool, true, false, max, cond, eqb, List, [], ◌∷◌, ◌++◌, length, get_or, refl, sym, ap, subst, ◌∙◌, arith}
use Rattle.std.proofs.lemmas.Bool.{cases_eq, cases_lt, cases_Bool, false≢true, eq-eqb, eqb-true, ne_eqb, cond-true, cond-false, cond_both, or_from}
use Rattle.std.proofs.lemmas.List.{length-append, get_or_append_left, get_or_push, get_or_past}
use Rattle.merge_core.specs.declared.cell.Cell.{Cell}
use Rattle.merge_core.specs.declared.cell.Cell.TheVariants.{Out, Taken, Ann, Fin}
use Rattle.merge_core.specs.declared.layout.RecordSpec.{RecordSpec}
use Rattle.merge_core.specs.Layout.{LayoutState, shape_of}
use Rattle.merge_core.specs.Rows.{grant, start_counter}
use Rattle.admission_model.specs.Account.{Account, begin, start_origin, own}
use Rattle.merge_core.specs.Changes.{keeps_counter}
use Rattle.admission_model.specs.Knowledge.{known, told, restarted}
use Rattle.admission_model.specs.Sound.{FitsRow, IsSound}
use Rattle.admission_model.proofs.CounterLemmas.{known_own, known_other}
use Rattle.admission_model.proofs.RowLemmas.{FitsRow-along, FitsRow-start, start_below, start_past, start_elsewhere, start_diagonal}
use Rattle.admission_model.proofs.HeardLemmas.{known_fits, kept_yes, kept_no, kept_column, sound_restarted}
use Rattle.multi_site_world.specs.World.{World, account_at}
use Rattle.rebuild_laws.specs.Groups.{greatest, writers_told, Losing, IsSettled, lost_alone, left_row, left_origin, CanSpare, moved_account, moved_accounts, new_group}
use Rattle.multi_site_world.proofs.FamilyLemmas.{same_grant, same_start, row_fits, site_sum}
use Rattle.multi_site_world.proofs.WorldLemmas.{IsSoundWorld}
use Rattle.multi_site_world.proofs.EventLemmas.{known_done, next_restart}
use Rattle.merge_core.proofs.SumLemmas.{total_others_same}
use Rattle.rebuild_laws.proofs.IdleLemmas.{others_le, IsIdle, sound_idle}

pub greatest_member : (n i : ℕ) (f : ℕ → ℕ) → i < n → f i ≤ greatest n f
greatest_member zero i f below = absurd (omega arith)
greatest_member (suc n) i f below = at (cases_eq i n) (greatest_member n i f)
  where
    at : (i ≡ n) ⊎ (i ≡ n → ⊥) → (i < n → f i ≤ greatest n f) → f i ≤ max (greatest n f) (f n)
    at (inl e) earlier = let same : f i ≡ f n = ap f e in omega arith
    at (inr ne) earlier = let lower : i < n = omega arith in omega (arith, earlier lower)

pub greatest_most : (n m : ℕ) (f : ℕ → ℕ) → ((i : ℕ) → i < n → f i ≤ m) → greatest n f ≤ m
greatest_most zero m f few = omega arith
greatest_most (suc n) m f few = omega (arith, greatest_most n m f (λ i below. few i (omega arith)), few n (omega arith))

-- what the sites that are left know of writers of d is at most what bounds each of them
pub writers_most : (w : World) (gone : ℕ → Bool) (d r m : ℕ) → ((i : ℕ) → i < w.layout.sites → gone i ≡ false → known (account_at w i) r d Ann ≤ m) → writers_told w gone d r ≤ m
writers_most w gone d r m few = greatest_most w.layout.sites m (λ i. cond (gone i) 0 (known (account_at w i) r d Ann)) (λ i below. at i below (cases_Bool (gone i)))
  where
    at : (i : ℕ) → i < w.layout.sites → (gone i ≡ true) ⊎ (gone i ≡ false) → cond (gone i) 0 (known (account_at w i) r d Ann) ≤ m
    at i below (inl e) = omega (arith, cond-true {A = ℕ} (gone i) 0 (known (account_at w i) r d Ann) e)
    at i below (inr e) = omega (arith, cond-false {A = ℕ} (gone i) 0 (known (account_at w i) r d Ann) e, few i below e)

pub writers_member : (w : World) (gone : ℕ → Bool) (d r i : ℕ) → i < w.layout.sites → gone i ≡ false → known (account_at w i) r d Ann ≤ writers_told w gone d r
writers_member w gone d r i below left =
    let f = λ (k : ℕ). cond (gone k) 0 (known (account_at w k) r d Ann) in
    let here : f i ≡ known (account_at w i) r d Ann = cond-false {A = ℕ} (gone i) 0 (known (account_at w i) r d Ann) left in
    omega (arith, greatest_member w.layout.sites i f below)

-- an account of a sound world knows nothing of records that are not there
pub past_records : (w : World) (i : ℕ) → IsSoundWorld w → i < w.layout.sites → (r s : ℕ) (cell : Cell) → length w.layout.records ≤ r → known (account_at w i) r s cell ≡ 0
past_records w i sound below r s cell past =
    let a = account_at w i in
    let it = sound.family.sound i below in
    let beyond : length a.origin.layout.records ≤ r = omega (arith, ap (λ (records : List RecordSpec). length records) (sound.family.same_records i below)) in
    cond_both (eqb s a.origin.site) (own a r cell) (told a r s cell) (λ x. x ≡ 0) (λ e. it.no_other_records.none_done r cell beyond) (λ e. it.no_other_records.none_heard r s cell beyond)

-- the account of a site past the layout's was told nothing
pub past_told : (w : World) (d j : ℕ) → IsSoundWorld w → d < w.layout.sites → w.layout.sites ≤ j → (r : ℕ) → known (account_at w j) r d (Out j) ≡ 0
past_told w d j sound below past r =
    let o = start_origin w.layout j in
    let none : account_at w j ≡ begin o = get_or_past w.sites j (begin o) (omega (arith, sound.number)) in
    let apart : d ≢ j = λ e. absurd (omega arith) in
    omega (
      arith,
      ap (λ (a : Account). known a r d (Out j)) none,
      known_other (begin o) r d (Out j) apart,
      kept_yes o (start_counter (shape_of w.layout)) r d (Out j) (kept_column j d),
      start_elsewhere (shape_of w.layout) r d j (λ e. apart (sym e)),
    )

-- the account of a site past the layout's knows of its own row the start
past_own : (w : World) (s : ℕ) → IsSoundWorld w → w.layout.sites ≤ s → (r : ℕ) (cell : Cell) → known (account_at w s) r s cell ≡ start_counter (shape_of w.layout) r s cell
past_own w s sound past r cell =
    let o = start_origin w.layout s in
    let none : account_at w s ≡ begin o = get_or_past w.sites s (begin o) (omega (arith, sound.number)) in
    ap (λ (a : Account). known a r s cell) none ∙ known_own (begin o) r cell

-- what a site knows of its own row
pub own_known : (w : World) (s : ℕ) → IsSoundWorld w → s < w.layout.sites → (r : ℕ) (cell : Cell) → known (account_at w s) r s cell ≡ own (account_at w s) r cell
own_known w s sound there r cell =
    let a = account_at w s in
    subst (λ (x : ℕ). known a r x cell ≡ own a r cell) (sound.family.same_site s there) (known_own a r cell)

module _ (w : World) (l : Losing) (sound : IsSoundWorld w) (low : (i : ℕ) → l.gone i ≡ true → i < w.layout.sites) (settled : IsSettled w.layout l) where
  pub left_diagonal : (r d : ℕ) → left_row w l d r (Out d) ≡ grant (shape_of w.layout) r d
  left_diagonal r d = cond-true {A = ℕ} (eqb d d) (grant (shape_of w.layout) r d) (cond (l.gone d) (l.settled r d d) (known (account_at w d) r d (Out d))) (eq-eqb d d refl)

  left_other : (r d j : ℕ) → j ≢ d → left_row w l d r (Out j) ≡ cond (l.gone j) (l.settled r d j) (known (account_at w j) r d (Out j))
  left_other r d j apart =
      cond-false {A = ℕ} (eqb j d) (grant (shape_of w.layout) r d) (cond (l.gone j) (l.settled r d j) (known (account_at w j) r d (Out j))) (ne_eqb j d apart)

  pub left_sent : (r d j : ℕ) → j ≢ d → l.gone j ≡ false → left_row w l d r (Out j) ≡ known (account_at w j) r d (Out j)
  left_sent r d j apart e =
      left_other r d j apart ∙ cond-false {A = ℕ} (l.gone j) (l.settled r d j) (known (account_at w j) r d (Out j)) e

  pub left_settled : (r d j : ℕ) → j ≢ d → l.gone j ≡ true → left_row w l d r (Out j) ≡ l.settled r d j
  left_settled r d j apart e =
      left_other r d j apart ∙ cond-true {A = ℕ} (l.gone j) (l.settled r d j) (known (account_at w j) r d (Out j)) e

  -- what an account of the world knows of a row fits
  row_known : (i r s : ℕ) → i < w.layout.sites → FitsRow (grant (shape_of w.layout) r s) s (known (account_at w i) r s)
  row_known i r s there =
      subst (λ (x : ℕ). FitsRow x s (known (account_at w i) r s)) (same_grant (account_at w i).origin.layout w.layout (sound.family.same_records i there) r s)
      (known_fits (account_at w i) (sound.family.sound i there) r s)

  pub left_fits : (r d : ℕ) → l.gone d ≡ true → FitsRow (grant (shape_of w.layout) r d) d (left_row w l d r)
  left_fits r d lost = record {
    grant_kept = omega (arith, left_diagonal r d);
    returned_after_taken = omega (arith, left_diagonal r d);
    few_taken = omega arith;
    few_moved = λ j apart. moved _ (λ k there far. (row_known k r d there).few_moved k far) (settled.few r d) j apart (cases_Bool (l.gone j)) (cases_lt j w.layout.sites);
    finished_after_announced = omega arith;
    few_announced = writers_most w l.gone d r _ (λ i there left. (row_known i r d there).few_announced);
  }
    where
      moved : (m : ℕ) → ((k : ℕ) → k < w.layout.sites → k ≢ d → known (account_at w k) r d (Out k) ≤ m) → ((k : ℕ) → l.settled r d k ≤ m) → (j : ℕ) → j ≢ d → (l.gone j ≡ true) ⊎ (l.gone j ≡ false) → (j < w.layout.sites) ⊎ (w.layout.sites ≤ j) → left_row w l d r (Out j) ≤ m
      moved m few between j apart (inl e) somewhere = omega (arith, left_settled r d j apart e, between j)
      moved m few between j apart (inr e) (inl there) = omega (arith, left_sent r d j apart e, few j there apart)
      moved m few between j apart (inr e) (inr past) = omega (arith, left_sent r d j apart e, past_told w d j sound (low d lost) past r)

  -- a site past the layout's is not lost
  not_lost : (j : ℕ) → w.layout.sites ≤ j → (l.gone j ≡ true) ⊎ (l.gone j ≡ false) → l.gone j ≡ false
  not_lost j past (inl e) = let below = low j e in absurd (omega arith)
  not_lost j past (inr e) = e

  -- d gave nothing to sites past the layout's
  pub left_past : (r d j : ℕ) → l.gone d ≡ true → w.layout.sites ≤ j → left_row w l d r (Out j) ≡ 0
  left_past r d j lost past =
      let below = low d lost in
      let apart : j ≢ d = λ e. absurd (omega arith) in
      left_sent r d j apart (not_lost j past (cases_Bool (l.gone j))) ∙ past_told w d j sound below past r

  past_row : (r d : ℕ) (cell : Cell) → l.gone d ≡ true → length w.layout.records ≤ r → left_row w l d r cell ≡ 0
  past_row r d cell lost past = at cell
    where
      nothing : (i s : ℕ) (c : Cell) → i < w.layout.sites → known (account_at w i) r s c ≡ 0
      nothing i s c there = past_records w i sound there r s c past

      sent : (j : ℕ) → (j ≡ d) ⊎ (j ≡ d → ⊥) → (l.gone j ≡ true) ⊎ (l.gone j ≡ false) → (j < w.layout.sites) ⊎ (w.layout.sites ≤ j) → left_row w l d r (Out j) ≡ 0
      sent j (inl e) other somewhere =
          subst (λ (x : ℕ). left_row w l d r (Out x) ≡ 0) (sym e)
          (omega (arith, left_diagonal r d, start_past w.layout r d (Out d) past, start_diagonal (shape_of w.layout) r d))
      sent j (inr ne) (inl e) somewhere = left_settled r d j ne e ∙ settled.of_records r d j past
      sent j (inr ne) (inr e) (inl there) = left_sent r d j ne e ∙ nothing j d (Out j) there
      sent j (inr ne) (inr e) (inr beyond) = left_past r d j lost beyond

      writers : writers_told w l.gone d r ≡ 0
      writers = omega (arith, writers_most w l.gone d r 0 (λ i there left. omega (arith, nothing i d Ann there)))

      at : (c : Cell) → left_row w l d r c ≡ 0
      at (Out j) = sent j (cases_eq j d) (cases_Bool (l.gone j)) (cases_lt j w.layout.sites)
      at Taken = refl
      at Ann = writers
      at Fin = writers

  -- what a silent site knows: the rows of the lost ones, and what the others have done
  abbrev counters : ℕ → ℕ → Cell → ℕ
  counters r s cell = cond (l.gone s) (left_row w l s r cell) (known (account_at w s) r s cell)

  of_lost : (r s : ℕ) (cell : Cell) → l.gone s ≡ true → counters r s cell ≡ left_row w l s r cell
  of_lost r s cell e = cond-true {A = ℕ} (l.gone s) (left_row w l s r cell) (known (account_at w s) r s cell) e

  of_left : (r s : ℕ) (cell : Cell) → l.gone s ≡ false → counters r s cell ≡ known (account_at w s) r s cell
  of_left r s cell e = cond-false {A = ℕ} (l.gone s) (left_row w l s r cell) (known (account_at w s) r s cell) e

  idle : (d : ℕ) → l.gone d ≡ true → CanSpare w l d → IsIdle w.layout d counters
  idle d lost can = record {
    there = low d lost;
    fits = λ r s. fits_at r s (cases_Bool (l.gone s)) (cases_lt s w.layout.sites);
    none_inside = λ r. omega (arith, of_lost r d Taken lost, of_lost r d (Out d) lost, left_diagonal r d);
    none_unfinished = λ r. omega (arith, of_lost r d Ann lost, of_lost r d Fin lost);
    affordable = λ r.
        omega (
          arith,
          can r,
          total_others_same w.layout.sites d (λ j. counters r d (Out j)) (λ j. left_row w l d r (Out j)) (λ j there apart. of_lost r d (Out j) lost),
          others_le w.layout.sites d (λ j. cond (l.gone j) (l.settled r j d) (own (account_at w j) r (Out d))) (λ j. counters r j (Out d)) (λ j there apart. column r j there (λ e. apart (sym e)) (cases_Bool (l.gone j))),
        );
    none_sent = λ r j past. of_lost r d (Out j) lost ∙ left_past r d j lost past;
    none_told = λ r s cell past.
        omega (arith, of_left r s cell (not_lost s past (cases_Bool (l.gone s))), past_own w s sound past r cell);
    none_told_sent = λ r s j past. sent_at r s j past (cases_Bool (l.gone s)) (cases_lt s w.layout.sites);
    no_records = λ r s cell past. past_at r s cell past (cases_Bool (l.gone s)) (cases_lt s w.layout.sites);
  }
    where
      column : (r j : ℕ) → j < w.layout.sites → d ≢ j → (l.gone j ≡ true) ⊎ (l.gone j ≡ false) → cond (l.gone j) (l.settled r j d) (own (account_at w j) r (Out d)) ≤ counters r j (Out d)
      column r j there apart (inl e) =
          omega (arith, cond-true {A = ℕ} (l.gone j) (l.settled r j d) (own (account_at w j) r (Out d)) e, of_lost r j (Out d) e, left_settled r j d apart lost)
      column r j there apart (inr e) =
          omega (arith, cond-false {A = ℕ} (l.gone j) (l.settled r j d) (own (account_at w j) r (Out d)) e, of_left r j (Out d) e, own_known w j sound there r (Out d))

      fits_at : (r s : ℕ) → (l.gone s ≡ true) ⊎ (l.gone s ≡ false) → (s < w.layout.sites) ⊎ (w.layout.sites ≤ s) → FitsRow (grant (shape_of w.layout) r s) s (counters r s)
      fits_at r s (inl e) somewhere =
          FitsRow-along (grant (shape_of w.layout) r s) s (left_row w l s r) (counters r s) (λ cell. of_lost r s cell e) (left_fits r s e)
      fits_at r s (inr e) (inl there) =
          FitsRow-along (grant (shape_of w.layout) r s) s (known (account_at w s) r s) (counters r s) (λ cell. of_left r s cell e) (row_known s r s there)
      fits_at r s (inr e) (inr past) =
          FitsRow-along (grant (shape_of w.layout) r s) s (start_counter (shape_of w.layout) r s) (counters r s) (λ cell. of_left r s cell e ∙ past_own w s sound past r cell) (FitsRow-start (shape_of w.layout) r s)

      sent_at : (r s j : ℕ) → w.layout.sites ≤ j → (l.gone s ≡ true) ⊎ (l.gone s ≡ false) → (s < w.layout.sites) ⊎ (w.layout.sites ≤ s) → counters r s (Out j) ≤ start_counter (shape_of w.layout) r s (Out j)
      sent_at r s j past (inl e) somewhere = omega (arith, of_lost r s (Out j) e, left_past r s j e past)
      sent_at r s j past (inr e) (inl there) =
          omega (
            arith,
            of_left r s (Out j) e,
            own_known w s sound there r (Out j),
            (sound.family.sound s there).no_others.none_sent r j (omega (arith, sound.family.few_sites s there)),
          )
      sent_at r s j past (inr e) (inr beyond) = omega (arith, of_left r s (Out j) e, past_own w s sound beyond r (Out j))

      past_at : (r s : ℕ) (cell : Cell) → length w.layout.records ≤ r → (l.gone s ≡ true) ⊎ (l.gone s ≡ false) → (s < w.layout.sites) ⊎ (w.layout.sites ≤ s) → counters r s cell ≡ 0
      past_at r s cell past (inl e) somewhere = of_lost r s cell e ∙ past_row r s cell e past
      past_at r s cell past (inr e) (inl there) = of_left r s cell e ∙ past_records w s sound there r s cell past
      past_at r s cell past (inr e) (inr beyond) = of_left r s cell e ∙ (past_own w s sound beyond r cell ∙ start_past w.layout r s cell past)

  pub sound_left : (d : ℕ) → l.gone d ≡ true → CanSpare w l d → IsSound (begin (left_origin w l d))
  sound_left d lost can = sound_idle w.layout d counters (idle d lost can)

  -- the row of the silent site
  pub own_left : (d : ℕ) → l.gone d ≡ true → (r : ℕ) (cell : Cell) → own (begin (left_origin w l d)) r cell ≡ left_row w l d r cell
  own_left d lost r cell = of_lost r d cell lost

  -- what a silent site knew, of lost ones and of others, was done
  pub told_of_lost : (d j : ℕ) → l.gone j ≡ true → (r : ℕ) (cell : Cell) → told (begin (left_origin w l d)) r j cell ≤ left_row w l j r cell
  told_of_lost d j e r cell =
      cond_both (keeps_counter d j cell) (counters r j cell) (start_counter (shape_of w.layout) r j cell) (λ x. x ≤ left_row w l j r cell)
      (λ k. omega (arith, of_lost r j cell e))
      (λ k. start_below (shape_of w.layout) r j (left_row w l j r) (left_fits r j e) cell)

  pub told_of_left : (d j : ℕ) → j < w.layout.sites → l.gone j ≡ false → (r : ℕ) (cell : Cell) → told (begin (left_origin w l d)) r j cell ≤ own (account_at w j) r cell
  told_of_left d j there e r cell =
      cond_both (keeps_counter d j cell) (counters r j cell) (start_counter (shape_of w.layout) r j cell) (λ x. x ≤ own (account_at w j) r cell)
      (λ k. omega (arith, of_left r j cell e, own_known w j sound there r cell))
      (λ k. start_below (shape_of w.layout) r j (own (account_at w j) r) (row_fits w.layout (account_at w) sound.family j there r) cell)

  -- no site that is left tells of d more than its row in the new group
  pub told_left : (d i : ℕ) → l.gone d ≡ true → i < w.layout.sites → l.gone i ≡ false → (r : ℕ) (cell : Cell) → told (restarted (account_at w i)) r d cell ≤ left_row w l d r cell
  told_left d i lost there left r cell = at cell
    where
      far : d ≢ (account_at w i).origin.site
      far e = false≢true (sym left ∙ (ap l.gone (sym (e ∙ sound.family.same_site i there)) ∙ lost))

      start_is : (c : Cell) → start_counter (shape_of (account_at w i).origin.layout) r d c ≡ start_counter (shape_of w.layout) r d c
      start_is c = same_start (account_at w i).origin.layout w.layout (sound.family.same_records i there) r d c

      notice : told (account_at w i) r d Ann ≤ writers_told w l.gone d r
      notice = omega (arith, known_other (account_at w i) r d Ann far, writers_member w l.gone d r i there left)

      away : (j : ℕ) → (j ≡ i → ⊥) → told (restarted (account_at w i)) r d (Out j) ≡ start_counter (shape_of w.layout) r d (Out j)
      away j gone_from =
          let b = account_at w i in
          let other : j ≢ b.origin.site = λ e. gone_from (e ∙ sound.family.same_site i there) in
          kept_no b.origin (told b) r d (Out j) (or_from (eqb d b.origin.site) (eqb j b.origin.site) (ne_eqb d b.origin.site far) (ne_eqb j b.origin.site other))
          ∙ start_is (Out j)

      sent : (j : ℕ) → (j ≡ i) ⊎ (j ≡ i → ⊥) → told (restarted (account_at w i)) r d (Out j) ≤ left_row w l d r (Out j)
      sent j (inl here) =
          let b = account_at w i in
          let apart : i ≢ d = λ e. far (sym e ∙ sym (sound.family.same_site i there)) in
          subst (λ (x : ℕ). told (restarted (account_at w i)) r d (Out x) ≤ left_row w l d r (Out x)) (sym here)
          (omega (
            arith,
            subst (λ (x : ℕ). told (restarted b) r d (Out x) ≡ told b r d (Out x)) (sound.family.same_site i there) (kept_yes b.origin (told b) r d (Out b.origin.site) (kept_column b.origin.site d)),
            known_other b r d (Out i) far,
            left_sent r d i apart left,
          ))
      sent j (inr ne) = omega (arith, away j ne, start_below (shape_of w.layout) r d (left_row w l d r) (left_fits r d lost) (Out j))

      at : (c : Cell) → told (restarted (account_at w i)) r d c ≤ left_row w l d r c
      at (Out j) = sent j (cases_eq j i)
      at Taken = let b = account_at w i in omega (arith, kept_no b.origin (told b) r d Taken (ne_eqb d b.origin.site far))
      at Ann = let b = account_at w i in omega (arith, kept_yes b.origin (told b) r d Ann refl, notice)
      at Fin =
          let b = account_at w i in
          omega (arith, kept_yes b.origin (told b) r d Fin refl, notice, ((sound.family.sound i there).told_fits r d).finished_after_announced)

length-moved : (w : World) (l : Losing) (n : ℕ) → length (moved_accounts w l n) ≡ n
length-moved w l zero = refl
length-moved w l (suc n) = omega (arith, length-append (moved_accounts w l n) (moved_account w l n ∷ []), length-moved w l n)

moved_in : (w : World) (l : Losing) (n i : ℕ) (none : Account) → i < n → get_or (moved_accounts w l n) i none ≡ moved_account w l i
moved_in w l zero i none below = absurd (omega arith)
moved_in w l (suc n) i none below = at (cases_eq i n) (moved_in w l n i none)
  where
    at : (i ≡ n) ⊎ (i ≡ n → ⊥) → (i < n → get_or (moved_accounts w l n) i none ≡ moved_account w l i) → get_or (moved_accounts w l n ++ moved_account w l n ∷ []) i none ≡ moved_account w l i
    at (inl e) earlier =
        get_or_push (moved_accounts w l n) (moved_account w l n) none i (length-moved w l n ∙ sym e) ∙ ap (moved_account w l) (sym e)
    at (inr ne) earlier =
        let lower : i < n = omega arith in
        get_or_append_left (moved_accounts w l n) (moved_account w l n ∷ []) none i (omega (arith, length-moved w l n)) ∙ earlier lower

-- the accounts of the new group
moved_at : (w : World) (l : Losing) (i : ℕ) → i < w.layout.sites → account_at (new_group w l) i ≡ moved_account w l i
moved_at w l i below = moved_in w l w.layout.sites i (begin (start_origin w.layout i)) below

-- two new groups of as many sites
pub moved_number : (u w : World) (l m : Losing) → u.layout ≡ w.layout → length (new_group u l).sites ≡ length (new_group w m).sites
moved_number u w l m same = omega (arith, length-moved u l u.layout.sites, length-moved w m w.layout.sites, ap (λ (x : LayoutState). x.sites) same)

pub moved_lost : (w : World) (l : Losing) (d : ℕ) → d < w.layout.sites → l.gone d ≡ true → account_at (new_group w l) d ≡ begin (left_origin w l d)
moved_lost w l d below e = moved_at w l d below ∙ cond-true (l.gone d) (begin (left_origin w l d)) (restarted (account_at w d)) e

pub moved_other : (w : World) (l : Losing) (i : ℕ) → i < w.layout.sites → l.gone i ≡ false → account_at (new_group w l) i ≡ restarted (account_at w i)
moved_other w l i below e = moved_at w l i below ∙ cond-false (l.gone i) (begin (left_origin w l i)) (restarted (account_at w i)) e

module _ (w : World) (l : Losing) (sound : IsSoundWorld w) (low : (i : ℕ) → l.gone i ≡ true → i < w.layout.sites) (settled : IsSettled w.layout l) (spare : (i : ℕ) → l.gone i ≡ true → CanSpare w l i) where
  -- what holds of the lost sites' accounts and of the others' after a restart holds of each of the new group
  moved_each : (P : ℕ → Account → Type 0) → ((i : ℕ) → l.gone i ≡ true → P i (begin (left_origin w l i))) → ((i : ℕ) → i < w.layout.sites → l.gone i ≡ false → P i (restarted (account_at w i))) → (i : ℕ) → i < w.layout.sites → P i (account_at (new_group w l) i)
  moved_each P lost others i there = at (cases_Bool (l.gone i))
    where
      at : (l.gone i ≡ true) ⊎ (l.gone i ≡ false) → P i (account_at (new_group w l) i)
      at (inl e) = subst (P i) (sym (moved_lost w l i there e)) (lost i e)
      at (inr e) = subst (P i) (sym (moved_other w l i there e)) (others i there e)

  own_lost : (j : ℕ) → j < w.layout.sites → l.gone j ≡ true → (r : ℕ) (cell : Cell) → own (account_at (new_group w l) j) r cell ≡ left_row w l j r cell
  own_lost j here e r cell = ap (λ (a : Account). own a r cell) (moved_lost w l j here e) ∙ own_left w l sound low settled j e r cell

  own_moved : (j : ℕ) → j < w.layout.sites → l.gone j ≡ false → (r : ℕ) (cell : Cell) → own (account_at (new_group w l) j) r cell ≡ own (account_at w j) r cell
  own_moved j here e r cell = ap (λ (a : Account). own a r cell) (moved_other w l j here e)

  told_done_at : (i j : ℕ) → i < w.layout.sites → j < w.layout.sites → (r : ℕ) (cell : Cell) → told (account_at (new_group w l) i) r j cell ≤ own (account_at (new_group w l) j) r cell
  told_done_at i j there here r cell = at (cases_Bool (l.gone j))
    where
      at : (l.gone j ≡ true) ⊎ (l.gone j ≡ false) → told (account_at (new_group w l) i) r j cell ≤ own (account_at (new_group w l) j) r cell
      at (inl e) =
          subst (λ (n : ℕ). told (account_at (new_group w l) i) r j cell ≤ n) (sym (own_lost j here e r cell))
          (moved_each (λ k a. told a r j cell ≤ left_row w l j r cell) (λ k lost. told_of_lost w l sound low settled k j e r cell)
          (λ k below left. told_left w l sound low settled j k e below left r cell) i there)
      at (inr e) =
          subst (λ (n : ℕ). told (account_at (new_group w l) i) r j cell ≤ n) (sym (own_moved j here e r cell))
          (moved_each (λ k a. told a r j cell ≤ own (account_at w j) r cell) (λ k lost. told_of_left w l sound low settled k j here e r cell)
          (λ k below left. (next_restart w k sound below).told_done j here r cell) i there)

  pub sound_group : IsSoundWorld (new_group w l)
  sound_group = record {
    layout = sound.layout;
    number = length-moved w l w.layout.sites;
    family = record {
      sound = moved_each (λ i a. IsSound a) (λ i e. sound_left w l sound low settled i e (spare i e)) (λ i there e. sound_restarted (account_at w i) (sound.family.sound i there));
      same_records = moved_each (λ i a. a.origin.layout.records ≡ w.layout.records) (λ i e. refl) (λ i there e. sound.family.same_records i there);
      same_site = moved_each (λ i a. a.origin.site ≡ i) (λ i e. refl) (λ i there e. sound.family.same_site i there);
      few_sites = moved_each (λ i a. a.sites ≤ w.layout.sites) (λ i e. omega arith) (λ i there e. sound.family.few_sites i there);
    };
    told_done = told_done_at;
    sent = tt;
  }

-- nothing is settled where one site alone is lost
pub settled_alone : (w : World) (d : ℕ) → IsSettled w.layout (lost_alone d)
settled_alone w d = record {
  by_lost = λ r i j e. refl;
  to_lost = λ r i j e. refl;
  to_others = λ r i. refl;
  of_records = λ r i j e. refl;
  few = λ r i j. omega arith;
}

-- .. and it can spare what it gave
pub spares_alone : (w : World) (d : ℕ) → IsSoundWorld w → d < w.layout.sites → CanSpare w (lost_alone d) d
spares_alone w d sound below r =
    let gone = λ (i : ℕ). eqb i d in
    let low : (i : ℕ) → eqb i d ≡ true → i < w.layout.sites = λ i e. omega (arith, eqb-true i d e) in
    omega (
      arith,
      site_sum (account_at w d) w.layout d r (sound.family.sound d below) (sound.family.same_records d below) (sound.family.few_sites d below) (sound.family.same_site d below),
      others_le w.layout.sites d (λ j. left_row w (lost_alone d) d r (Out j)) (λ j. own (account_at w d) r (Out j))
          (λ j there apart. omega (arith, left_sent w (lost_alone d) sound low (settled_alone w d) r d j apart (ne_eqb j d apart), known_done w j d sound there below r (Out j))),
      others_le w.layout.sites d (λ j. known (account_at w d) r j (Out d)) (λ j. cond (gone j) 0 (own (account_at w j) r (Out d)))
          (λ j there apart. omega (arith, known_done w d j sound below there r (Out d), cond-false {A = ℕ} (gone j) 0 (own (account_at w j) r (Out d)) (ne_eqb j d apart))),
    )
