-- What one account keeps: knowledge of finished writers goes with the seats.
use Rattle.std.proofs.Common.{◌≡◌, ◌≢◌, ℕ, zero, suc, ◌<◌, ◌≤◌, ◌⊎◌, inl, inr, List, Option, Some, None, refl, sym, ap, subst, ◌∙◌, arith}
use Rattle.std.proofs.lemmas.Bool.{cases_eq, cases_lt, cond_both}
use Rattle.merge_core.specs.declared.cell.Cell.{Cell}
use Rattle.merge_core.specs.declared.cell.Cell.TheVariants.{Out, Fin}
use Rattle.merge_core.specs.declared.delta.Row.{Row}
use Rattle.merge_core.specs.Delta.{DeltaState}
use Rattle.merge_core.specs.Layout.{LayoutState, shape_of}
use Rattle.merge_core.specs.Rows.{start_counter}
use Rattle.merge_core.specs.Naming.{shown_by}
use Rattle.merge_core.specs.Changes.{keeps_counter}
use Rattle.merge_core.proofs.SumLemmas.{total_others_same}
use Rattle.admission_model.specs.declared.ask.Ask.{Ask}
use Rattle.admission_model.specs.declared.ask.Call.TheVariants.{Ask as AskCall, Merge}
use Rattle.admission_model.specs.declared.reply.Refusal.{Refusal}
use Rattle.admission_model.specs.Account.{Account, Origin, own}
use Rattle.admission_model.specs.Knowledge.{known, told, told_after, hears, grown}
use Rattle.admission_model.specs.View.{view_of}
use Rattle.admission_model.specs.Serving.{reason, unless_refused, after}
use Rattle.admission_model.specs.Sound.{IsSound}
use Rattle.admission_model.proofs.CounterLemmas.{known_own, known_other}
use Rattle.admission_model.proofs.RowLemmas.{start_elsewhere}
use Rattle.admission_model.proofs.HeardLemmas.{sound_grown, kept_yes, kept_column}
use Rattle.admission_model.proofs.ServingLemmas.{sound_after, origin_after, sites_after}
use Rattle.admission_model.proofs.NoticeLemmas.{known_after, known_grown}
use Rattle.multi_site_world.proofs.WorldLemmas.{own_grows, told_by_ask}
use Rattle.fencing_laws.proofs.SeatLemmas.{others_rise, others_more, others_least, held, held_sum}

-- the site knows of all finished writers of a floor
abbrev pub KnowsFloor : ℕ → (ℕ → ℕ) → Account → Type 0
KnowsFloor r floor a = (s : ℕ) → floor s ≤ known a r s Fin

-- site i of the layout has a sound account
pub record IsSite (layout : LayoutState) (i : ℕ) (a : Account) : Type 0 where
  pub sound : IsSound a
  pub same_records : a.origin.layout.records ≡ layout.records
  pub few : a.sites ≤ layout.sites
  pub same_site : a.origin.site ≡ i

-- Whoever holds a seat, or knows of one that was given after the counters `before`, knows of the floor; and all
-- that was given to the site before, it knows of.
pub record Follows (layout : LayoutState) (r : ℕ) (floor : ℕ → ℕ) (before : ℕ → ℕ → ℕ) (i : ℕ) (a : Account) : Type 0 where
  pub column : (x : ℕ) → x < layout.sites → x ≢ i → before x i ≤ known a r x (Out i)
  pub holds : 1 ≤ held a r → KnowsFloor r floor a
  pub shown : (x y : ℕ) → x < layout.sites → x ≢ y → before x y < known a r x (Out y) → KnowsFloor r floor a

-- b is what a step makes of a
pub record IsNextOf (layout : LayoutState) (r : ℕ) (floor : ℕ → ℕ) (before : ℕ → ℕ → ℕ) (i : ℕ) (a b : Account) : Type 0 where
  pub site : IsSite layout i b
  pub owns : (cell : Cell) → own a r cell ≤ own b r cell
  pub columns : (x : ℕ) → x ≢ i → known a r x (Out i) ≤ known b r x (Out i)
  pub fins : (s : ℕ) → known a r s Fin ≤ known b r s Fin
  pub new : (x y : ℕ) → x < layout.sites → x ≢ y → before x y < known b r x (Out y) → (before x y < known a r x (Out y)) ⊎ ((1 ≤ held a r) ⊎ KnowsFloor r floor b)

pub follows_next : (layout : LayoutState) (r : ℕ) (floor : ℕ → ℕ) (before : ℕ → ℕ → ℕ) (i : ℕ) (a b : Account) → IsSite layout i a → Follows layout r floor before i a → IsNextOf layout r floor before i a b → Follows layout r floor before i b
follows_next layout r floor before i a b is f next = record {
  column = λ x there apart. omega (arith, f.column x there apart, next.columns x apart);
  holds = λ some. holds some (cases_lt 0 (held a r));
  shown = shown;
}
  where
    raised : KnowsFloor r floor a → KnowsFloor r floor b
    raised knows s = omega (arith, knows s, next.fins s)

    shown : (x y : ℕ) → x < layout.sites → x ≢ y → before x y < known b r x (Out y) → KnowsFloor r floor b
    shown x y there apart more = at (next.new x y there apart more)
      where
        at : (before x y < known a r x (Out y)) ⊎ ((1 ≤ held a r) ⊎ KnowsFloor r floor b) → KnowsFloor r floor b
        at (inl old) = raised (f.shown x y there apart old)
        at (inr (inl has)) = raised (f.holds has)
        at (inr (inr knows)) = knows

    holds : 1 ≤ held b r → (0 < held a r) ⊎ (held a r ≤ 0) → KnowsFloor r floor b
    holds some (inl had) = raised (f.holds (omega arith))
    holds some (inr none) =
        let n = layout.sites in
        let sum_a = held_sum a layout i r is.sound is.same_records is.few is.same_site in
        let sum_b = held_sum b layout i r next.site.sound next.site.same_records next.site.few next.site.same_site in
        let gave = others_least n i (λ j. own a r (Out j)) (λ j. own b r (Out j)) (λ j. next.owns (Out j)) in
        let it = others_rise n i (λ j. known a r j (Out i)) (λ j. known b r j (Out i)) (omega (arith, sum_a, sum_b, gave)) in
        shown it.0 i it.1.0 it.1.1.0 (omega (arith, f.column it.0 it.1.0 it.1.1.0, it.1.1.1))

-- a site's account after a call
pub site_after : (layout : LayoutState) (i : ℕ) (a : Account) → IsSite layout i a → (b : Account) → IsSound b → b.origin ≡ a.origin → b.sites ≤ layout.sites → IsSite layout i b
site_after layout i a is b sound same few = record {
  sound = sound;
  same_records = ap (λ (o : Origin). o.layout.records) same ∙ is.same_records;
  few = few;
  same_site = ap (λ (o : Origin). o.site) same ∙ is.same_site;
}

pub known_mine : (a : Account) (i r : ℕ) (cell : Cell) → a.origin.site ≡ i → known a r i cell ≡ own a r cell
known_mine a i r cell same = ap (λ x. known a r x cell) (sym same) ∙ known_own a r cell

known_yours : (a : Account) (i r x : ℕ) (cell : Cell) → a.origin.site ≡ i → x ≢ i → known a r x cell ≡ told a r x cell
known_yours a i r x cell same apart = known_other a r x cell (λ e. apart (e ∙ same))

-- whoever asks tells a site nothing
pub ask_known : (layout : LayoutState) (i r : ℕ) (a : Account) (ask : Ask) → IsSite layout i a → (x : ℕ) (cell : Cell) → x ≢ i → known (after a (AskCall ask)) r x cell ≡ known a r x cell
ask_known layout i r a ask is x cell apart =
    let b = after a (AskCall ask) in
    known_yours b i r x cell (ap (λ (o : Origin). o.site) (origin_after a (AskCall ask)) ∙ is.same_site) apart
    ∙ (ap (λ o. told_after o b.heard r x cell) (origin_after a (AskCall ask))
    ∙ (ap (λ h. told_after a.origin h r x cell) (told_by_ask a ask)
    ∙ sym (known_yours a i r x cell is.same_site apart)))

pub asked_site : (layout : LayoutState) (i : ℕ) (a : Account) (ask : Ask) → IsSite layout i a → IsSite layout i (after a (AskCall ask))
asked_site layout i a ask is =
    site_after layout i a is (after a (AskCall ask)) (sound_after a (AskCall ask) is.sound) (origin_after a (AskCall ask))
    (omega (arith, sites_after a (AskCall ask), is.few))

-- whoever asks gives only what the site holds
pub next_ask : (layout : LayoutState) (r : ℕ) (floor : ℕ → ℕ) (before : ℕ → ℕ → ℕ) (i : ℕ) (a : Account) (ask : Ask) → IsSite layout i a → IsNextOf layout r floor before i a (after a (AskCall ask))
next_ask layout r floor before i a ask is = record {
  site = next_site;
  owns = λ cell. own_grows a (AskCall ask) r cell;
  columns = λ x apart. known_after a (AskCall ask) r x (Out i);
  fins = λ s. known_after a (AskCall ask) r s Fin;
  new = λ x y there apart more. new x y there apart more (cases_eq x i);
}
  where
    b : Account
    b = after a (AskCall ask)

    next_site : IsSite layout i (after a (AskCall ask))
    next_site = asked_site layout i a ask is

    same_known : (x : ℕ) (cell : Cell) → x ≢ i → known (after a (AskCall ask)) r x cell ≡ known a r x cell
    same_known x cell apart = ask_known layout i r a ask is x cell apart

    gives : (y : ℕ) → i ≢ y → own a r (Out y) < own (after a (AskCall ask)) r (Out y) → (y < layout.sites) ⊎ (layout.sites ≤ y) → 1 ≤ held a r
    gives y apart more (inr past) = absurd (omega (arith, more, next_site.sound.no_others.none_sent r y (omega (arith, next_site.few))))
    gives y apart more (inl there) =
        omega (
          arith,
          held_sum a layout i r is.sound is.same_records is.few is.same_site,
          held_sum b layout i r next_site.sound next_site.same_records next_site.few next_site.same_site,
          others_more layout.sites i y (λ j. own a r (Out j)) (λ j. own b r (Out j)) (λ j. own_grows a (AskCall ask) r (Out j)) there (λ e. apart (sym e)) more,
          total_others_same layout.sites i (λ j. known b r j (Out i)) (λ j. known a r j (Out i)) (λ j lower other. same_known j (Out i) other),
        )

    new : (x y : ℕ) → x < layout.sites → x ≢ y → before x y < known (after a (AskCall ask)) r x (Out y) → (x ≡ i) ⊎ (x ≡ i → ⊥) → (before x y < known a r x (Out y)) ⊎ ((1 ≤ held a r) ⊎ KnowsFloor r floor (after a (AskCall ask)))
    new x y there apart more (inr ne) = inl (omega (arith, more, same_known x (Out y) ne))
    new x y there apart more (inl e) = at (cases_lt (before x y) (known a r x (Out y)))
      where
        at : (before x y < known a r x (Out y)) ⊎ (known a r x (Out y) ≤ before x y) → (before x y < known a r x (Out y)) ⊎ ((1 ≤ held a r) ⊎ KnowsFloor r floor (after a (AskCall ask)))
        at (inl old) = inl old
        at (inr less) =
            let mine : known a r x (Out y) ≡ own a r (Out y) = ap (λ z. known a r z (Out y)) e ∙ known_mine a i r (Out y) is.same_site in
            let mine_b : known b r x (Out y) ≡ own b r (Out y) = ap (λ z. known b r z (Out y)) e ∙ known_mine b i r (Out y) next_site.same_site in
            inr (inl (gives y (λ d. apart (e ∙ d)) (omega (arith, more, less, mine, mine_b)) (cases_lt y layout.sites)))

-- rows that show a seat given after `before` make the floor known
abbrev pub BringFloor : LayoutState → ℕ → (ℕ → ℕ) → (ℕ → ℕ → ℕ) → Account → List Row → Type 0
BringFloor layout r floor before a rows =
    (x y : ℕ) → x < layout.sites → x ≢ y → before x y < shown_by (shape_of a.origin.layout) rows r x (Out y) → KnowsFloor r floor (hears a rows)

pub hears_rises : (layout : LayoutState) (i r : ℕ) (a : Account) (rows : List Row) → IsSite layout i a → (x : ℕ) (cell : Cell) → known a r x cell ≤ known (hears a rows) r x cell
hears_rises layout i r a rows is x cell = at (cases_eq x i)
  where
    b : Account
    b = hears a rows

    at : (x ≡ i) ⊎ (x ≡ i → ⊥) → known a r x cell ≤ known (hears a rows) r x cell
    at (inl e) =
        omega (arith, ap (λ z. known b r z cell) e, known_mine b i r cell is.same_site, ap (λ z. known a r z cell) e, known_mine a i r cell is.same_site)
    at (inr ne) = omega (arith, known_yours b i r x cell is.same_site ne, known_yours a i r x cell is.same_site ne)

pub hears_new : (layout : LayoutState) (r : ℕ) (floor : ℕ → ℕ) (before : ℕ → ℕ → ℕ) (i : ℕ) (a : Account) (rows : List Row) → IsSite layout i a → BringFloor layout r floor before a rows → (x y : ℕ) → x < layout.sites → x ≢ y → before x y < known (hears a rows) r x (Out y) → (before x y < known a r x (Out y)) ⊎ KnowsFloor r floor (hears a rows)
hears_new layout r floor before i a rows is bring x y there apart more = at (cases_eq x i) (cases_lt (before x y) (known a r x (Out y)))
  where
    b : Account
    b = hears a rows

    at : (x ≡ i) ⊎ (x ≡ i → ⊥) → (before x y < known a r x (Out y)) ⊎ (known a r x (Out y) ≤ before x y) → (before x y < known a r x (Out y)) ⊎ KnowsFloor r floor (hears a rows)
    at place (inl old) = inl old
    at (inl e) (inr less) =
        inl (omega (arith, more, ap (λ z. known b r z (Out y)) e, known_mine b i r (Out y) is.same_site, ap (λ z. known a r z (Out y)) e, known_mine a i r (Out y) is.same_site))
    at (inr ne) (inr less) =
        inr (bring x y there apart (omega (arith, more, less, known_yours b i r x (Out y) is.same_site ne, known_yours a i r x (Out y) is.same_site ne)))

pub next_hears : (layout : LayoutState) (r : ℕ) (floor : ℕ → ℕ) (before : ℕ → ℕ → ℕ) (i : ℕ) (a : Account) (rows : List Row) → IsSite layout i a → IsSound (hears a rows) → BringFloor layout r floor before a rows → IsNextOf layout r floor before i a (hears a rows)
next_hears layout r floor before i a rows is sound bring = record {
  site = site_after layout i a is (hears a rows) sound refl is.few;
  owns = λ cell. omega arith;
  columns = λ x apart. hears_rises layout i r a rows is x (Out i);
  fins = λ s. hears_rises layout i r a rows is s Fin;
  new = λ x y there apart more. new x y (hears_new layout r floor before i a rows is bring x y there apart more);
}
  where
    new : (x y : ℕ) → (before x y < known a r x (Out y)) ⊎ KnowsFloor r floor (hears a rows) → (before x y < known a r x (Out y)) ⊎ ((1 ≤ held a r) ⊎ KnowsFloor r floor (hears a rows))
    new x y (inl old) = inl old
    new x y (inr knows) = inr (inr knows)

-- a merge is refused, or its rows are heard
pub next_merge : (layout : LayoutState) (r : ℕ) (floor : ℕ → ℕ) (before : ℕ → ℕ → ℕ) (i : ℕ) (a : Account) (delta : DeltaState) → IsSite layout i a → Follows layout r floor before i a → BringFloor layout r floor before a delta.rows → Follows layout r floor before i (after a (Merge delta))
next_merge layout r floor before i a delta is f bring = at (reason (view_of a) (Merge delta)) refl
  where
    becomes : (o : Option Refusal) → reason (view_of a) (Merge delta) ≡ o → after a (Merge delta) ≡ unless_refused o a (hears a delta.rows)
    becomes o e = ap (λ x. unless_refused x a (hears a delta.rows)) e

    at : (o : Option Refusal) → reason (view_of a) (Merge delta) ≡ o → Follows layout r floor before i (after a (Merge delta))
    at (Some refusal) e = subst (Follows layout r floor before i) (sym (becomes (Some refusal) e)) f
    at None e =
        let sound : IsSound (hears a delta.rows) = subst IsSound (becomes None e) (sound_after a (Merge delta) is.sound) in
        subst (Follows layout r floor before i) (sym (becomes None e))
        (follows_next layout r floor before i a (hears a delta.rows) is f (next_hears layout r floor before i a delta.rows is sound bring))

-- what a restart forgets are seats given between others; notices it keeps
pub grown_column : (layout : LayoutState) (i n r : ℕ) (a : Account) → IsSite layout i a → (x : ℕ) → x ≢ i → known a r x (Out i) ≤ known (grown n a) r x (Out i)
grown_column layout i n r a is x apart =
    let b = grown n a in
    let kept : told b r x (Out i) ≡ told a r x (Out i) =
    subst (λ (k : ℕ). told b r x (Out k) ≡ told a r x (Out k)) is.same_site (kept_yes a.origin (told a) r x (Out a.origin.site) (kept_column a.origin.site x)) in
    omega (arith, known_yours b i r x (Out i) is.same_site apart, known_yours a i r x (Out i) is.same_site apart, kept)

pub grown_new : (layout : LayoutState) (before : ℕ → ℕ → ℕ) (i n r : ℕ) (a : Account) → IsSite layout i a → (x y : ℕ) → x ≢ y → before x y < known (grown n a) r x (Out y) → before x y < known a r x (Out y)
grown_new layout before i n r a is x y apart above = at (cases_eq x i)
  where
    b : Account
    b = grown n a

    at : (x ≡ i) ⊎ (x ≡ i → ⊥) → before x y < known a r x (Out y)
    at (inl e) =
        omega (arith, above, ap (λ z. known b r z (Out y)) e, known_mine b i r (Out y) is.same_site, ap (λ z. known a r z (Out y)) e, known_mine a i r (Out y) is.same_site)
    at (inr ne) =
        let old = known_yours a i r x (Out y) is.same_site ne in
        let now = known_yours b i r x (Out y) is.same_site ne in
        let start = start_elsewhere (shape_of a.origin.layout) r x y (λ e. apart (sym e)) in
        cond_both (keeps_counter a.origin.site x (Out y)) (told a r x (Out y)) (start_counter (shape_of a.origin.layout) r x (Out y)) (λ z. told b r x (Out y) ≡ z → before x y < known a r x (Out y))
        (λ e same. omega (arith, above, old, now, same))
        (λ e same. absurd (omega (arith, above, now, same, start)))
        refl

pub grown_site : (layout : LayoutState) (i n : ℕ) (a : Account) → IsSite layout i a → a.sites ≤ n → n ≤ layout.sites → IsSite layout i (grown n a)
grown_site layout i n a is more few = site_after layout i a is (grown n a) (sound_grown a n more is.sound) refl few

pub next_grown : (layout : LayoutState) (r : ℕ) (floor : ℕ → ℕ) (before : ℕ → ℕ → ℕ) (i n : ℕ) (a : Account) → IsSite layout i a → a.sites ≤ n → n ≤ layout.sites → IsNextOf layout r floor before i a (grown n a)
next_grown layout r floor before i n a is more few = record {
  site = grown_site layout i n a is more few;
  owns = λ cell. omega arith;
  columns = λ x apart. grown_column layout i n r a is x apart;
  fins = λ s. known_grown a n r s Fin tt;
  new = λ x y there apart above. inl (grown_new layout before i n r a is x y apart above);
}

-- a site knows of the floor, or does not
decide : (m : ℕ) (f g : ℕ → ℕ) → ((s : ℕ) → s < m → f s ≤ g s) ⊎ ((s : ℕ) × (g s < f s))
decide zero f g = inl (λ s lower. absurd (omega arith))
decide (suc m) f g = at (decide m f g) (cases_lt (g m) (f m))
  where
    last : ((s : ℕ) → s < m → f s ≤ g s) → f m ≤ g m → (s : ℕ) → s < suc m → (s ≡ m) ⊎ (s ≡ m → ⊥) → f s ≤ g s
    last earlier here s lower (inl e) = subst (λ (x : ℕ). f x ≤ g x) (sym e) here
    last earlier here s lower (inr ne) = earlier s (omega arith)

    at : ((s : ℕ) → s < m → f s ≤ g s) ⊎ ((s : ℕ) × (g s < f s)) → (g m < f m) ⊎ (f m ≤ g m) → ((s : ℕ) → s < suc m → f s ≤ g s) ⊎ ((s : ℕ) × (g s < f s))
    at (inr some) other = inr some
    at (inl earlier) (inl here) = inr (m, here)
    at (inl earlier) (inr here) = inl (λ s lower. last earlier here s lower (cases_eq s m))

pub knows_or_not : (n r : ℕ) (floor : ℕ → ℕ) (a : Account) → ((s : ℕ) → n ≤ s → floor s ≡ 0) → KnowsFloor r floor a ⊎ (¬ KnowsFloor r floor a)
knows_or_not n r floor a past = at (decide n floor (λ s. known a r s Fin))
  where
    each : ((s : ℕ) → s < n → floor s ≤ known a r s Fin) → (s : ℕ) → (s < n) ⊎ (n ≤ s) → floor s ≤ known a r s Fin
    each below s (inl lower) = below s lower
    each below s (inr beyond) = omega (arith, past s beyond)

    at : ((s : ℕ) → s < n → floor s ≤ known a r s Fin) ⊎ ((s : ℕ) × (known a r s Fin < floor s)) → KnowsFloor r floor a ⊎ (¬ KnowsFloor r floor a)
    at (inl below) = inl (λ s. each below s (cases_lt s n))
    at (inr (s, less)) = inr (λ knows. absurd (omega (arith, less, knows s)))
