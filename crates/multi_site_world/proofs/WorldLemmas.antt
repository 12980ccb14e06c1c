-- What every event keeps of a world.
use Rattle.std.proofs.Common.{◌≡◌, ◌≢◌, ℕ, ◌<◌, ◌≤◌, ◌⊎◌, inl, inr, List, [], ◌∷◌, length, map, None, refl, sym, ap, subst, ◌∙◌, arith}
use Rattle.std.specs.List.{AllByRecursion}
use Rattle.std.proofs.lemmas.List.{length-set, get_or-set_same, get_or-set_other}
use Rattle.std.proofs.lemmas.Bool.{cases_eq}
use Rattle.merge_core.specs.declared.cell.Cell.{Cell}
use Rattle.merge_core.specs.declared.delta.Row.{Row}
use Rattle.merge_core.specs.Delta.{DeltaState}
use Rattle.merge_core.specs.declared.layout.RecordSpec.{RecordSpec}
use Rattle.merge_core.specs.Layout.{LayoutState, IsLayout, shape_of, record_shape}
use Rattle.merge_core.specs.Rows.{grant, counter_in, counters_of}
use Rattle.merge_core.specs.Naming.{shown_by}
use Rattle.admission_model.specs.declared.ask.Ask.{Ask}
use Rattle.admission_model.specs.declared.ask.Call.{Call}
use Rattle.admission_model.specs.declared.ask.Call.TheVariants.{Ask as AskCall, Merge, Snapshot as SnapshotCall}
use Rattle.admission_model.specs.Account.{Account, begin, start_origin, layout_of, own}
use Rattle.admission_model.specs.Knowledge.{told, hears}
use Rattle.admission_model.specs.View.{view_of}
use Rattle.admission_model.specs.Replies.{ask_lines, merge_lines}
use Rattle.admission_model.specs.Serving.{reason, advanced, unless_refused, after}
use Rattle.admission_model.specs.Sound.{FitsRow, IsSound}
use Rattle.admission_model.proofs.CounterLemmas.{known_own}
use Rattle.admission_model.proofs.RowLemmas.{shown_as, shown_same, start_below}
use Rattle.admission_model.proofs.SnapshotLemmas.{matches}
use Rattle.admission_model.proofs.ServingLemmas.{first_both}
use Rattle.admission_model.proofs.MessageLemmas.{IsTellable, merge_accepted}
use Rattle.multi_site_world.specs.World.{World, account_at, with_account}
use Rattle.multi_site_world.proofs.FamilyLemmas.{IsFamily, row_fits, same_shown, same_grant}

-- own counters only grow, and an ask tells a site nothing
pub own_grows : (a : Account) (call : Call) (r : ℕ) (cell : Cell) → own a r cell ≤ own (after a call) r cell
own_grows a (AskCall ask) r cell =
    first_both (λ o. own a r cell ≤ own (unless_refused o a (advanced a (AskCall ask))) r cell) (ask_lines (view_of a) ask) (λ x. omega arith) (λ clear. omega arith)
own_grows a (Merge delta) r cell =
    first_both (λ o. own a r cell ≤ own (unless_refused o a (hears a delta.rows)) r cell) (merge_lines (view_of a) delta) (λ x. omega arith) (λ clear. omega arith)
own_grows a SnapshotCall r cell = omega arith

pub told_by_ask : (a : Account) (ask : Ask) → (after a (AskCall ask)).heard ≡ a.heard
told_by_ask a ask =
    first_both (λ o. (unless_refused o a (advanced a (AskCall ask))).heard ≡ a.heard) (ask_lines (view_of a) ask) (λ x. refl) (λ clear. refl)

-- a sent row: its place is there, it fits, and its site has done all that it tells
pub record IsSentRow (layout : LayoutState) (accounts : ℕ → Account) (p : Row) : Type 0 where
  pub record_there : p.r < length (shape_of layout).records
  pub site_there : p.s < length p.out
  pub few_sites : length p.out ≤ layout.sites
  pub fits : FitsRow (grant (shape_of layout) p.r p.s) p.s (counter_in (counters_of p))
  pub done : (cell : Cell) → counter_in (counters_of p) cell ≤ own (accounts p.s) p.r cell

abbrev pub AreSentRows : LayoutState → (ℕ → Account) → List Row → Type 0
AreSentRows layout accounts rows = AllByRecursion (IsSentRow layout accounts) rows

-- a sent message: all its rows are of one width, and no two are of one record and site
pub record IsMessage (layout : LayoutState) (accounts : ℕ → Account) (delta : DeltaState) : Type 0 where
  pub rows : AreSentRows layout accounts delta.rows
  pub width : ℕ
  pub same_width : AllByRecursion (λ p. length p.out ≡ width) delta.rows
  pub apart : (r s : ℕ) → matches r s delta.rows ≤ 1

-- What is told of a row was done by its site, and so is what any message tells
pub record IsSoundWorld (w : World) : Type 0 where
  pub layout : IsLayout w.layout
  pub number : length w.sites ≡ w.layout.sites
  pub family : IsFamily w.layout (account_at w)
  pub told_done : (i j : ℕ) → i < w.layout.sites → j < w.layout.sites → (r : ℕ) (cell : Cell) → told (account_at w i) r j cell ≤ own (account_at w j) r cell
  pub sent : AllByRecursion (IsMessage w.layout (account_at w)) w.sent

grown_rows : (layout : LayoutState) (old new : ℕ → Account) → ((s r : ℕ) (cell : Cell) → own (old s) r cell ≤ own (new s) r cell) → (rows : List Row) → AllByRecursion (IsSentRow layout old) rows → AllByRecursion (IsSentRow layout new) rows
grown_rows layout old new more [] all = tt
grown_rows layout old new more (p ∷ ps) all = (
  record {
    record_there = all.0.record_there;
    site_there = all.0.site_there;
    few_sites = all.0.few_sites;
    fits = all.0.fits;
    done = λ cell. omega (arith, all.0.done cell, more p.s p.r cell);
  },
  grown_rows layout old new more ps all.1,
)

grown_messages : (layout : LayoutState) (old new : ℕ → Account) → ((s r : ℕ) (cell : Cell) → own (old s) r cell ≤ own (new s) r cell) → (sent : List DeltaState) → AllByRecursion (IsMessage layout old) sent → AllByRecursion (IsMessage layout new) sent
grown_messages layout old new more [] all = tt
grown_messages layout old new more (d ∷ ds) all = (
  record { rows = grown_rows layout old new more d.rows all.0.rows; width = all.0.width; same_width = all.0.same_width; apart = all.0.apart },
  grown_messages layout old new more ds all.1,
)

pub same_account : (w : World) (i : ℕ) (a : Account) → i < length w.sites → account_at (with_account w i a) i ≡ a
same_account w i a below = get_or-set_same w.sites i a (begin (start_origin w.layout i)) below

pub other_account : (w : World) (i j : ℕ) (a : Account) → j ≢ i → account_at (with_account w i a) j ≡ account_at w j
other_account w i j a apart = get_or-set_other w.sites i j a (begin (start_origin w.layout j)) apart

-- what a changed account has to keep
pub record IsNext (w : World) (i : ℕ) (a : Account) : Type 0 where
  pub sound : IsSound a
  pub same_records : a.origin.layout.records ≡ w.layout.records
  pub same_site : a.origin.site ≡ i
  pub few_sites : a.sites ≤ w.layout.sites
  pub more : (r : ℕ) (cell : Cell) → own (account_at w i) r cell ≤ own a r cell
  pub told_done : (j : ℕ) → j < w.layout.sites → (r : ℕ) (cell : Cell) → told a r j cell ≤ own (account_at w j) r cell

pub sound_with : (w : World) (i : ℕ) (a : Account) → IsSoundWorld w → i < w.layout.sites → IsNext w i a → IsSoundWorld (with_account w i a)
sound_with w i a sound below next = record {
  layout = sound.layout;
  number = length-set w.sites i a ∙ sound.number;
  family = record {
    sound = λ j there. at (λ b. IsSound b) j (cases_eq j i) next.sound (sound.family.sound j there);
    same_records = λ j there. at (λ b. b.origin.layout.records ≡ w.layout.records) j (cases_eq j i) next.same_records (sound.family.same_records j there);
    same_site = λ j there. site_at j there (cases_eq j i);
    few_sites = λ j there. at (λ b. b.sites ≤ w.layout.sites) j (cases_eq j i) next.few_sites (sound.family.few_sites j there);
  };
  told_done = λ j k there here r cell. told_at j k there here r cell (cases_eq j i);
  sent = grown_messages w.layout (account_at w) (account_at (with_account w i a)) grows w.sent sound.sent;
}
  where
    inside : i < length w.sites
    inside = omega (arith, sound.number)

    now : account_at (with_account w i a) i ≡ a
    now = same_account w i a inside

    at : (P : Account → Type 0) (j : ℕ) → (j ≡ i) ⊎ (j ≡ i → ⊥) → P a → P (account_at w j) → P (account_at (with_account w i a) j)
    at P j (inl e) new old = subst (λ (x : ℕ). P (account_at (with_account w i a) x)) (sym e) (subst P (sym now) new)
    at P j (inr ne) new old = subst P (sym (other_account w i j a ne)) old

    site_at : (j : ℕ) → j < w.layout.sites → (j ≡ i) ⊎ (j ≡ i → ⊥) → (account_at (with_account w i a) j).origin.site ≡ j
    site_at j there (inl e) =
        subst (λ (x : ℕ). (account_at (with_account w i a) x).origin.site ≡ x) (sym e)
        (ap (λ (b : Account). b.origin.site) now ∙ next.same_site)
    site_at j there (inr ne) = ap (λ (b : Account). b.origin.site) (other_account w i j a ne) ∙ sound.family.same_site j there

    grows : (s r : ℕ) (cell : Cell) → own (account_at w s) r cell ≤ own (account_at (with_account w i a) s) r cell
    grows s r cell = grows_at (cases_eq s i)
      where
        grows_at : (s ≡ i) ⊎ (s ≡ i → ⊥) → own (account_at w s) r cell ≤ own (account_at (with_account w i a) s) r cell
        grows_at (inl e) =
            subst (λ (x : ℕ). own (account_at w x) r cell ≤ own (account_at (with_account w i a) x) r cell) (sym e)
            (subst (λ (b : Account). own (account_at w i) r cell ≤ own b r cell) (sym now) (next.more r cell))
        grows_at (inr ne) = subst (λ (b : Account). own (account_at w s) r cell ≤ own b r cell) (sym (other_account w i s a ne)) (omega arith)

    told_at : (j k : ℕ) → j < w.layout.sites → k < w.layout.sites → (r : ℕ) (cell : Cell) → (j ≡ i) ⊎ (j ≡ i → ⊥) → told (account_at (with_account w i a) j) r k cell ≤ own (account_at (with_account w i a) k) r cell
    told_at j k there here r cell (inl e) =
        let first : told (account_at (with_account w i a) j) r k cell ≡ told a r k cell =
        ap (λ x. told (account_at (with_account w i a) x) r k cell) e ∙ ap (λ b. told b r k cell) now in
        omega (arith, next.told_done k here r cell, grows k r cell)
    told_at j k there here r cell (inr ne) =
        let first : told (account_at (with_account w i a) j) r k cell ≡ told (account_at w j) r k cell = ap (λ b. told b r k cell) (other_account w i j a ne) in
        omega (arith, sound.told_done j k there here r cell, grows k r cell)

-- what sent rows show of a site's row, the site has done
pub shown_done : (w : World) (rows : List Row) → IsSoundWorld w → AreSentRows w.layout (account_at w) rows → (j : ℕ) → j < w.layout.sites → (r : ℕ) (cell : Cell) → shown_by (shape_of w.layout) rows r j cell ≤ own (account_at w j) r cell
shown_done w rows sound sent j below r cell =
    shown_as (λ f r2 s2. (c : Cell) → f c ≤ own (account_at w s2) r2 c) (shape_of w.layout)
    (λ f g r2 s2 same less c. omega (arith, same c, less c)) rows (all_done rows sent) r j
    (start_below (shape_of w.layout) r j (own (account_at w j) r) (row_fits w.layout (account_at w) sound.family j below r)) cell
  where
    all_done : (ps : List Row) → AreSentRows w.layout (account_at w) ps → AllByRecursion (λ p. (c : Cell) → counter_in (counters_of p) c ≤ own (account_at w p.s) p.r c) ps
    all_done [] all = tt
    all_done (p ∷ ps) all = (all.0.done, all_done ps all.1)

-- the same as the site itself reads the rows
pub shown_done_here : (w : World) (i : ℕ) (rows : List Row) → IsSoundWorld w → i < w.layout.sites → AreSentRows w.layout (account_at w) rows → (j : ℕ) → j < w.layout.sites → (r : ℕ) (cell : Cell) → shown_by (shape_of (account_at w i).origin.layout) rows r j cell ≤ own (account_at w j) r cell
shown_done_here w i rows sound below sent j there r cell =
    omega (
      arith,
      same_shown (account_at w i).origin.layout w.layout (sound.family.same_records i below) rows r j cell,
      shown_done w rows sound sent j there r cell,
    )

-- sent rows are tellable to a site that knows as many sites as they have counters for
pub all_tellable : (w : World) (i : ℕ) (rows : List Row) → IsSoundWorld w → i < w.layout.sites → AreSentRows w.layout (account_at w) rows → AllByRecursion (λ p. length p.out ≤ (account_at w i).sites) rows → AllByRecursion (IsTellable (shape_of (layout_of (account_at w i)))) rows
all_tellable w i [] sound below all narrow = tt
all_tellable w i (p ∷ ps) sound below all narrow =
    let same = sound.family.same_records i below in (
      record {
        record_there = subst (λ (records : List RecordSpec). p.r < length (map record_shape records)) (sym same) all.0.record_there;
        site_there = all.0.site_there;
        few_sites = narrow.0;
        fits = subst (λ (x : ℕ). FitsRow x p.s (counter_in (counters_of p))) (sym (same_grant (account_at w i).origin.layout w.layout same p.r p.s)) all.0.fits;
      },
      all_tellable w i ps sound below all.1 narrow.1,
    )

-- a merge of sent rows is not refused where the site knows as many sites
pub rows_accepted : (w : World) (i : ℕ) (delta : DeltaState) → IsSoundWorld w → i < w.layout.sites → AreSentRows w.layout (account_at w) delta.rows → AllByRecursion (λ p. length p.out ≤ (account_at w i).sites) delta.rows → reason (view_of (account_at w i)) (Merge delta) ≡ None
rows_accepted w i delta sound below sent narrow =
    let a = account_at w i in
    merge_accepted (view_of a) delta (all_tellable w i delta.rows sound below sent narrow)
    (λ r cell.
    omega (
      arith,
      shown_same (shape_of (layout_of a)) (shape_of a.origin.layout) refl delta.rows r a.origin.site cell,
      ap (λ x. shown_by (shape_of a.origin.layout) delta.rows r x cell) (sound.family.same_site i below),
      shown_done_here w i delta.rows sound below sent i below r cell,
      known_own a r cell,
    ))

-- where a site knows all sites, all sent rows are narrow enough
pub all_narrow : (w : World) (i : ℕ) (rows : List Row) → (account_at w i).sites ≡ w.layout.sites → AreSentRows w.layout (account_at w) rows → AllByRecursion (λ p. length p.out ≤ (account_at w i).sites) rows
all_narrow w i [] grown all = tt
all_narrow w i (p ∷ ps) grown all = (omega (arith, all.0.few_sites), all_narrow w i ps grown all.1)
