-- Rows above what their sites had done: in one row, in rising rows, in lists of them.
use Rattle.std.proofs.Common.{◌≡◌, ℕ, suc, ◌+◌, ◌-◌, ◌<◌, ◌≤◌, ◌⊎◌, inl, inr, get_or, map, add-zero, List, [], ◌∷◌, ◌++◌, length, refl, sym, ap, subst, ◌∙◌, arith}
use Rattle.std.specs.Prelude.{slice_index}
use Rattle.std.proofs.lemmas.Bool.{cases_eq, cases_lt}
use Rattle.std.specs.List.{AllByRecursion}
use Rattle.merge_core.specs.declared.cell.Cell.TheVariants.{Out, Taken, Ann, Fin}
use Rattle.merge_core.specs.declared.delta.Row.{Row}
use Rattle.merge_core.specs.Delta.{ComesBefore, IsRising}
use Rattle.merge_core.specs.Rows.{RowCounters}
use Rattle.multi_site_world.specs.Laws.{StandsIn}
use Rattle.std.proofs.Common.{Bool, true}
use Rattle.std.proofs.lemmas.Bool.{cond-true}
use Rattle.std.proofs.lemmas.List.{get_or_append_left, get_or-append-add, get_or_past}
use Rattle.merge_core.specs.Delta.{DeltaState}
use Rattle.admission_model.specs.declared.ask.Call.TheVariants.{Merge}
use Rattle.desk_log.specs.declared.entry.Entry.{Entry}
use Rattle.desk_log.specs.declared.transcript.Run.{Run}
use Rattle.log_judge.specs.Cut.{is_accepted, merge_rows, rows_brought}
use Rattle.log_judge.specs.Excess.{IsAbove, IsAhead, NoneAhead, IsFirstAhead, first_flag, later_flags, brought_by}

-- a row above another, of which no count is, has more seats given
pub only_out : (p q : RowCounters) → p.taken ≤ q.taken → p.ann ≤ q.ann → p.fin ≤ q.fin → IsAbove p q → (k : ℕ) × (slice_index q.out k < slice_index p.out k)
only_out p q t a f (Out j, h) = (j, h)
only_out p q t a f (Taken, h) = absurd (omega (arith, t, h))
only_out p q t a f (Ann, h) = absurd (omega (arith, a, h))
only_out p q t a f (Fin, h) = absurd (omega (arith, f, h))

-- of rising rows, none stands before the first
pub none_before : (p : Row) (ps : List Row) → IsRising (p ∷ ps) → (q : Row) → StandsIn q (p ∷ ps) → ¬ ((q.r < p.r) ⊎ ((q.r ≡ p.r) × (q.s < p.s)))
none_before p ps rising q (inl e) (inl less) = let same : q.r ≡ p.r = ap (λ (x : Row). x.r) e in omega (arith, less, same)
none_before p ps rising q (inl e) (inr (same, less)) = let sites : q.s ≡ p.s = ap (λ (x : Row). x.s) e in omega (arith, less, sites)
none_before p ps rising q (inr there) before = apart (behind ps rising.0 there) before
  where
    behind : (qs : List Row) → AllByRecursion (ComesBefore p) qs → StandsIn q qs → ComesBefore p q
    behind [] all in_there = absurd in_there
    behind (x ∷ xs) all (inl e) = subst (ComesBefore p) (sym e) all.0
    behind (x ∷ xs) all (inr h) = behind xs all.1 h

    apart : (p.r < q.r) ⊎ ((p.r ≡ q.r) × (p.s < q.s)) → (q.r < p.r) ⊎ ((q.r ≡ p.r) × (q.s < p.s)) → ⊥
    apart (inl a) (inl b) = omega (arith, a, b)
    apart (inl a) (inr (b, c)) = omega (arith, a, b)
    apart (inr (a, c)) (inl b) = omega (arith, a, b)
    apart (inr (a, b)) (inr (c, d)) = omega (arith, b, d)

-- the first of the rows that are left is the first one ahead
pub first_found : (tables : List (List Row)) (rows rest later : List Row) (p : Row) → rest ≡ p ∷ later → IsRising rest → ((q : Row) → StandsIn q rest → StandsIn q rows) → ((q : Row) → StandsIn q rows → IsAhead tables q → StandsIn q rest) → IsAhead tables p → IsFirstAhead tables rows p.r p.s
first_found tables rows rest later p split rising among left ahead = record {
  row = p;
  here = among p (subst (StandsIn p) (sym split) (inl refl));
  ahead = ahead;
  record_is = refl;
  origin_is = refl;
  least = λ q there more. none_before p later (subst IsRising split rising) q (subst (StandsIn q) split (left q there more));
}

-- a row that is not ahead need not be looked for
pub rows_passed : (tables : List (List Row)) (rows rest later : List Row) (p : Row) → rest ≡ p ∷ later → IsRising rest → ((q : Row) → StandsIn q rest → StandsIn q rows) → ((q : Row) → StandsIn q rows → IsAhead tables q → StandsIn q rest) → (¬ IsAhead tables p)
    → IsRising later × ((q : Row) → StandsIn q later → StandsIn q rows) × ((q : Row) → StandsIn q rows → IsAhead tables q → StandsIn q later)
rows_passed tables rows rest later p split rising among left not_ahead =
    (rises.1, λ q there. among q (subst (StandsIn q) (sym split) (inr there)), λ q there ahead. at q ahead (subst (StandsIn q) split (left q there ahead)))
  where
    rises : IsRising (p ∷ later)
    rises = subst IsRising split rising

    at : (q : Row) → IsAhead tables q → (q ≡ p) ⊎ StandsIn q later → StandsIn q later
    at q ahead (inl e) = absurd (not_ahead (subst (IsAhead tables) e ahead))
    at q ahead (inr h) = h

-- the rows of the element that lists are walked to
pub here_now : {X : Type 0} (f : X → List Row) (all rest later : List X) (x : X) (at : ℕ) → rest ≡ x ∷ later → ((k : ℕ) → get_or (map f all) (at + k) [] ≡ get_or (map f rest) k []) → get_or (map f all) at [] ≡ f x
here_now f all rest later x at split here =
    ap (λ (n : ℕ). get_or (map f all) n []) (sym (add-zero at))
    ∙ (here 0 ∙ ap (λ (xs : List _). get_or (map f xs) 0 []) split)

-- one further element, of which no row is ahead
pub none_more : (tables lists : List (List Row)) (at : ℕ) → ((k : ℕ) → k < at → NoneAhead tables (get_or lists k [])) → NoneAhead tables (get_or lists at []) → (k : ℕ) → k < at + 1 → NoneAhead tables (get_or lists k [])
none_more tables lists at none now k below = decide (cases_eq k at)
  where
    decide : (k ≡ at) ⊎ (k ≡ at → ⊥) → NoneAhead tables (get_or lists k [])
    decide (inl e) = subst (λ (n : ℕ). NoneAhead tables (get_or lists n [])) (sym e) now
    decide (inr ne) = none k (omega (arith, below, ne))

pub here_next : {X : Type 0} (f : X → List Row) (all rest later : List X) (x : X) (at : ℕ) → rest ≡ x ∷ later → ((k : ℕ) → get_or (map f all) (at + k) [] ≡ get_or (map f rest) k []) → (k : ℕ) → get_or (map f all) (at + 1 + k) [] ≡ get_or (map f later) k []
here_next f all rest later x at split here k =
    let next : at + 1 + k ≡ at + suc k = omega arith in
    ap (λ (n : ℕ). get_or (map f all) n []) next
    ∙ (here (suc k) ∙ ap (λ (xs : List _). get_or (map f xs) (suc k) []) split)

-- no row is ahead where no element is left
pub none_behind : (tables lists : List (List Row)) (at : ℕ) → ((k : ℕ) → k < at → NoneAhead tables (get_or lists k [])) → ((k : ℕ) → get_or lists (at + k) [] ≡ []) → (k : ℕ) → NoneAhead tables (get_or lists k [])
none_behind tables lists at none gone k = decide (cases_lt k at)
  where
    decide : (k < at) ⊎ (at ≤ k) → NoneAhead tables (get_or lists k [])
    decide (inl below) = none k below
    decide (inr past) = λ q there.
        let same : at + (k - at) ≡ k = omega (arith, past) in
        let empty : get_or lists k [] ≡ [] = ap (λ (n : ℕ). get_or lists n []) (sym same) ∙ gone (k - at) in
        absurd (subst (StandsIn q) empty there)

-- a merge that was carried out brought its rows
pub brought_merge : (kept : Bool) (e : Entry) (delta : DeltaState) → is_accepted kept e.reply ≡ true → e.call ≡ Merge delta → rows_brought kept e ≡ delta.rows
brought_merge kept e delta accepted call = cond-true (is_accepted kept e.reply) (merge_rows e.call) [] accepted ∙ ap merge_rows call

-- lists that are walked part by part: all that are there stand behind so many as are in front
abbrev pub StandBehind : List (List Row) → ℕ → List (List Row) → Type 0
StandBehind all at rest = (k : ℕ) → get_or all (at + k) [] ≡ get_or rest k []

-- a place in the part that comes first
in_front : (all xs ys : List (List Row)) (at k : ℕ) → StandBehind all at (xs ++ ys) → k < length xs → get_or all (at + k) [] ≡ get_or xs k []
in_front all xs ys at k behind below = behind k ∙ get_or_append_left xs ys [] k below

-- no row is ahead up to a place in the part that comes first
pub none_along : (tables all xs ys : List (List Row)) (at left m : ℕ) → ((k : ℕ) → k < at → NoneAhead tables (get_or all k [])) → StandBehind all at (xs ++ ys) → ((k : ℕ) → k < left → NoneAhead tables (get_or xs k [])) → m ≤ left → m ≤ length xs → (k : ℕ) → k < at + m → NoneAhead tables (get_or all k [])
none_along tables all xs ys at left m none behind here within fits k below = decide (cases_lt k at)
  where
    decide : (k < at) ⊎ (at ≤ k) → NoneAhead tables (get_or all k [])
    decide (inl earlier) = none k earlier
    decide (inr past) =
        let same : at + (k - at) ≡ k = omega (arith, past) in
        let moved : get_or all k [] ≡ get_or xs (k - at) [] = ap (λ (n : ℕ). get_or all n []) (sym same) ∙ in_front all xs ys at (k - at) behind (omega (arith, past, below, fits)) in
        subst (λ (rows : List Row). NoneAhead tables rows) (sym moved) (here (k - at) (omega (arith, past, below, within)))

-- the first row ahead of the part that comes first
pub found_along : (tables all xs ys : List (List Row)) (at a r s : ℕ) → StandBehind all at (xs ++ ys) → IsFirstAhead tables (get_or xs a []) r s → IsFirstAhead tables (get_or all (at + a) []) r s
found_along tables all xs ys at a r s behind found = decide (cases_lt a (length xs))
  where
    decide : (a < length xs) ⊎ (length xs ≤ a) → IsFirstAhead tables (get_or all (at + a) []) r s
    decide (inl below) = subst (λ (rows : List Row). IsFirstAhead tables rows r s) (sym (in_front all xs ys at a behind below)) found
    decide (inr past) = absurd (subst (StandsIn found.row) (get_or_past xs a [] past) found.here)

pub found_within : (tables xs : List (List Row)) (a r s : ℕ) → IsFirstAhead tables (get_or xs a []) r s → a < length xs
found_within tables xs a r s found = decide (cases_lt a (length xs))
  where
    decide : (a < length xs) ⊎ (length xs ≤ a) → a < length xs
    decide (inl below) = below
    decide (inr past) = absurd (subst (StandsIn found.row) (get_or_past xs a [] past) found.here)

-- the part behind
pub behind_next : (all xs ys : List (List Row)) (at n : ℕ) → length xs ≡ n → StandBehind all at (xs ++ ys) → StandBehind all (at + n) ys
behind_next all xs ys at n size behind k =
    let place : at + n + k ≡ at + (length xs + k) = omega (arith, size) in
    ap (λ (m : ℕ). get_or all m []) place ∙ (behind (length xs + k) ∙ get_or-append-add xs ys k [])

-- the part of the run that comes first
pub opened : (all : List (List Row)) (at : ℕ) (flags fs : List Bool) (flag : Bool) (rest later : List Run) (run : Run) (es : List Entry) → rest ≡ run ∷ later → flag ≡ first_flag flags → fs ≡ later_flags flags → es ≡ run.entries → StandBehind all at (brought_by flags rest) → StandBehind all at (map (rows_brought flag) es ++ brought_by fs later)
opened all at flags fs flag rest later run es split first behind_it entries behind k =
    behind k ∙ ap (λ (l : List (List Row)). get_or l k []) whole
  where
    whole : brought_by flags rest ≡ map (rows_brought flag) es ++ brought_by fs later
    whole = ap (brought_by flags) split ∙ (λ i. map (rows_brought (sym first i)) (sym entries i) ++ brought_by (sym behind_it i) later)
