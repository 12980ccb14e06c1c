-- The lines of runs, one run after another.
use Rattle.std.proofs.Common.{◌≡◌, ℕ, zero, suc, ◌+◌, ◌<◌, ◌≤◌, cond, Bool, true, false, eqb, List, [], ◌∷◌, ◌++◌, length, get_or, map, set, refl, sym, ap, subst, ◌∙◌, append_assoc, append-nil, length-append, ◌⊎◌, inl, inr, arith}
use Rattle.std.specs.List.{All}
use Rattle.std.proofs.lemmas.Bool.{eq-eqb, ne_eqb, cases_eq}
use Rattle.std.proofs.lemmas.List.{length-map, get_or_append_left, get_or_push}
use Rattle.merge_core.specs.Layout.{LayoutState}
use Rattle.desk_log.specs.declared.transcript.Run.{Run}
use Rattle.desk_log.specs.declared.transcript.Transcript.{Transcript}
use Rattle.transcript_reader.specs.declared.runs.SiteRun.{SiteRun}
use Rattle.transcript_text.specs.Texts.{entry_text}
use Rattle.transcript_reader.specs.Fits.{FitsEntry}
use Rattle.transcript_reader.specs.Reading.{BeginsRun, AreLines, IsRefusedAt, opening_of, runs_of, transcripts_below}
use Rattle.transcript_reader.specs.Lines.{StopsAt, HasRun, HasNoRun, AreReadUpTo}

-- ---- transcripts

runs_push : (i : ℕ) (rs : List SiteRun) (r : SiteRun) → runs_of i (rs ++ r ∷ []) ≡ runs_of i rs ++ cond (eqb r.site i) (r.run ∷ []) []
runs_push i [] r = at (eqb r.site i)
  where
    at : (b : Bool) → cond b (r.run ∷ []) [] ≡ [] ++ cond b (r.run ∷ []) []
    at b = refl
runs_push i (q ∷ qs) r = at (eqb q.site i) (runs_push i qs r)
  where
    more : List Run
    more = cond (eqb r.site i) (r.run ∷ []) []

    at : (b : Bool) → runs_of i (qs ++ r ∷ []) ≡ runs_of i qs ++ more
        → cond b (q.run ∷ runs_of i (qs ++ r ∷ [])) (runs_of i (qs ++ r ∷ [])) ≡ cond b (q.run ∷ runs_of i qs) (runs_of i qs) ++ more
    at true e = ap (λ (xs : List Run). q.run ∷ xs) e
    at false e = e

pub length_below : (rs : List SiteRun) (n : ℕ) → length (transcripts_below rs n) ≡ n
length_below rs zero = refl
length_below rs (suc n) = grind (arith, length-append (transcripts_below rs n) (record { site = n; runs = runs_of n rs } ∷ []), length_below rs n)

set_front : {A : Type 0} (xs : List A) (x y : A) (i : ℕ) → i < length xs → set (xs ++ x ∷ []) i y ≡ set xs i y ++ x ∷ []
set_front [] x y i below = absurd (omega arith)
set_front (z ∷ zs) x y zero below = refl
set_front {A} (z ∷ zs) x y (suc i) below = ap (λ (ws : List A). z ∷ ws) (set_front zs x y i (omega arith))

set_last : {A : Type 0} (xs : List A) (x y : A) (i : ℕ) → i ≡ length xs → set (xs ++ x ∷ []) i y ≡ xs ++ y ∷ []
set_last [] x y zero e = refl
set_last [] x y (suc i) e = absurd (omega arith)
set_last (z ∷ zs) x y zero e = absurd (omega arith)
set_last {A} (z ∷ zs) x y (suc i) e = ap (λ (ws : List A). z ∷ ws) (set_last zs x y i (omega arith))

untouched : (rs : List SiteRun) (r : SiteRun) (n : ℕ) → n ≤ r.site → transcripts_below (rs ++ r ∷ []) n ≡ transcripts_below rs n
untouched rs r zero past = refl
untouched rs r (suc n) past =
    let other : eqb r.site n ≡ false = ne_eqb r.site n (λ e. absurd (omega arith)) in
    let same : runs_of n (rs ++ r ∷ []) ≡ runs_of n rs = runs_push n rs r ∙ (ap (λ (b : Bool). runs_of n rs ++ cond b (r.run ∷ []) []) other ∙ append-nil (runs_of n rs)) in
    ap (λ (xs : List Transcript). xs ++ record { site = n; runs = runs_of n (rs ++ r ∷ []) } ∷ []) (untouched rs r n (omega arith))
    ∙ ap (λ (ys : List Run). transcripts_below rs n ++ record { site = n; runs = ys } ∷ []) same

-- a run behind those of its site
pub added : (rs : List SiteRun) (r : SiteRun) (n i : ℕ) → i ≡ r.site → i < n
    → set (transcripts_below rs n) i (record { site = i; runs = runs_of i rs ++ r.run ∷ [] }) ≡ transcripts_below (rs ++ r ∷ []) n
added rs r zero i is below = absurd (omega arith)
added rs r (suc n) i is below = at (cases_eq i n) (λ lower. added rs r n i is lower)
  where
    t : Transcript
    t = record { site = i; runs = runs_of i rs ++ r.run ∷ [] }

    at : (i ≡ n) ⊎ (i ≡ n → ⊥) → (i < n → set (transcripts_below rs n) i t ≡ transcripts_below (rs ++ r ∷ []) n) → set (transcripts_below rs (suc n)) i t ≡ transcripts_below (rs ++ r ∷ []) (suc n)
    at (inl last) earlier =
        let here : eqb r.site n ≡ true = eq-eqb r.site n (sym is ∙ last) in
        let mine : runs_of n (rs ++ r ∷ []) ≡ runs_of n rs ++ r.run ∷ [] = runs_push n rs r ∙ ap (λ (b : Bool). runs_of n rs ++ cond b (r.run ∷ []) []) here in
        set_last (transcripts_below rs n) (record { site = n; runs = runs_of n rs }) t i (last ∙ sym (length_below rs n))
        ∙ (ap (λ (k : ℕ). transcripts_below rs n ++ record { site = k; runs = runs_of k rs ++ r.run ∷ [] } ∷ []) last
        ∙ (ap (λ (ys : List Run). transcripts_below rs n ++ record { site = n; runs = ys } ∷ []) (sym mine)
        ∙ ap (λ (xs : List Transcript). xs ++ record { site = n; runs = runs_of n (rs ++ r ∷ []) } ∷ []) (sym (untouched rs r n (omega (arith, is, last))))))
    at (inr apart) earlier =
        let other : eqb r.site n ≡ false = ne_eqb r.site n (λ e. apart (is ∙ e)) in
        let same : runs_of n (rs ++ r ∷ []) ≡ runs_of n rs = runs_push n rs r ∙ (ap (λ (b : Bool). runs_of n rs ++ cond b (r.run ∷ []) []) other ∙ append-nil (runs_of n rs)) in
        set_front (transcripts_below rs n) (record { site = n; runs = runs_of n rs }) t i (omega (arith, apart, length_below rs n))
        ∙ (ap (λ (xs : List Transcript). xs ++ record { site = n; runs = runs_of n rs } ∷ []) (earlier (omega (arith, apart)))
        ∙ ap (λ (ys : List Run). transcripts_below (rs ++ r ∷ []) n ++ record { site = n; runs = ys } ∷ []) (sym same))

-- a transcript has the runs of its site
pub transcript_at : (rs : List SiteRun) (n i : ℕ) (d : Transcript) → i < n → get_or (transcripts_below rs n) i d ≡ record { site = i; runs = runs_of i rs }
transcript_at rs zero i d below = absurd (omega arith)
transcript_at rs (suc n) i d below = at (cases_eq i n) (λ lower. transcript_at rs n i d lower)
  where
    last : Transcript
    last = record { site = n; runs = runs_of n rs }

    at : (i ≡ n) ⊎ (i ≡ n → ⊥) → (i < n → get_or (transcripts_below rs n) i d ≡ record { site = i; runs = runs_of i rs })
        → get_or (transcripts_below rs n ++ last ∷ []) i d ≡ record { site = i; runs = runs_of i rs }
    at (inl same) earlier =
        get_or_push (transcripts_below rs n) last d i (length_below rs n ∙ sym same)
        ∙ ap (λ (k : ℕ). record { site = k; runs = runs_of k rs }) (sym same)
    at (inr apart) earlier =
        get_or_append_left (transcripts_below rs n) (last ∷ []) d i (omega (arith, apart, length_below rs n)) ∙ earlier (omega (arith, apart))

-- .. as the code adds it
pub added_at : (rs : List SiteRun) (r : SiteRun) (n i : ℕ) (ts : List Transcript) (old new : Transcript) → i ≡ r.site → r.site < n
    → ts ≡ transcripts_below rs n → old ≡ get_or ts i old → new ≡ record { site = old.site; runs = old.runs ++ r.run ∷ [] }
    → set ts i new ≡ transcripts_below (rs ++ r ∷ []) n
added_at rs r n i ts old new is below told read made =
    let lower : i < n = omega (arith, is) in
    let before : old ≡ record { site = i; runs = runs_of i rs } = read ∙ (ap (λ (xs : List Transcript). get_or xs i old) told ∙ transcript_at rs n i old lower) in
    let after : new ≡ record { site = i; runs = runs_of i rs ++ r.run ∷ [] } = made ∙ ap (λ (t : Transcript). record { site = t.site; runs = t.runs ++ r.run ∷ [] }) before in
    ap (λ (xs : List Transcript). set xs i new) told
    ∙ (ap (λ (t : Transcript). set (transcripts_below rs n) i t) after ∙ added rs r n i is lower)

-- ---- lines

lines_push : (layout : LayoutState) (front : List (List ℕ)) (rs : List SiteRun) (r : SiteRun) (line : List ℕ) → AreLines layout front rs
    → BeginsRun layout line (opening_of r) → All FitsEntry r.run.entries → AreLines layout (front ++ line ∷ map (entry_text layout.records) r.run.entries) (rs ++ r ∷ [])
lines_push layout front [] r line are begins fit =
    let es = map (entry_text layout.records) r.run.entries in (
      line,
      [],
      (begins, (fit, (ap (λ (xs : List (List ℕ)). xs ++ line ∷ es) are ∙ ap (λ (xs : List (List ℕ)). line ∷ xs) (sym (append-nil es)), refl))),
    )
lines_push layout front (q ∷ qs) r line are begins fit =
    let es = map (entry_text layout.records) q.run.entries in
    let more = line ∷ map (entry_text layout.records) r.run.entries in (
      are.0,
      are.1 ++ more,
      (
        are.2.0,
        (
          are.2.1.0,
          (
            ap (λ (xs : List (List ℕ)). xs ++ more) are.2.1.1.0 ∙ ap (λ (xs : List (List ℕ)). are.0 ∷ xs) (append_assoc es are.1 more),
            lines_push layout are.1 qs r line are.2.1.1.1 begins fit,
          ),
        ),
      ),
    )

-- a run more
pub reads_on : (layout : LayoutState) (lines rest behind : List (List ℕ)) (number next : ℕ) (old new : List Transcript) (r : SiteRun)
    → AreReadUpTo layout lines rest number old → HasRun layout rest r behind → StopsAt layout.records behind
    → next ≡ (number + length r.run.entries) + 1
    → ((rs : List SiteRun) (n : ℕ) → r.site < n → old ≡ transcripts_below rs n → new ≡ transcripts_below (rs ++ r ∷ []) n)
    → AreReadUpTo layout lines behind next new
reads_on layout lines rest behind number next old new r up has stops is_next adds =
    let es = map (entry_text layout.records) r.run.entries in
    let below : r.site < layout.sites = omega (arith, has.begins.may_begin.site_there, has.begins.may_begin.no_more) in
    record {
      runs = up.runs ++ r ∷ [];
      front = up.front ++ has.line ∷ es;
      is_front = up.is_front ∙ (ap (λ (xs : List (List ℕ)). up.front ++ xs) has.is_front ∙ sym (append_assoc up.front (has.line ∷ es) behind));
      is_number = omega (arith, is_next, up.is_number, length-append up.front (has.line ∷ es), length-map r.run.entries (entry_text layout.records));
      are_runs = lines_push layout up.front up.runs r has.line up.are_runs has.begins has.fit;
      stops = inr stops;
      told = adds up.runs layout.sites below up.told;
    }

-- a line that is refused
pub refused_at : (layout : LayoutState) (lines rest : List (List ℕ)) (number : ℕ) (ts : List Transcript)
    → AreReadUpTo layout lines rest number ts → HasNoRun layout rest → IsRefusedAt layout lines number
refused_at layout lines rest number ts up none = record {
  runs = up.runs;
  front = up.front;
  line = none.line;
  rest = none.rest;
  is_front = up.is_front ∙ ap (λ (xs : List (List ℕ)). up.front ++ xs) none.is_front;
  is_number = up.is_number;
  are_runs = up.are_runs;
  no_run = none.no_run;
  no_entry = elim up.stops [
    | inl empty ↦ inl empty
    | inr stops ↦ inr (subst (StopsAt layout.records) none.is_front stops)
  ];
}

-- all lines were read
pub all_read : (layout : LayoutState) (lines rest : List (List ℕ)) (number : ℕ) (ts : List Transcript)
    → AreReadUpTo layout lines rest number ts → rest ≡ []
    → (rs : List SiteRun) × (AreLines layout lines rs × (ts ≡ transcripts_below rs layout.sites))
all_read layout lines rest number ts up empty =
    let whole : lines ≡ up.front = up.is_front ∙ (ap (λ (xs : List (List ℕ)). up.front ++ xs) empty ∙ append-nil up.front) in
    (up.runs, (subst (λ (xs : List (List ℕ)). AreLines layout xs up.runs) (sym whole) up.are_runs, up.told))

-- nothing was read yet
pub none_read : (layout : LayoutState) (lines : List (List ℕ)) (ts : List Transcript) → ts ≡ transcripts_below [] layout.sites
    → AreReadUpTo layout lines lines 1 ts
none_read layout lines ts empty = record {
  runs = [];
  front = [];
  is_front = refl;
  is_number = refl;
  are_runs = refl;
  stops = inl refl;
  told = empty;
}
