-- Lines have one reading at most, none beside a refusal, and one refused line.
use Rattle.std.proofs.Common.{◌≡◌, ℕ, ◌<◌, List, [], ◌∷◌, ◌++◌, length, get_or, drop, map, refl, sym, ap, subst, ◌∙◌, ◌⊎◌, inl, inr, ◌≤◌, arith}
use Rattle.std.specs.List.{AllByRecursion}
use Rattle.std.proofs.lemmas.Bool.{cases_lt}
use Rattle.std.proofs.lemmas.List.Elements.{recursion_from_All}
use Rattle.merge_core.specs.Layout.{LayoutState, IsLayout}
use Rattle.text_input.specs.Lines.{lines_of}
use Rattle.desk_log.specs.declared.entry.Entry.{Entry}
use Rattle.desk_log.specs.declared.transcript.Transcript.{Transcript}
use Rattle.transcript_text.specs.Texts.{entry_text}
use Rattle.transcript_reader.specs.declared.openings.Opening.{Opening}
use Rattle.transcript_reader.specs.declared.runs.SiteRun.{SiteRun}
use Rattle.transcript_reader.specs.Fits.{FitsEntry}
use Rattle.transcript_reader.specs.Reading.{BeginsRun, AreLines, AreTranscriptsOf, IsRefusedAt, opening_of, transcripts_below}
use Rattle.transcript_reader.proofs.OnceLemmas.{one_entry, one_opening, begins_no_entry}

first_same : {A : Type 0} (x y : A) (xs ys : List A) → x ∷ xs ≡ y ∷ ys → x ≡ y
first_same {A} x y xs ys e = ap (λ (l : List A). get_or l 0 x) e

rest_same : {A : Type 0} (x y : A) (xs ys : List A) → x ∷ xs ≡ y ∷ ys → xs ≡ ys
rest_same {A} x y xs ys e = ap (λ (l : List A). drop 1 l) e

not_nil : {A : Type 0} (x : A) (xs : List A) → [] ≡ x ∷ xs → ⊥
not_nil {A} x xs e = let clash : ◌≡◌ {A = ℕ} 0 (length (x ∷ xs)) = ap (λ (l : List A). length l) e in absurd (omega arith)

module _ (layout : LayoutState) (is : IsLayout layout) where
  abbrev text : Entry → List ℕ
  text = entry_text layout.records

  -- the first of the lines of runs is that of no entry
  no_entry_first : (lines more : List (List ℕ)) (rs : List SiteRun) (e : Entry) → AreLines layout lines rs → lines ≡ text e ∷ more → ⊥
  no_entry_first lines more [] e are front = not_nil (text e) more (sym are ∙ front)
  no_entry_first lines more (r ∷ rs) e are front =
      begins_no_entry layout is are.0 (opening_of r) e are.2.0 (first_same are.0 (text e) _ more (sym are.2.1.1.0 ∙ front))

  record AreSame (es fs : List Entry) (a b : List (List ℕ)) : Type 0 where
    entries : es ≡ fs
    behind : a ≡ b

  -- entries in front of the lines of runs
  one_front : (es fs : List Entry) (a b : List (List ℕ)) (rs qs : List SiteRun) → AllByRecursion FitsEntry es → AllByRecursion FitsEntry fs
      → map text es ++ a ≡ map text fs ++ b → AreLines layout a rs → AreLines layout b qs → AreSame es fs a b
  one_front [] [] a b rs qs fit fit2 same are bre = record { entries = refl; behind = same }
  one_front [] (f ∷ fs) a b rs qs fit fit2 same are bre = absurd (no_entry_first a (map text fs ++ b) rs f are same)
  one_front (e ∷ es) [] a b rs qs fit fit2 same are bre = absurd (no_entry_first b (map text es ++ a) qs e bre (sym same))
  one_front (e ∷ es) (f ∷ fs) a b rs qs fit fit2 same are bre =
      let first : e ≡ f = one_entry layout is e f fit.0 fit2.0 (first_same (text e) (text f) (map text es ++ a) (map text fs ++ b) same) in
      let later = one_front es fs a b rs qs fit.1 fit2.1 (rest_same (text e) (text f) (map text es ++ a) (map text fs ++ b) same) are bre in
      record { entries = λ k. first k ∷ later.entries k; behind = later.behind }

  run_same : (r q : SiteRun) → opening_of r ≡ opening_of q → r.run.entries ≡ q.run.entries → r ≡ q
  run_same r q o es = λ k. record { site = (o k).site; run = record { sites = (o k).sites; first = (o k).first; entries = es k } }

  pub one_reading : (lines : List (List ℕ)) (rs qs : List SiteRun) → AreLines layout lines rs → AreLines layout lines qs → rs ≡ qs
  one_reading lines [] [] are bre = refl
  one_reading lines [] (q ∷ qs) are bre = absurd (not_nil bre.0 _ (sym are ∙ bre.2.1.1.0))
  one_reading lines (r ∷ rs) [] are bre = absurd (not_nil are.0 _ (sym bre ∙ are.2.1.1.0))
  one_reading lines (r ∷ rs) (q ∷ qs) are bre =
      let split : are.0 ∷ (map text r.run.entries ++ are.1) ≡ bre.0 ∷ (map text q.run.entries ++ bre.1) = sym are.2.1.1.0 ∙ bre.2.1.1.0 in
      let line : are.0 ≡ bre.0 = first_same are.0 bre.0 _ _ split in
      let opening = one_opening layout is bre.0 (opening_of r) (opening_of q) (subst (λ (l : List ℕ). BeginsRun layout l (opening_of r)) line are.2.0) bre.2.0 in
      let front = one_front r.run.entries q.run.entries are.1 bre.1 rs qs (recursion_from_All FitsEntry r.run.entries are.2.1.0) (recursion_from_All FitsEntry q.run.entries bre.2.1.0)
      (rest_same are.0 bre.0 _ _ split) are.2.1.1.1 bre.2.1.1.1 in
      let later = one_reading bre.1 rs qs (subst (λ (ls : List (List ℕ)). AreLines layout ls rs) front.behind are.2.1.1.1) bre.2.1.1.1 in
      let here = run_same r q opening front.entries in
      λ k. here k ∷ later k

  pub one_answer : (bytes : List ℕ) (ts us : List Transcript) → AreTranscriptsOf layout bytes ts → AreTranscriptsOf layout bytes us → ts ≡ us
  one_answer bytes ts us read read2 =
      read.1.1
      ∙ (ap (λ (rs : List SiteRun). transcripts_below rs layout.sites) (one_reading (lines_of bytes) read.0 read2.0 read.1.0 read2.1.0)
      ∙ sym read2.1.1)

  -- ---- refused lines

  -- what a line is that stands behind so many others: it begins a run, or is that of an entry and not the first
  abbrev IsKnown : List ℕ → List (List ℕ) → Type 0
  IsKnown line front = ((it : Opening) × BeginsRun layout line it) ⊎ ((front ≡ [] → ⊥) × ((e : Entry) × (FitsEntry e × (line ≡ text e))))

  behind_some : (line x : List ℕ) (front : List (List ℕ)) → IsKnown line front → IsKnown line (x ∷ front)
  behind_some line x front (inl begins) = inl begins
  behind_some line x front (inr entry) = inr ((λ e. not_nil x front (sym e)), entry.1)

  -- a line of entries, or of what stands behind them
  among : (es : List Entry) (more front rest : List (List ℕ)) (line x : List ℕ) → AllByRecursion FitsEntry es → map text es ++ more ≡ front ++ line ∷ rest
      → ((front2 : List (List ℕ)) → more ≡ front2 ++ line ∷ rest → IsKnown line front2) → IsKnown line (x ∷ front)
  among [] more front rest line x fit split known = behind_some line x front (known front split)
  among (e ∷ es) more [] rest line x fit split known =
      inr ((λ empty. not_nil x [] (sym empty)), (e, (fit.0, sym (first_same (text e) line (map text es ++ more) rest split))))
  among (e ∷ es) more (y ∷ front) rest line x fit split known =
      behind_some line x (y ∷ front) (among es more front rest line y fit.1 (rest_same (text e) y (map text es ++ more) (front ++ line ∷ rest) split) known)

  line_known : (lines : List (List ℕ)) (rs : List SiteRun) (front rest : List (List ℕ)) (line : List ℕ) → AreLines layout lines rs → lines ≡ front ++ line ∷ rest → IsKnown line front
  line_known lines [] [] rest line are split = absurd (not_nil line rest (sym are ∙ split))
  line_known lines [] (x ∷ front) rest line are split = absurd (not_nil x (front ++ line ∷ rest) (sym are ∙ split))
  line_known lines (r ∷ rs) [] rest line are split =
      inl (opening_of r, subst (λ (l : List ℕ). BeginsRun layout l (opening_of r)) (first_same are.0 line _ rest (sym are.2.1.1.0 ∙ split)) are.2.0)
  line_known lines (r ∷ rs) (x ∷ front) rest line are split =
      among r.run.entries are.1 front rest line x (recursion_from_All FitsEntry r.run.entries are.2.1.0) (rest_same are.0 x _ (front ++ line ∷ rest) (sym are.2.1.1.0 ∙ split))
      (λ front2 later. line_known are.1 rs front2 rest line are.2.1.1.1 later)

  no_front : (front : List (List ℕ)) (rs : List SiteRun) → AreLines layout front rs → rs ≡ [] → front ≡ []
  no_front front [] are none = are
  no_front front (r ∷ rs) are none = absurd (not_nil r rs (sym none))

  -- a refused line is none of the lines of runs
  not_known : (lines : List (List ℕ)) (n : ℕ) (at : IsRefusedAt layout lines n) → IsKnown at.line at.front → ⊥
  not_known lines n at (inl begins) = at.no_run begins.0 begins.1
  not_known lines n at (inr entry) = elim at.no_entry [
    | inl none ↦ entry.0 (no_front at.front at.runs at.are_runs none)
    | inr none ↦ none entry.1.0 entry.1.1.0 entry.1.1.1
  ]

  pub none_beside : (lines : List (List ℕ)) (rs : List SiteRun) (n : ℕ) → AreLines layout lines rs → IsRefusedAt layout lines n → ⊥
  none_beside lines rs n are at = not_known lines n at (line_known lines rs at.front at.rest at.line are at.is_front)

  -- a longer front goes on with the line behind a shorter one
  longer : (xs ys us vs : List (List ℕ)) (x : List ℕ) → xs ++ x ∷ us ≡ ys ++ vs → length xs < length ys → (more : List (List ℕ)) × (ys ≡ xs ++ x ∷ more)
  longer xs [] us vs x same short = absurd (omega arith)
  longer [] (y ∷ ys) us vs x same short = (ys, ap (λ (l : List ℕ). l ∷ ys) (sym (first_same x y us (ys ++ vs) same)))
  longer (z ∷ xs) (y ∷ ys) us vs x same short =
      let later = longer xs ys us vs x (rest_same z y (xs ++ x ∷ us) (ys ++ vs) same) (omega arith) in
      let first : y ≡ z = sym (first_same z y (xs ++ x ∷ us) (ys ++ vs) same) in
      (later.0, λ k. first k ∷ later.1 k)

  no_earlier : (lines : List (List ℕ)) (n m : ℕ) (one : IsRefusedAt layout lines n) (other : IsRefusedAt layout lines m) → length one.front < length other.front → ⊥
  no_earlier lines n m one other short =
      let more = longer one.front other.front one.rest (other.line ∷ other.rest) one.line (sym one.is_front ∙ other.is_front) short in
      not_known lines n one (line_known other.front other.runs one.front more.0 one.line other.are_runs more.1)

  pub one_refused : (lines : List (List ℕ)) (n m : ℕ) → IsRefusedAt layout lines n → IsRefusedAt layout lines m → n ≡ m
  one_refused lines n m one other = at (cases_lt (length one.front) (length other.front)) (cases_lt (length other.front) (length one.front))
    where
      at : (length one.front < length other.front) ⊎ (length other.front ≤ length one.front) → (length other.front < length one.front) ⊎ (length one.front ≤ length other.front) → n ≡ m
      at (inl short) last = absurd (no_earlier lines n m one other short)
      at (inr past) (inl short) = absurd (no_earlier lines m n other one short)
      at (inr past) (inr past2) = omega (arith, one.is_number, other.is_number, past, past2)
