-- Whole lines, and what is put behind them.
use Rattle.std.proofs.Common.{◌≡◌, ℕ, String, ◌<◌, ◌≤◌, ◌⊎◌, inl, inr, List, [], ◌∷◌, ◌++◌, length, take, map, string_bytes, Option, None, Some, Result, Ok, Err, refl, sym, ap, subst, ◌∙◌, append-nil, length-append, arith}
use Rattle.std.proofs.lemmas.Bool.{cases_lt}
use Rattle.std.proofs.Math.Seq.{take-append_seam, take-length}
use Rattle.std.proofs.lemmas.List.{take-append-le, get_or_past}
use Rattle.merge_core.specs.Layout.{LayoutState}
use Rattle.admission_core.specs.Kept.{DurableState}
use Rattle.desk_log.specs.declared.entry.Entry.{Entry}
use Rattle.desk_log.specs.declared.transcript.Run.{Run}
use Rattle.desk_log.specs.declared.transcript.Transcript.{Transcript}
use Rattle.transcript_reader.specs.declared.runs.SiteRun.{SiteRun}
use Rattle.transcript_text.specs.Texts.{entry_text}
use Rattle.transcript_reader.specs.Reading.{AreLines, transcripts_below}
use Rattle.transcript_reader.proofs.ReadingLemmas.{length_below}
use Rattle.text_input.specs.Lines.{lines_of}
use Rattle.log_judge.specs.Cut.{no_transcript, runs_at}
use Rattle.log_file.specs.declared.mending.Mended.{Mended}
use Rattle.log_file.specs.declared.mending.Judged.{Judged}
use Rattle.log_file.specs.declared.mending.Judged.TheVariants as judged
use Rattle.log_file.specs.declared.refusal.LogError.{LogError}
use Rattle.log_file.specs.declared.refusal.LogError.TheVariants.{Refused, Memory, Io}
use Rattle.log_file.specs.declared.refusal.LogRefusal.TheVariants.{NotRead, InUse, NotALog, NotTranscript, WrongSite, WrongStore}
use Rattle.std.specs.Prelude.{MatchOption}
use Rattle.log_file.specs.Runs.{EndsWith, HasNoLast, in_doubt}
use Rattle.log_file.specs.Pieces.{IsTorn}
use Rattle.log_file.specs.Fronts.{MayBeLog}
use Rattle.log_file.specs.Mending.{entry_line, IsFit, IsUnfit, IsDoubted, IsRewritten, FitsNot, MendsTo, IsWrongStore, IsFaultOf, IsRefusedByLines, IsMended}
use Rattle.log_file.specs.Judging.{IsNoLog, IsJudged, IsUnfitWith, bytes_of, doubt_answer, MendsWhole, IsWholeMended}
use Rattle.log_file.proofs.RunLemmas.{runs_below}

-- ---- bytes of which the whole lines are mended

by_lines : (layout : LayoutState) (i : ℕ) (bytes whole torn : List ℕ) (first : DurableState) (e : LogError) → MayBeLog layout i bytes → IsTorn bytes whole torn
    → IsFaultOf layout i whole first e → IsRefusedByLines layout i bytes first e
by_lines layout i bytes whole torn first e may_be is_torn fault = record {
  may_be = may_be;
  whole = whole;
  torn = torn;
  is_torn = is_torn;
  fault = fault;
}

pub mended_bytes : (layout : LayoutState) (i : ℕ) (bytes whole torn : List ℕ) (first : DurableState) (result : Result Mended LogError) → MayBeLog layout i bytes
    → IsTorn bytes whole torn → IsWholeMended layout i whole first result → IsMended layout i bytes first result
mended_bytes layout i bytes whole torn first (Ok m) may_be is_torn mends =
    let same : take m.kept bytes ≡ take m.kept whole = ap (take m.kept) is_torn.split ∙ take-append-le m.kept whole torn mends.within in
    record {
      may_be = may_be;
      whole = whole;
      torn = torn;
      is_torn = is_torn;
      within = mends.within;
      fit = subst (λ (xs : List ℕ). IsFit layout i (xs ++ string_bytes m.tail) first) (sym same) mends.fit;
      how = elim mends.how [
        | inl all ↦ inl all
        | inr some ↦ inr (subst (λ (xs : List ℕ). IsRewritten layout i whole xs first (string_bytes m.tail)) (sym same) some)
      ];
    }
mended_bytes layout i bytes whole torn first (Err (Refused NotRead)) may_be is_torn fault = absurd fault
mended_bytes layout i bytes whole torn first (Err (Refused InUse)) may_be is_torn fault = absurd fault
mended_bytes layout i bytes whole torn first (Err (Refused NotALog)) may_be is_torn fault = absurd fault
mended_bytes layout i bytes whole torn first (Err (Refused (NotTranscript line))) may_be is_torn fault =
    by_lines layout i bytes whole torn first (Refused (NotTranscript line)) may_be is_torn fault
mended_bytes layout i bytes whole torn first (Err (Refused WrongSite)) may_be is_torn fault =
    by_lines layout i bytes whole torn first (Refused WrongSite) may_be is_torn fault
mended_bytes layout i bytes whole torn first (Err (Refused WrongStore)) may_be is_torn fault =
    by_lines layout i bytes whole torn first (Refused WrongStore) may_be is_torn fault
mended_bytes layout i bytes whole torn first (Err Memory) may_be is_torn fault = tt
mended_bytes layout i bytes whole torn first (Err Io) may_be is_torn fault = absurd fault

pub within_bytes : (layout : LayoutState) (i : ℕ) (bytes : List ℕ) (first : DurableState) (kept : ℕ) (tail : List ℕ) → MendsTo layout i bytes first kept tail
    → kept ≤ length bytes
within_bytes layout i bytes first kept tail mends =
    omega (arith, mends.within, ap (λ (xs : List ℕ). length xs) mends.is_torn.split, length-append mends.whole mends.torn)

-- ---- whole lines that are judged

pub left_whole : (layout : LayoutState) (i : ℕ) (whole : List ℕ) (first : DurableState) (kept : ℕ) (tail : List ℕ) → kept ≡ length whole → tail ≡ []
    → IsFit layout i whole first → MendsWhole layout i whole first kept tail
left_whole layout i whole first kept tail all none fit = record {
  within = omega (arith, all);
  fit = subst (λ (xs : List ℕ). IsFit layout i xs first)
      (sym (ap (λ (xs : List ℕ). take kept whole ++ xs) none ∙ (append-nil (take kept whole) ∙ (ap (λ (n : ℕ). take n whole) all ∙ take-length whole)))) fit;
  how = inl (all, none);
}

pub no_log : (layout : LayoutState) (i : ℕ) (whole : List ℕ) (first : DurableState) (e : LogError) → IsNoLog layout i whole e → IsFaultOf layout i whole first e
no_log layout i whole first (Refused NotRead) it = it
no_log layout i whole first (Refused InUse) it = it
no_log layout i whole first (Refused NotALog) it = it
no_log layout i whole first (Refused (NotTranscript line)) it = it
no_log layout i whole first (Refused WrongSite) it = it
no_log layout i whole first (Refused WrongStore) it = absurd it
no_log layout i whole first Memory it = tt
no_log layout i whole first Io it = it

pub no_last : (layout : LayoutState) (i : ℕ) (whole : List ℕ) (first : DurableState) → IsUnfitWith layout i whole first None → IsWrongStore layout i whole first
no_last layout i whole first unfit = record {
  ts = unfit.0;
  unfit = unfit.1.0;
  no_doubt = inl unfit.1.1;
}

pub unfit_with : {A : Type 0} (layout : LayoutState) (i : ℕ) (whole : List ℕ) (first : DurableState) (ts : List Transcript) (text : Option (String A))
    → IsUnfit layout i whole first ts
    → MatchOption text (HasNoLast (runs_at ts i)) (λ t. (e : Entry) × (EndsWith (runs_at ts i) e × (string_bytes t ≡ entry_line layout (in_doubt e))))
    → IsUnfitWith layout i whole first (bytes_of text)
unfit_with layout i whole first ts None unfit none = (ts, (unfit, none))
unfit_with layout i whole first ts (Some text) unfit some = record {
  ts = ts;
  unfit = unfit;
  last = some.0;
  is_last = some.1.0;
  is_tail = some.1.1;
}

-- ---- a last entry in doubt

no_runs : (layout : LayoutState) (lines : List (List ℕ)) (rs : List SiteRun) → lines ≡ [] → AreLines layout lines rs → rs ≡ []
no_runs layout lines [] none are = refl
no_runs layout lines (r ∷ rs) none are = absurd (some (sym none ∙ are.2.1.1.0))
  where
    some : [] ≡ are.0 ∷ (map (entry_text layout.records) r.run.entries ++ are.1) → ⊥
    some e = cc

no_run_at : (n i : ℕ) → runs_at (transcripts_below [] n) i ≡ []
no_run_at n i = at (cases_lt i n)
  where
    at : (i < n) ⊎ (n ≤ i) → runs_at (transcripts_below [] n) i ≡ []
    at (inl below) = runs_below [] n i (transcripts_below [] n) refl below
    at (inr past) = ap (λ (t : Transcript). t.runs) (get_or_past (transcripts_below [] n) i no_transcript (omega (arith, past, length_below [] n)))

some_run : (runs earlier : List Run) (run : Run) → runs ≡ [] → runs ≡ earlier ++ run ∷ [] → ⊥
some_run runs [] run none split = absurd (cc)
some_run runs (r ∷ rs) run none split = absurd (cc)

-- lines with an entry are some
pub some_line : (layout : LayoutState) (i : ℕ) (whole : List ℕ) (first : DurableState) (tail : List ℕ) → IsDoubted layout i whole first tail → ¬ (whole ≡ [])
some_line layout i whole first tail doubted none =
    let read = doubted.unfit.log.read in
    let no_run : read.0 ≡ [] = no_runs layout (lines_of whole) read.0 (ap lines_of none) read.1.0 in
    let nothing : runs_at doubted.ts i ≡ [] =
    ap (λ (ts : List Transcript). runs_at ts i) (read.1.1 ∙ ap (λ (rs : List SiteRun). transcripts_below rs layout.sites) no_run)
    ∙ no_run_at layout.sites i in
    some_run (runs_at doubted.ts i) doubted.is_last.earlier_runs doubted.is_last.run nothing doubted.is_last.is_run

module _ (layout : LayoutState) (i : ℕ) (whole front other : List ℕ) (first : DurableState) (tail : List ℕ) (rewritten : IsRewritten layout i whole front first tail)
    (is : other ≡ front ++ tail) where
  wrong_store : FitsNot layout i other first → IsWrongStore layout i whole first
  wrong_store not = record {
    ts = rewritten.doubted.ts;
    unfit = rewritten.doubted.unfit;
    no_doubt = inr (front, tail, (rewritten, subst (λ (xs : List ℕ). FitsNot layout i xs first) is not));
  }

  unfit_other : {A : Type 0} (text : Option (String A)) → IsUnfitWith layout i other first (bytes_of text) → FitsNot layout i other first
  unfit_other None unfit = inr (inr (unfit.0, unfit.1.0))
  unfit_other (Some text) doubted = inr (inr (doubted.ts, doubted.unfit))

  pub refused_doubt : (answer : Result Judged LogError) (e : LogError) → IsJudged layout i other first answer → doubt_answer answer ≡ Err e
      → IsFaultOf layout i whole first e
  refused_doubt (Ok judged.Fits) e judged told = absurd (cc)
  refused_doubt (Ok (judged.Unfit text)) e judged told =
      let same : Refused WrongStore ≡ e = cc in
      subst (IsFaultOf layout i whole first) same (wrong_store (unfit_other text judged))
  refused_doubt (Err Memory) e judged told =
      let same : Memory ≡ e = cc in
      subst (IsFaultOf layout i whole first) same tt
  refused_doubt (Err (Refused NotRead)) e judged told = absurd judged
  refused_doubt (Err (Refused InUse)) e judged told = absurd judged
  refused_doubt (Err (Refused NotALog)) e judged told = absurd judged
  refused_doubt (Err (Refused (NotTranscript line))) e judged told =
      let same : Refused WrongStore ≡ e = cc in
      subst (IsFaultOf layout i whole first) same (wrong_store (inl (line, judged)))
  refused_doubt (Err (Refused WrongSite)) e judged told =
      let same : Refused WrongStore ≡ e = cc in
      subst (IsFaultOf layout i whole first) same (wrong_store (inr (inl judged)))
  refused_doubt (Err (Refused WrongStore)) e judged told = absurd judged
  refused_doubt (Err Io) e judged told = absurd judged

  fits_doubt : (answer : Result Judged LogError) → IsJudged layout i other first answer → doubt_answer answer ≡ Ok tt → IsFit layout i other first
  fits_doubt (Ok judged.Fits) judged told = judged
  fits_doubt (Ok (judged.Unfit text)) judged told = absurd (cc)
  fits_doubt (Err Memory) judged told = absurd (cc)
  fits_doubt (Err (Refused refusal)) judged told = absurd (cc)
  fits_doubt (Err Io) judged told = absurd (cc)

  pub taken_doubt : (answer : Result Judged LogError) (kept : ℕ) (text : List ℕ) → IsJudged layout i other first answer → doubt_answer answer ≡ Ok tt
      → kept ≡ length front → text ≡ tail → MendsWhole layout i whole first kept text
  taken_doubt answer kept text judged told all same =
      let at_seam : take kept whole ≡ front =
      ap (λ (n : ℕ). take n whole) all
      ∙ (ap (λ (xs : List ℕ). take (length front) xs) rewritten.cut.split ∙ take-append_seam front (rewritten.line ++ 10 ∷ [])) in
      let whole_text : other ≡ take kept whole ++ text =
      is ∙ (ap (λ (xs : List ℕ). xs ++ tail) (sym at_seam) ∙ ap (λ (xs : List ℕ). take kept whole ++ xs) (sym same)) in
      record {
        within = omega (arith, all, ap (λ (xs : List ℕ). length xs) rewritten.cut.split, length-append front (rewritten.line ++ 10 ∷ []));
        fit = subst (λ (xs : List ℕ). IsFit layout i xs first) whole_text (fits_doubt answer judged told);
        how = inr (subst (λ (xs : List ℕ). IsRewritten layout i whole (take kept whole) first xs) (sym same)
            (subst (λ (xs : List ℕ). IsRewritten layout i whole xs first tail) (sym at_seam) rewritten));
      }
