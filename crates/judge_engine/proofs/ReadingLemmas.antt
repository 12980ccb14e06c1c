-- The lines of closed logs as they come, whatever comes behind them.
use Rattle.std.proofs.Common.{◌≡◌, ℕ, ◌+◌, ◌<◌, ◌⊎◌, inl, inr, true, false, eqb, List, [], ◌∷◌, ◌++◌, length, map, get_or, Option, None, Some, refl, sym, ap, subst, ◌∙◌, append_assoc, append-nil, length-append, arith}
use Rattle.std.specs.Prelude.{is_some}
use Rattle.std.specs.List.{All}
use Rattle.std.proofs.lemmas.List.Elements.{All-cons, All-from_recursion}
use Rattle.std.proofs.lemmas.Bool.{cond-true, cond-false, cond_both, eq-eqb, ne_eqb}
use Rattle.merge_core.specs.Layout.{LayoutState}
use Rattle.text_input.specs.Lines.{lines_of, EndsLine}
use Rattle.text_input.proofs.LineLemmas.{lines_behind}
use Rattle.desk_log.specs.declared.entry.Entry.{Entry}
use Rattle.desk_log.specs.declared.transcript.Run.{Run}
use Rattle.desk_log.specs.declared.transcript.Transcript.{Transcript}
use Rattle.log_judge.specs.declared.keeping.Keeping.{Keeping}
use Rattle.log_judge.specs.declared.stream.Logs.{Logs}
use Rattle.log_judge.specs.Cut.{no_transcript, runs_at}
use Rattle.log_judge.specs.Stream.{AreAllLogs, AreLogs, AreOfSome, IsLog, no_entries}
use Rattle.transcript_text.specs.Texts.{entry_text}
use Rattle.transcript_reader.specs.declared.openings.Opening.{Opening}
use Rattle.transcript_reader.specs.declared.runs.SiteRun.{SiteRun}
use Rattle.transcript_reader.specs.Fits.{FitsEntry}
use Rattle.transcript_reader.specs.Reading.{AreLines, BeginsRun, BeginsNoRun, IsNoEntry, IsRefusedAt, runs_of, transcripts_below}
use Rattle.transcript_reader.proofs.ReadingLemmas.{length_below, transcript_at}
use Rattle.judge_engine.specs.Cuts.{lengths_of}
use Rattle.judge_engine.specs.Reading.{AreLeft, AreLogsOf, AreRead, AreReadBytes, EndsBy, EndsReading, Follows, HasReadLines, KnowAllBut, Knows, MayAdd, ReadsBytes, ReadsLines, ReadsOn, ReadsTexts, left_at}
use Rattle.judge_engine.specs.declared.reading.Reading.{Reading}

-- the same entries and runs are to come
logs_same : (layout : LayoutState) (ts : List Transcript) (cut : List ℕ) (more more2 : ℕ → List Entry) (later later2 : ℕ → List Run) (logs : Logs) → ((i : ℕ) → i < length logs.sites.items → (more2 i ≡ more i) × (later2 i ≡ later i)) → AreLogs layout ts cut more later logs → AreLogs layout ts cut more2 later2 logs
logs_same layout ts cut more more2 later later2 logs same all = record {
  sites = all.sites;
  number = all.number;
  each = λ i below none.
      let s = same i below in
      subst (λ (m : List Entry). IsLog layout ts cut i logs.keeping m (later2 i) (get_or logs.sites.items i none)) (sym s.0)
      (subst (λ (l : List Run). IsLog layout ts cut i logs.keeping (more i) l (get_or logs.sites.items i none)) (sym s.1) (all.each i below none));
}

-- before the first line
pub fresh_knows : (layout : LayoutState) (cut : Option (List ℕ)) (keeping : Keeping) (logs : Logs) → logs.keeping ≡ keeping → ((ts : List Transcript) → length ts ≡ layout.sites → AreLogs layout ts (lengths_of cut ts) no_entries (runs_at ts) logs) → Knows layout cut keeping [] [] None logs
fresh_knows layout cut keeping logs keeps fresh = record {
  keeps = keeps;
  none_begun = λ none. refl;
  there = λ s none. absurd (let wrong : ◌≡◌ {A = Option ℕ} None (Some s) = none in cc);
  any = λ tail more rs left may.
      let empty : tail ≡ left.0 = left.2 ∙ ap (λ (es : List Entry). map (entry_text layout.records) es ++ left.0) may in
      record {
        runs = rs;
        lines = subst (λ (ls : List (List ℕ)). AreLines layout ls rs) (sym empty) left.3;
        known = λ others.
            let ts = transcripts_below (rs ++ others) layout.sites in
            let all = fresh ts (length_below (rs ++ others) layout.sites) in
            logs_same layout ts (lengths_of cut ts) no_entries (left_at None more) (runs_at ts) (λ i. runs_of i (rs ++ others)) logs
            (λ i below. (refl, sym (ap (λ (t : Transcript). t.runs) (transcript_at (rs ++ others) layout.sites i no_transcript (omega (arith, below, all.sites)))))) all;
      };
}

-- ---- an entry

entry_left : (layout : LayoutState) (tail : List (List ℕ)) (more : List Entry) (rs : List SiteRun) (line : List ℕ) (e : Entry) → FitsEntry e → line ≡ entry_text layout.records e → AreLeft layout tail more rs → AreLeft layout (line ∷ tail) (e ∷ more) rs
entry_left layout tail more rs line e fits is left = (left.0, All-cons FitsEntry e more fits left.1, (λ k. is k ∷ left.2 k), left.3)

-- what the code needs to know before it takes the entry
pub adds_there : (layout : LayoutState) (cut : Option (List ℕ)) (keeping : Keeping) (earlier : List SiteRun) (front : List (List ℕ)) (site : ℕ) (logs : Logs) (line : List ℕ) (e : Entry) (tail : List (List ℕ)) (more : List Entry) (rs : List SiteRun) → FitsEntry e → line ≡ entry_text layout.records e → Knows layout cut keeping earlier front (Some site) logs → AreLeft layout tail more rs
    → Follows layout cut earlier front (line ∷ tail) (Some site) (e ∷ more) rs logs
adds_there layout cut keeping earlier front site logs line e tail more rs fits is knows left = knows.any (line ∷ tail) (e ∷ more) rs (entry_left layout tail more rs line e fits is left) tt

pub left_here : (site : ℕ) (more : List Entry) → left_at (Some site) more site ≡ more
left_here site more = cond-true (eqb site site) more [] (eq-eqb site site refl)

pub left_other : (site j : ℕ) (more : List Entry) → (j ≡ site → ⊥) → left_at (Some site) more j ≡ []
left_other site j more apart = cond-false (eqb j site) more [] (ne_eqb j site apart)

pub adds_knows : (layout : LayoutState) (cut : Option (List ℕ)) (keeping : Keeping) (earlier : List SiteRun) (front : List (List ℕ)) (site : ℕ) (old new : Logs) (line : List ℕ) (e : Entry) → FitsEntry e → line ≡ entry_text layout.records e → Knows layout cut keeping earlier front (Some site) old → new.keeping ≡ old.keeping
    → ((layout2 : LayoutState) (ts : List Transcript) (lengths : List ℕ) (more more2 : ℕ → List Entry) (later : ℕ → List Run) (rest : List Entry) → site < layout2.sites → more site ≡ e ∷ rest → more2 site ≡ rest → ((j : ℕ) → (j ≡ site → ⊥) → more2 j ≡ more j) → AreLogs layout2 ts lengths more later old → AreLogs layout2 ts lengths more2 later new)
    → Knows layout cut keeping earlier (front ++ line ∷ []) (Some site) new
adds_knows layout cut keeping earlier front site old new line e fits is knows same step = record {
  keeps = same ∙ knows.keeps;
  none_begun = λ none. absurd (let wrong : ◌≡◌ {A = Option ℕ} (Some site) None = none in cc);
  there = knows.there;
  any = λ tail more rs left may.
      let f = adds_there layout cut keeping earlier front site old line e tail more rs fits is knows left in
      record {
        runs = f.runs;
        lines = subst (λ (ls : List (List ℕ)). AreLines layout ls f.runs) (sym (append_assoc front (line ∷ []) tail)) f.lines;
        known = λ others.
            let ts = transcripts_below ((earlier ++ f.runs) ++ others) layout.sites in
            step layout ts (lengths_of cut ts) (left_at (Some site) (e ∷ more)) (left_at (Some site) more) (λ i. runs_of i (rs ++ others)) more (knows.there site refl) (left_here site (e ∷ more)) (left_here site more)
            (λ j apart. left_other site j more apart ∙ sym (left_other site j (e ∷ more) apart)) (f.known others);
      };
}

-- ---- a run

abbrev pub run_of : Opening → List Entry → SiteRun
run_of it es = record { site = it.site; run = record { sites = it.sites; first = it.first; entries = es } }

run_left : (layout : LayoutState) (tail : List (List ℕ)) (more : List Entry) (rs : List SiteRun) (line : List ℕ) (it : Opening) → BeginsRun layout line it → AreLeft layout tail more rs → AreLeft layout (line ∷ tail) [] (run_of it more ∷ rs)
run_left layout tail more rs line it begins left = (line ∷ tail, none_fit, refl, (line, left.0, (begins, (left.1, ((λ k. line ∷ left.2 k), left.3)))))
  where
    none_fit : All FitsEntry []
    none_fit = All-from_recursion FitsEntry [] tt

may_none : (site : Option ℕ) → MayAdd site []
may_none None = refl
may_none (Some s) = tt

left_none : (site : Option ℕ) (j : ℕ) → left_at site [] j ≡ []
left_none None j = refl
left_none (Some s) j = cond_both (eqb j s) [] [] (λ (xs : List Entry). xs ≡ []) (λ is. refl) (λ is. refl)

runs_here : (it : Opening) (es : List Entry) (rs : List SiteRun) → runs_of it.site (run_of it es ∷ rs) ≡ (run_of it es).run ∷ runs_of it.site rs
runs_here it es rs = cond-true (eqb it.site it.site) ((run_of it es).run ∷ runs_of it.site rs) (runs_of it.site rs) (eq-eqb it.site it.site refl)

runs_other : (it : Opening) (es : List Entry) (rs : List SiteRun) (j : ℕ) → (j ≡ it.site → ⊥) → runs_of j (run_of it es ∷ rs) ≡ runs_of j rs
runs_other it es rs j apart = cond-false (eqb it.site j) ((run_of it es).run ∷ runs_of j rs) (runs_of j rs) (ne_eqb it.site j (λ same. apart (sym same)))

pub begins_there : (layout : LayoutState) (cut : Option (List ℕ)) (keeping : Keeping) (earlier : List SiteRun) (front : List (List ℕ)) (site : Option ℕ) (logs : Logs) (line : List ℕ) (it : Opening) (tail : List (List ℕ)) (more : List Entry) (rs : List SiteRun) → BeginsRun layout line it → Knows layout cut keeping earlier front site logs → AreLeft layout tail more rs
    → (runs : List SiteRun) × AreLines layout (front ++ line ∷ tail) runs × KnowAllBut layout cut (earlier ++ runs) (left_at site []) (run_of it more ∷ rs) logs
begins_there layout cut keeping earlier front site logs line it tail more rs begins knows left =
    let f = knows.any (line ∷ tail) [] (run_of it more ∷ rs) (run_left layout tail more rs line it begins left) (may_none site) in
    (f.runs, f.lines, f.known)

pub site_fits : (layout : LayoutState) (line : List ℕ) (it : Opening) → BeginsRun layout line it → it.site < layout.sites
site_fits layout line it begins = omega (arith, begins.may_begin.site_there, begins.may_begin.no_more)

pub begins_knows : (layout : LayoutState) (cut : Option (List ℕ)) (keeping : Keeping) (earlier : List SiteRun) (front : List (List ℕ)) (site : Option ℕ) (old new : Logs) (line : List ℕ) (it : Opening) → BeginsRun layout line it → Knows layout cut keeping earlier front site old → new.keeping ≡ old.keeping
    → ((ts : List Transcript) (lengths : List ℕ) (more more2 : ℕ → List Entry) (later later2 : ℕ → List Run) (es : List Entry) (rest : List Run) → more it.site ≡ [] → later it.site ≡ record { sites = it.sites; first = it.first; entries = es } ∷ rest → more2 it.site ≡ es → later2 it.site ≡ rest
    → ((j : ℕ) → (j ≡ it.site → ⊥) → (more2 j ≡ more j) × (later2 j ≡ later j)) → AreLogs layout ts lengths more later old → AreLogs layout ts lengths more2 later2 new)
    → Knows layout cut keeping earlier (front ++ line ∷ []) (Some it.site) new
begins_knows layout cut keeping earlier front site old new line it begins knows same step = record {
  keeps = same ∙ knows.keeps;
  none_begun = λ none. absurd (let wrong : ◌≡◌ {A = Option ℕ} (Some it.site) None = none in cc);
  there = λ s is. subst (λ (o : Option ℕ). IsThere o) is (site_fits layout line it begins);
  any = λ tail more rs left may.
      let f = begins_there layout cut keeping earlier front site old line it tail more rs begins knows left in
      record {
        runs = f.0;
        lines = subst (λ (ls : List (List ℕ)). AreLines layout ls f.0) (sym (append_assoc front (line ∷ []) tail)) f.1;
        known = λ others.
            let ts = transcripts_below ((earlier ++ f.0) ++ others) layout.sites in
            let last = rs ++ others in
            step ts (lengths_of cut ts) (left_at site []) (left_at (Some it.site) more) (λ i. runs_of i (run_of it more ∷ last)) (λ i. runs_of i last) more (runs_of it.site last) (left_none site it.site) (runs_here it more last) (left_here it.site more) refl
            (λ j apart. (left_other it.site j more apart ∙ sym (left_none site j), sym (runs_other it more last j apart))) (f.2 others);
      };
}
  where
    IsThere : Option ℕ → Type 0
    IsThere None = ⊥
    IsThere (Some s) = s < layout.sites

-- ---- a line that is refused

-- nothing is to come
pub none_left : (layout : LayoutState) → AreLeft layout [] [] []
none_left layout = ([], none_fit, refl, refl)
  where
    none_fit : All FitsEntry []
    none_fit = All-from_recursion FitsEntry [] tt

no_runs : (layout : LayoutState) (rs : List SiteRun) → AreLines layout [] rs → rs ≡ []
no_runs layout [] are = refl
no_runs layout (r ∷ rs) are = absurd (let wrong : ◌≡◌ {A = List (List ℕ)} [] (are.0 ∷ (map (entry_text layout.records) r.run.entries ++ are.1)) = are.2.1.1.0 in cc)

pub refused_line : (layout : LayoutState) (cut : Option (List ℕ)) (keeping : Keeping) (earlier : List SiteRun) (front : List (List ℕ)) (site : Option ℕ) (logs : Logs) (line : List ℕ) (number : ℕ) → Knows layout cut keeping earlier front site logs → number ≡ length front + 1 → BeginsNoRun layout line → ((s : ℕ) → site ≡ Some s → IsNoEntry layout.records line)
    → (rest : List (List ℕ)) → IsRefusedAt layout ((front ++ line ∷ []) ++ rest) number
refused_line layout cut keeping earlier front site logs line number knows is no_run no_entry rest =
    let f = knows.any [] [] [] (none_left layout) (may_none site) in
    let lines : AreLines layout front f.runs = subst (λ (ls : List (List ℕ)). AreLines layout ls f.runs) (append-nil front) f.lines in
    record {
      runs = f.runs;
      front = front;
      line = line;
      rest = rest;
      is_front = append_assoc front (line ∷ []) rest;
      is_number = is;
      are_runs = lines;
      no_run = no_run;
      no_entry = at site refl f.runs lines;
    }
  where
    at : (o : Option ℕ) → site ≡ o → (runs : List SiteRun) → AreLines layout front runs → (runs ≡ []) ⊎ IsNoEntry layout.records line
    at None none runs lines = inl (no_runs layout runs (subst (λ (ls : List (List ℕ)). AreLines layout ls runs) (knows.none_begun none) lines))
    at (Some s) some runs lines = inr (no_entry s some)

-- ---- lines and bytes

-- a number that is there
pub some_there : (o : Option ℕ) → is_some o ≡ true → (n : ℕ) × (o ≡ Some n)
some_there None is = absurd (let wrong : false ≡ true = is in cc)
some_there (Some n) is = (n, refl)

-- what is refused stays refused
pub read_more : (layout : LayoutState) (cut : Option (List ℕ)) (keeping : Keeping) (earlier : List SiteRun) (lines more : List (List ℕ)) (r : Reading) (n : ℕ) → r.refused ≡ Some n → ReadsLines layout cut keeping earlier lines r → ReadsLines layout cut keeping earlier (lines ++ more) r
read_more layout cut keeping earlier lines more r n is reads = (
  reads.0,
  subst (λ (o : Option ℕ). AreRead layout cut keeping earlier (lines ++ more) o r.lines r.site r.logs) (sym is)
      (λ rest. subst (λ (ls : List (List ℕ)). IsRefusedAt layout ls n) (sym (append_assoc lines more rest)) (subst (λ (o : Option ℕ). AreRead layout cut keeping earlier lines o r.lines r.site r.logs) is reads.1 (more ++ rest))),
)

pub knows_now : (layout : LayoutState) (cut : Option (List ℕ)) (keeping : Keeping) (earlier : List SiteRun) (lines : List (List ℕ)) (r : Reading) → r.refused ≡ None → ReadsLines layout cut keeping earlier lines r → (r.lines ≡ length lines) × Knows layout cut keeping earlier lines r.site r.logs
knows_now layout cut keeping earlier lines r none reads = subst (λ (o : Option ℕ). AreRead layout cut keeping earlier lines o r.lines r.site r.logs) none reads.1

pub line_read : (layout : LayoutState) (cut : Option (List ℕ)) (keeping : Keeping) (earlier : List SiteRun) (lines : List (List ℕ)) (line : List ℕ) (new : Reading) → new.layout ≡ layout → new.refused ≡ None → new.lines ≡ length lines + 1 → Knows layout cut keeping earlier (lines ++ line ∷ []) new.site new.logs → ReadsLines layout cut keeping earlier (lines ++ line ∷ []) new
line_read layout cut keeping earlier lines line new same none number knows = (
  same,
  subst (λ (o : Option ℕ). AreRead layout cut keeping earlier (lines ++ line ∷ []) o new.lines new.site new.logs) (sym none) (omega (arith, number, length-append lines (line ∷ [])), knows),
)

pub line_refused : (layout : LayoutState) (cut : Option (List ℕ)) (keeping : Keeping) (earlier : List SiteRun) (lines : List (List ℕ)) (line : List ℕ) (n : ℕ) (new : Reading) → new.layout ≡ layout → new.refused ≡ Some n → ((rest : List (List ℕ)) → IsRefusedAt layout ((lines ++ line ∷ []) ++ rest) n) → ReadsLines layout cut keeping earlier (lines ++ line ∷ []) new
line_refused layout cut keeping earlier lines line n new same is refused = (same, subst (λ (o : Option ℕ). AreRead layout cut keeping earlier (lines ++ line ∷ []) o new.lines new.site new.logs) (sym is) refused)

-- before the first byte of a text
pub bytes_none : (layout : LayoutState) (cut : Option (List ℕ)) (keeping : Keeping) (earlier : List SiteRun) (r : Reading) → r.layout ≡ layout → r.refused ≡ None → r.pending.items ≡ [] → r.lines ≡ 0 → r.site ≡ None → Knows layout cut keeping earlier [] None r.logs → ReadsTexts layout cut keeping earlier r
bytes_none layout cut keeping earlier r same none empty number site knows = (
  same,
  subst (λ (o : Option ℕ). AreReadBytes layout cut keeping earlier [] o r.pending.items r.lines r.site r.logs) (sym none)
      ([], (λ more. ap (λ (p : List ℕ). lines_of (p ++ more)) (sym empty)), (number, subst (λ (o : Option ℕ). Knows layout cut keeping earlier [] o r.logs) (sym site) knows)),
)

-- where no line is refused, the lines are known whose ends came
pub reads_front : (layout : LayoutState) (cut : Option (List ℕ)) (keeping : Keeping) (earlier : List SiteRun) (bytes : List ℕ) (r : Reading) → r.refused ≡ None → ReadsBytes layout cut keeping earlier bytes r → (front : List (List ℕ)) × ReadsLines layout cut keeping earlier front r
reads_front layout cut keeping earlier bytes r none reads =
    let so = subst (λ (o : Option ℕ). AreReadBytes layout cut keeping earlier bytes o r.pending.items r.lines r.site r.logs) none reads.1 in
    (so.0, (reads.0, subst (λ (o : Option ℕ). AreRead layout cut keeping earlier so.0 o r.lines r.site r.logs) (sym none) so.2))

-- all is pending
pub bytes_wait : (layout : LayoutState) (cut : Option (List ℕ)) (keeping : Keeping) (earlier : List SiteRun) (bytes part : List ℕ) (old new : Reading) → old.refused ≡ None → new.layout ≡ old.layout → new.refused ≡ old.refused → new.lines ≡ old.lines → new.site ≡ old.site → new.logs ≡ old.logs → new.pending.items ≡ old.pending.items ++ part
    → ReadsBytes layout cut keeping earlier bytes old → ReadsBytes layout cut keeping earlier (bytes ++ part) new
bytes_wait layout cut keeping earlier bytes part old new none same refused number site logs pending reads =
    let so = subst (λ (o : Option ℕ). AreReadBytes layout cut keeping earlier bytes o old.pending.items old.lines old.site old.logs) none reads.1 in
    let split : (more : List ℕ) → lines_of ((bytes ++ part) ++ more) ≡ so.0 ++ lines_of (new.pending.items ++ more) = λ more.
    ap lines_of (append_assoc bytes part more) ∙ (so.1 (part ++ more) ∙ ap (λ (p : List ℕ). so.0 ++ lines_of p) (sym (ap (λ (p : List ℕ). p ++ more) pending ∙ append_assoc old.pending.items part more))) in
    let read : AreRead layout cut keeping earlier so.0 None new.lines new.site new.logs = (number ∙ so.2.0, subst (λ (o : Option ℕ). Knows layout cut keeping earlier so.0 o new.logs) (sym site) (subst (λ (l : _). Knows layout cut keeping earlier so.0 old.site l) (sym logs) so.2.1)) in
    (same ∙ reads.0, subst (λ (o : Option ℕ). AreReadBytes layout cut keeping earlier (bytes ++ part) o new.pending.items new.lines new.site new.logs) (sym (refused ∙ none)) (so.0, split, read))

-- a line was refused before
pub bytes_refused : (layout : LayoutState) (cut : Option (List ℕ)) (keeping : Keeping) (earlier : List SiteRun) (bytes part : List ℕ) (r : Reading) (n : ℕ) → r.refused ≡ Some n → ReadsBytes layout cut keeping earlier bytes r → ReadsBytes layout cut keeping earlier (bytes ++ part) r
bytes_refused layout cut keeping earlier bytes part r n is reads =
    let so = subst (λ (o : Option ℕ). AreReadBytes layout cut keeping earlier bytes o r.pending.items r.lines r.site r.logs) is reads.1 in
    (reads.0, subst (λ (o : Option ℕ). AreReadBytes layout cut keeping earlier (bytes ++ part) o r.pending.items r.lines r.site r.logs) (sym is) (λ more. subst (λ (b : List ℕ). IsRefusedAt layout (lines_of b) n) (sym (append_assoc bytes part more)) (so (part ++ more))))

whole_lines : (pending before rest more : List ℕ) → lines_of (pending ++ (((before ++ 10 ∷ []) ++ rest) ++ more)) ≡ lines_of (pending ++ (before ++ 10 ∷ [])) ++ lines_of (rest ++ more)
whole_lines pending before rest more =
    ap lines_of (
    ap (λ (l : List ℕ). pending ++ l) (append_assoc (before ++ 10 ∷ []) rest more ∙ append_assoc before (10 ∷ []) (rest ++ more))
    ∙ sym (append_assoc pending before (10 ∷ (rest ++ more)))
    )
    ∙ (lines_behind (pending ++ before) (rest ++ more)
    ∙ ap (λ (l : List ℕ). lines_of l ++ lines_of (rest ++ more)) (append_assoc pending before (10 ∷ [])))

-- what ends with an LF has its lines, whatever stands in front of it and behind it
pub lines_joined : (front bytes whole rest : List ℕ) → bytes ≡ whole ++ rest → EndsLine whole → lines_of (front ++ bytes) ≡ lines_of (front ++ whole) ++ lines_of rest
lines_joined front bytes whole rest cut ends =
    ap (λ (l : List ℕ). lines_of (front ++ l)) (cut ∙ (ap (λ (l : List ℕ). l ++ rest) ends.1 ∙ append_assoc ends.0 (10 ∷ []) rest))
    ∙ (ap lines_of (sym (append_assoc front ends.0 (10 ∷ rest)))
    ∙ (lines_behind (front ++ ends.0) rest
    ∙ ap (λ (l : List ℕ). lines_of l ++ lines_of rest) (append_assoc front ends.0 (10 ∷ []) ∙ ap (λ (l : List ℕ). front ++ l) (sym ends.1))))

-- lines that were read, and others behind them
pub read_behind : (old mid new : Reading) (lines first second : List (List ℕ)) → lines ≡ first ++ second → ReadsOn old first mid → ReadsOn mid second new → ReadsOn old lines new
read_behind old mid new lines first second cut before after layout cuts keeping earlier front reads =
    subst (λ (ls : List (List ℕ)). ReadsLines layout cuts keeping earlier ls new) (append_assoc front first second ∙ ap (λ (ls : List (List ℕ)). front ++ ls) (sym cut))
    (after layout cuts keeping earlier (front ++ first) (before layout cuts keeping earlier front reads))

-- some lines were read, and others behind them
pub some_read : (old new : Reading) (lines : List (List ℕ)) → HasReadLines old → ReadsOn old lines new → HasReadLines new
some_read old new lines some step = (some.0, some.1, some.2, some.3, some.4 ++ lines, step some.0 some.1 some.2 some.3 some.4 some.5)

-- whole lines came behind what was pending, and then the front of another one
pub bytes_lines : (layout : LayoutState) (cut : Option (List ℕ)) (keeping : Keeping) (earlier : List SiteRun) (bytes part lines rest : List ℕ) (old mid new : Reading) → old.refused ≡ None → part ≡ lines ++ rest → EndsLine lines → ReadsBytes layout cut keeping earlier bytes old
    → ((front : List (List ℕ)) → ReadsLines layout cut keeping earlier front old → ReadsLines layout cut keeping earlier (front ++ lines_of (old.pending.items ++ lines)) mid)
    → new.layout ≡ mid.layout → new.refused ≡ mid.refused → new.lines ≡ mid.lines → new.site ≡ mid.site → new.logs ≡ mid.logs → new.pending.items ≡ rest → ReadsBytes layout cut keeping earlier (bytes ++ part) new
bytes_lines layout cut keeping earlier bytes part lines rest old mid new none cut_part ended reads step same refused number site logs pending = go mid.refused refl
  where
    so : AreReadBytes layout cut keeping earlier bytes None old.pending.items old.lines old.site old.logs
    so = subst (λ (o : Option ℕ). AreReadBytes layout cut keeping earlier bytes o old.pending.items old.lines old.site old.logs) none reads.1

    front : List (List ℕ)
    front = so.0 ++ lines_of (old.pending.items ++ lines)

    before : ReadsLines layout cut keeping earlier so.0 old
    before = (reads.0, subst (λ (o : Option ℕ). AreRead layout cut keeping earlier so.0 o old.lines old.site old.logs) (sym none) so.2)

    after : ReadsLines layout cut keeping earlier front mid
    after = step so.0 before

    split : (more : List ℕ) → lines_of ((bytes ++ part) ++ more) ≡ front ++ lines_of (rest ++ more)
    split more =
        ap lines_of (append_assoc bytes part more) ∙ (so.1 (part ++ more)
        ∙ (ap (λ (ls : List (List ℕ)). so.0 ++ ls) (ap (λ (p : List ℕ). lines_of (old.pending.items ++ (p ++ more))) cut_part
        ∙ (ap (λ (l : List ℕ). lines_of (old.pending.items ++ ((l ++ rest) ++ more))) ended.1
        ∙ (whole_lines old.pending.items ended.0 rest more ∙ ap (λ (l : List ℕ). lines_of (old.pending.items ++ l) ++ lines_of (rest ++ more)) (sym ended.1))))
        ∙ sym (append_assoc so.0 (lines_of (old.pending.items ++ lines)) (lines_of (rest ++ more)))))

    go : (o : Option ℕ) → mid.refused ≡ o → ReadsBytes layout cut keeping earlier (bytes ++ part) new
    go None is =
        let read = knows_now layout cut keeping earlier front mid is after in
        let there : AreRead layout cut keeping earlier front None new.lines new.site new.logs = (number ∙ read.0, subst (λ (x : Option ℕ). Knows layout cut keeping earlier front x new.logs) (sym site) (subst (λ (l : _). Knows layout cut keeping earlier front mid.site l) (sym logs) read.1)) in (
          same ∙ after.0,
          subst (λ (x : Option ℕ). AreReadBytes layout cut keeping earlier (bytes ++ part) x new.pending.items new.lines new.site new.logs) (sym (refused ∙ is))
              (front, (λ more. split more ∙ ap (λ (p : List ℕ). front ++ lines_of (p ++ more)) (sym pending)), there),
        )
    go (Some n) is =
        let stop = subst (λ (x : Option ℕ). AreRead layout cut keeping earlier front x mid.lines mid.site mid.logs) is after.1 in (
          same ∙ after.0,
          subst (λ (x : Option ℕ). AreReadBytes layout cut keeping earlier (bytes ++ part) x new.pending.items new.lines new.site new.logs) (sym (refused ∙ is))
              (λ more. subst (λ (ls : List (List ℕ)). IsRefusedAt layout ls n) (sym (split more)) (stop (lines_of (rest ++ more)))),
        )

-- the last line came
pub bytes_end : (layout : LayoutState) (cut : Option (List ℕ)) (keeping : Keeping) (earlier : List SiteRun) (bytes : List ℕ) (old new : Reading) → old.refused ≡ None → ReadsBytes layout cut keeping earlier bytes old
    → ((front : List (List ℕ)) → ReadsLines layout cut keeping earlier front old → ReadsLines layout cut keeping earlier (front ++ lines_of (old.pending.items ++ [])) new) → EndsReading layout cut keeping earlier bytes new.layout new.refused new.site new.logs
bytes_end layout cut keeping earlier bytes old new none reads step = (after.0, go new.refused refl)
  where
    so : AreReadBytes layout cut keeping earlier bytes None old.pending.items old.lines old.site old.logs
    so = subst (λ (o : Option ℕ). AreReadBytes layout cut keeping earlier bytes o old.pending.items old.lines old.site old.logs) none reads.1

    before : ReadsLines layout cut keeping earlier so.0 old
    before = (reads.0, subst (λ (o : Option ℕ). AreRead layout cut keeping earlier so.0 o old.lines old.site old.logs) (sym none) so.2)

    all : so.0 ++ lines_of (old.pending.items ++ []) ≡ lines_of bytes
    all = sym (so.1 []) ∙ ap lines_of (append-nil bytes)

    after : ReadsLines layout cut keeping earlier (lines_of bytes) new
    after = subst (λ (ls : List (List ℕ)). ReadsLines layout cut keeping earlier ls new) all (step so.0 before)

    go : (o : Option ℕ) → new.refused ≡ o → EndsBy layout cut keeping earlier bytes o new.site new.logs
    go None is = (knows_now layout cut keeping earlier (lines_of bytes) new is after).1
    go (Some n) is = subst (λ (ls : List (List ℕ)). IsRefusedAt layout ls n) (append-nil (lines_of bytes)) (subst (λ (x : Option ℕ). AreRead layout cut keeping earlier (lines_of bytes) x new.lines new.site new.logs) is after.1 [])

pub bytes_over : (layout : LayoutState) (cut : Option (List ℕ)) (keeping : Keeping) (earlier : List SiteRun) (bytes : List ℕ) (r : Reading) (n : ℕ) → r.refused ≡ Some n → ReadsBytes layout cut keeping earlier bytes r → EndsReading layout cut keeping earlier bytes r.layout r.refused r.site r.logs
bytes_over layout cut keeping earlier bytes r n is reads = (
  reads.0,
  subst (λ (o : Option ℕ). EndsBy layout cut keeping earlier bytes o r.site r.logs) (sym is)
      (subst (λ (b : List ℕ). IsRefusedAt layout (lines_of b) n) (append-nil bytes) (subst (λ (o : Option ℕ). AreReadBytes layout cut keeping earlier bytes o r.pending.items r.lines r.site r.logs) is reads.1 [])),
)

-- ---- all lines came

pub logs_end : (layout : LayoutState) (cut : Option (List ℕ)) (keeping : Keeping) (earlier : List SiteRun) (lines : List (List ℕ)) (site : Option ℕ) (logs : Logs) → Knows layout cut keeping earlier lines site logs
    → (rs : List SiteRun) × AreLines layout lines rs × KnowAllBut layout cut (earlier ++ rs) no_entries [] logs
logs_end layout cut keeping earlier lines site logs knows =
    let f = knows.any [] [] [] (none_left layout) (may_none site) in (
      f.runs,
      subst (λ (ls : List (List ℕ)). AreLines layout ls f.runs) (append-nil lines) f.lines,
      λ others.
          let ts = transcripts_below ((earlier ++ f.runs) ++ others) layout.sites in
          logs_same layout ts (lengths_of cut ts) (left_at site []) no_entries (λ i. runs_of i others) (λ i. runs_of i others) logs (λ i below. (sym (left_none site i), refl)) (f.known others),
    )

-- no run is to come
pub all_logs : (layout : LayoutState) (cut : Option (List ℕ)) (runs : List SiteRun) (logs : Logs) → KnowAllBut layout cut runs no_entries [] logs
    → AreAllLogs layout (transcripts_below runs layout.sites) (lengths_of cut (transcripts_below runs layout.sites)) logs
all_logs layout cut runs logs known = subst (λ (rs : List SiteRun). AreAllLogs layout (transcripts_below rs layout.sites) (lengths_of cut (transcripts_below rs layout.sites)) logs) (append-nil runs) (known [])

-- a text begins behind the others
pub text_knows : (layout : LayoutState) (cut : Option (List ℕ)) (keeping : Keeping) (earlier : List SiteRun) (logs : Logs) → logs.keeping ≡ keeping → KnowAllBut layout cut earlier no_entries [] logs → Knows layout cut keeping earlier [] None logs
text_knows layout cut keeping earlier logs keeps known = record {
  keeps = keeps;
  none_begun = λ none. refl;
  there = λ s none. absurd (let wrong : ◌≡◌ {A = Option ℕ} None (Some s) = none in cc);
  any = λ tail more rs left may.
      let empty : tail ≡ left.0 = left.2 ∙ ap (λ (es : List Entry). map (entry_text layout.records) es ++ left.0) may in
      record {
        runs = rs;
        lines = subst (λ (ls : List (List ℕ)). AreLines layout ls rs) (sym empty) left.3;
        known = λ others.
            subst (λ (all : List SiteRun). AreLogs layout (transcripts_below all layout.sites) (lengths_of cut (transcripts_below all layout.sites)) (left_at None more) (λ i. runs_of i (rs ++ others)) logs)
            (sym (append_assoc earlier rs others)) (known (rs ++ others));
      };
}

-- a text came to its end
pub text_end : (layout : LayoutState) (cut : Option (List ℕ)) (keeping : Keeping) (earlier : List SiteRun) (bytes : List ℕ) (old new : Reading) → old.refused ≡ None → EndsReading layout cut keeping earlier bytes old.layout old.refused old.site old.logs
    → new.layout ≡ old.layout → new.refused ≡ old.refused → new.logs ≡ old.logs → new.pending.items ≡ [] → new.lines ≡ 0 → new.site ≡ None
    → (rs : List SiteRun) × AreLines layout (lines_of bytes) rs × ReadsTexts layout cut keeping (earlier ++ rs) new
text_end layout cut keeping earlier bytes old new none ends same refused logs pending number site =
    let knows = subst (λ (o : Option ℕ). EndsBy layout cut keeping earlier bytes o old.site old.logs) none ends.1 in
    let end = logs_end layout cut keeping earlier (lines_of bytes) old.site old.logs knows in (
      end.0,
      end.1,
      bytes_none layout cut keeping (earlier ++ end.0) new (same ∙ ends.0) (refused ∙ none) pending number site
          (subst (λ (l : _). Knows layout cut keeping (earlier ++ end.0) [] None l) (sym logs) (text_knows layout cut keeping (earlier ++ end.0) old.logs knows.keeps end.2)),
    )

-- all texts came
pub texts_end : (layout : LayoutState) (cut : Option (List ℕ)) (keeping : Keeping) (earlier : List SiteRun) (r : Reading) → ReadsTexts layout cut keeping earlier r
    → AreLogsOf layout cut keeping earlier r.logs
texts_end layout cut keeping earlier r reads = go r.refused refl
  where
    is_empty : (xs ys : List (List ℕ)) → [] ≡ xs ++ ys → xs ≡ []
    is_empty [] ys e = refl
    is_empty (x ∷ xs) ys e = absurd (let wrong : ◌≡◌ {A = List (List ℕ)} [] (x ∷ (xs ++ ys)) = e in cc)

    not_empty : (xs : List (List ℕ)) (y : List ℕ) (ys : List (List ℕ)) → [] ≡ xs ++ y ∷ ys → ⊥
    not_empty [] y ys e = let wrong : ◌≡◌ {A = List (List ℕ)} [] (y ∷ ys) = e in cc
    not_empty (x ∷ xs) y ys e = let wrong : ◌≡◌ {A = List (List ℕ)} [] (x ∷ (xs ++ y ∷ ys)) = e in cc

    go : (o : Option ℕ) → r.refused ≡ o → AreLogsOf layout cut keeping earlier r.logs
    go None is =
        let so = subst (λ (o : Option ℕ). AreReadBytes layout cut keeping earlier [] o r.pending.items r.lines r.site r.logs) is reads.1 in
        let none : so.0 ≡ [] = is_empty so.0 (lines_of (r.pending.items ++ [])) (so.1 []) in
        let end = logs_end layout cut keeping earlier so.0 r.site r.logs so.2.1 in
        let no_more : end.0 ≡ [] = no_runs layout end.0 (subst (λ (ls : List (List ℕ)). AreLines layout ls end.0) none end.1) in
        record {
          keeps = so.2.1.keeps;
          all = all_logs layout cut earlier r.logs (subst (λ (rs : List SiteRun). KnowAllBut layout cut rs no_entries [] r.logs) (ap (λ (rs : List SiteRun). earlier ++ rs) no_more ∙ append-nil earlier) end.2);
        }
    go (Some n) is =
        let so = subst (λ (o : Option ℕ). AreReadBytes layout cut keeping earlier [] o r.pending.items r.lines r.site r.logs) is reads.1 [] in
        absurd (not_empty so.front so.line so.rest so.is_front)

-- what the judge of the logs asks for
pub begins_ready : (layout : LayoutState) (cut : Option (List ℕ)) (keeping : Keeping) (earlier : List SiteRun) (front : List (List ℕ)) (site : Option ℕ) (logs : Logs) (line : List ℕ) (it : Opening) → BeginsRun layout line it → Knows layout cut keeping earlier front site logs
    → (ts : List Transcript) × (lengths : List ℕ) × (more : ℕ → List Entry) × (later : ℕ → List Run) × (es : List Entry) × (rest : List Run) × (more it.site ≡ []) × (later it.site ≡ record { sites = it.sites; first = it.first; entries = es } ∷ rest) × AreLogs layout ts lengths more later logs
begins_ready layout cut keeping earlier front site logs line it begins knows =
    let f = begins_there layout cut keeping earlier front site logs line it [] [] [] begins knows (none_left layout) in
    let ts = transcripts_below ((earlier ++ f.0) ++ []) layout.sites in
    (ts, lengths_of cut ts, left_at site [], (λ i. runs_of i (run_of it [] ∷ [])), [], runs_of it.site [], left_none site it.site, runs_here it [] [], f.2 [])

pub adds_ready : (layout : LayoutState) (cut : Option (List ℕ)) (keeping : Keeping) (earlier : List SiteRun) (front : List (List ℕ)) (site : ℕ) (logs : Logs) (e : Entry) → FitsEntry e → Knows layout cut keeping earlier front (Some site) logs
    → (layout2 : LayoutState) × (ts : List Transcript) × (lengths : List ℕ) × (more : ℕ → List Entry) × (later : ℕ → List Run) × (rest : List Entry) × (site < layout2.sites) × (more site ≡ e ∷ rest) × AreLogs layout2 ts lengths more later logs
adds_ready layout cut keeping earlier front site logs e fits knows =
    let f = adds_there layout cut keeping earlier front site logs (entry_text layout.records e) e [] [] [] fits refl knows (none_left layout) in
    let ts = transcripts_below ((earlier ++ f.runs) ++ []) layout.sites in
    (layout, ts, lengths_of cut ts, left_at (Some site) (e ∷ []), (λ i. runs_of i []), [], knows.there site refl, left_here site (e ∷ []), f.known [])

-- the logs are of some transcripts, and the site is one of theirs
pub knows_some : (layout : LayoutState) (cut : Option (List ℕ)) (keeping : Keeping) (earlier : List SiteRun) (front : List (List ℕ)) (site : ℕ) (logs : Logs) → Knows layout cut keeping earlier front (Some site) logs
    → AreOfSome logs × (site < length logs.sites.items)
knows_some layout cut keeping earlier front site logs knows =
    let f : Follows layout cut earlier front [] (Some site) [] [] logs = knows.any [] [] [] (none_left layout) tt in
    let ts = transcripts_below ((earlier ++ f.runs) ++ []) layout.sites in
    let all = f.known [] in
    ((layout, ts, lengths_of cut ts, left_at (Some site) [], (λ i. runs_of i []), all), omega (arith, knows.there site refl, all.sites))
