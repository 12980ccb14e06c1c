-- The runs of a site, and one more behind them.
use Rattle.std.proofs.Common.{◌≡◌, ℕ, ◌<◌, cond, Bool, true, false, eqb, List, [], ◌∷◌, ◌++◌, length, refl, sym, ap, ◌∙◌, append-nil, arith}
use Rattle.std.proofs.lemmas.Bool.{eq-eqb, ne_eqb}
use Rattle.admission_core.specs.Kept.{DurableState}
use Rattle.desk_log.specs.declared.entry.Entry.{Entry}
use Rattle.desk_log.specs.declared.transcript.Run.{Run}
use Rattle.desk_log.specs.declared.transcript.Transcript.{Transcript}
use Rattle.transcript_reader.specs.declared.runs.SiteRun.{SiteRun}
use Rattle.transcript_reader.specs.Reading.{runs_of, transcripts_below}
use Rattle.transcript_reader.proofs.ReadingLemmas.{length_below, transcript_at}
use Rattle.log_judge.specs.Cut.{no_transcript, runs_at}
use Rattle.log_file.specs.Runs.{IsOnlyOf}

pushed : (i : ℕ) (rs : List SiteRun) (r : SiteRun) → runs_of i (rs ++ r ∷ []) ≡ runs_of i rs ++ cond (eqb r.site i) (r.run ∷ []) []
pushed i [] r = at (eqb r.site i)
  where
    at : (b : Bool) → cond b (r.run ∷ []) [] ≡ [] ++ cond b (r.run ∷ []) []
    at b = refl
pushed i (q ∷ qs) r = at (eqb q.site i) (pushed i qs r)
  where
    more : List Run
    more = cond (eqb r.site i) (r.run ∷ []) []

    at : (b : Bool) → runs_of i (qs ++ r ∷ []) ≡ runs_of i qs ++ more
        → cond b (q.run ∷ runs_of i (qs ++ r ∷ [])) (runs_of i (qs ++ r ∷ [])) ≡ cond b (q.run ∷ runs_of i qs) (runs_of i qs) ++ more
    at true e = ap (λ (xs : List Run). q.run ∷ xs) e
    at false e = e

-- the runs of a site, by its transcript
pub runs_below : (rs : List SiteRun) (n i : ℕ) (ts : List Transcript) → ts ≡ transcripts_below rs n → i < n → runs_at ts i ≡ runs_of i rs
runs_below rs n i ts told below =
    ap (λ (xs : List Transcript). runs_at xs i) told ∙ ap (λ (t : Transcript). t.runs) (transcript_at rs n i no_transcript below)

-- a run behind those of its site
pub runs_here : (rs : List SiteRun) (r : SiteRun) (n : ℕ) (old new : List Transcript) → r.site < n → old ≡ transcripts_below rs n
    → new ≡ transcripts_below (rs ++ r ∷ []) n → runs_at new r.site ≡ runs_at old r.site ++ r.run ∷ []
runs_here rs r n old new there told now =
    runs_below (rs ++ r ∷ []) n r.site new now there
    ∙ (pushed r.site rs r
    ∙ (ap (λ (b : Bool). runs_of r.site rs ++ cond b (r.run ∷ []) []) (eq-eqb r.site r.site refl)
    ∙ ap (λ (xs : List Run). xs ++ r.run ∷ []) (sym (runs_below rs n r.site old told there))))

-- other sites have no run more
pub only_here : (rs : List SiteRun) (r : SiteRun) (n : ℕ) (old new : List Transcript) → old ≡ transcripts_below rs n
    → new ≡ transcripts_below (rs ++ r ∷ []) n → IsOnlyOf r.site old → IsOnlyOf r.site new
only_here rs r n old new told now only k below other =
    let few : k < n = omega (arith, below, ap (λ (xs : List Transcript). length xs) now, length_below (rs ++ r ∷ []) n) in
    let before : k < length old = omega (arith, few, ap (λ (xs : List Transcript). length xs) told, length_below rs n) in
    runs_below (rs ++ r ∷ []) n k new now few
    ∙ (pushed k rs r
    ∙ (ap (λ (b : Bool). runs_of k rs ++ cond b (r.run ∷ []) []) (ne_eqb r.site k (λ e. other (sym e)))
    ∙ (append-nil (runs_of k rs)
    ∙ (sym (runs_below rs n k old told few) ∙ only k before other))))

-- a run, part by part
pub same_run : (m n : ℕ) (d e : DurableState) (xs ys : List Entry) → m ≡ n → d ≡ e → xs ≡ ys
    → ◌≡◌ {A = Run} (record { sites = m; first = d; entries = xs }) (record { sites = n; first = e; entries = ys })
same_run m n d e xs ys p q r = λ k. record { sites = p k; first = q k; entries = r k }
