-- The verdict on runs of one site alone, at the cut before all entries.
use Rattle.std.proofs.Common.{◌≡◌, ℕ, ◌<◌, ◌⊎◌, inl, inr, List, length, get_or, replicate, sym, ap, subst, ◌∙◌, arith}
use Rattle.std.specs.Prelude.{◌↔◌, Bool, IsTrue}
use Rattle.admission_core.specs.Kept.{DurableState}
use Rattle.transcript_text.specs.Texts.{MayBegin}
use Rattle.std.proofs.lemmas.Bool.{cases_eq}
use Rattle.std.proofs.lemmas.List.{get_or-replicate, length-replicate}
use Rattle.merge_core.specs.Layout.{LayoutState}
use Rattle.desk_log.specs.declared.transcript.Run.{Run}
use Rattle.desk_log.specs.declared.transcript.Transcript.{Transcript}
use Rattle.transcript_reader.specs.declared.runs.SiteRun.{SiteRun}
use Rattle.transcript_reader.specs.Reading.{transcripts_below}
use Rattle.transcript_reader.proofs.ReadingLemmas.{length_below, transcript_at}
use Rattle.log_judge.specs.declared.verdict.Verdict.{Verdict}
use Rattle.log_judge.specs.declared.verdict.Verdict.TheVariants.{Consistent}
use Rattle.log_judge.specs.Cut.{no_transcript, runs_at}
use Rattle.log_judge.specs.Legal.{start_account, AreLegal}
use Rattle.log_judge.specs.Verdict.{AreOfSites, IsCut, IsLegalSite, IsVerdict}
use Rattle.log_judge.proofs.UniqueLemmas.{one_verdict}
use Rattle.log_file.specs.Runs.{Fits, IsOnlyOf, with_new}

-- what is read is one transcript for each site
pub are_of_sites : (layout : LayoutState) (rs : List SiteRun) (ts : List Transcript) → ts ≡ transcripts_below rs layout.sites → AreOfSites layout ts
are_of_sites layout rs ts told = record {
  number = ap (λ (xs : List Transcript). length xs) told ∙ length_below rs layout.sites;
  in_order = λ i below.
      ap (λ (xs : List Transcript). (get_or xs i no_transcript).site) told
      ∙ ap (λ (t : Transcript). t.site)
      (transcript_at rs layout.sites i no_transcript (omega (arith, below, ap (λ (xs : List Transcript). length xs) told, length_below rs layout.sites)));
}

module _ (layout : LayoutState) (ts : List Transcript) (cut : List ℕ) (i : ℕ) (zeros : cut ≡ replicate (length ts) 0) (only : IsOnlyOf i ts) where
  at_start : (k : ℕ) → k < length ts → get_or cut k 0 ≡ 0
  at_start k below = ap (λ (xs : List ℕ). get_or xs k 0) zeros ∙ get_or-replicate (length ts) k 0 0 below

  before_all : IsCut ts cut
  before_all = record {
    number = ap (λ (xs : List ℕ). length xs) zeros ∙ length-replicate {A = ℕ} (length ts) 0;
    within = λ k below. omega (arith, at_start k below);
  }

  all_legal : IsLegalSite layout ts i → (k : ℕ) → k < length ts → IsLegalSite layout ts k
  all_legal legal k below = at (cases_eq k i)
    where
      at : (k ≡ i) ⊎ (k ≡ i → ⊥) → IsLegalSite layout ts k
      at (inl same) = subst (λ (j : ℕ). IsLegalSite layout ts j) (sym same) legal
      at (inr other) = subst (λ (runs : List Run). AreLegal layout k (start_account layout k runs) runs) (sym (only k below other)) tt

  pub legal_verdict : (v : Verdict) → i < length ts → IsVerdict layout ts cut v → (v ≡ Consistent) ↔ IsLegalSite layout ts i
  legal_verdict v there is = (
    λ consistent. (subst (λ (w : Verdict). IsVerdict layout ts cut w) consistent is).1 i there,
    λ legal. one_verdict layout ts cut v Consistent is (
      before_all,
      all_legal legal,
      λ k at r s excess. absurd (omega (arith, excess.within, at_start k excess.site_there)),
    ),
  )

-- the runs and a new one behind them are legal
pub fits_where : (layout : LayoutState) (i : ℕ) (old new : List Transcript) (first : DurableState) (b : Bool) → MayBegin layout i layout.sites first
    → runs_at new i ≡ with_new layout first (runs_at old i) → IsTrue b ↔ IsLegalSite layout new i → IsTrue b ↔ Fits layout i (runs_at old i) first
fits_where layout i old new first b begins is both = (
  λ t. record {
    may_begin = begins;
    legal = subst (λ (runs : List Run). AreLegal layout i (start_account layout i runs) runs) is (both.0 t);
  },
  λ fits. both.1 (subst (λ (runs : List Run). AreLegal layout i (start_account layout i runs) runs) (sym is) fits.legal),
)
