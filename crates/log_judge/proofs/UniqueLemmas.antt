-- No two verdicts are right of the same closed logs and cut.
use Rattle.std.proofs.Common.{◌≡◌, ℕ, zero, suc, ◌<◌, ◌≤◌, ◌⊎◌, inl, inr, List, [], ◌∷◌, refl, sym, ap, subst, arith}
use Rattle.std.proofs.lemmas.Bool.{cases_lt}
use Rattle.merge_core.specs.Layout.{LayoutState}
use Rattle.admission_model.specs.Account.{Account}
use Rattle.admission_model.specs.Serving.{after}
use Rattle.desk_log.specs.declared.entry.Entry.{Entry}
use Rattle.desk_log.specs.declared.transcript.Run.{Run}
use Rattle.desk_log.specs.declared.transcript.Transcript.{Transcript}
use Rattle.desk_log.specs.Log.{IsLegal}
use Rattle.log_judge.specs.declared.verdict.Verdict.{Verdict}
use Rattle.log_judge.specs.declared.verdict.Verdict.TheVariants.{BadCut, BadJoint, BadReply, Exceeds, Consistent}
use Rattle.log_replay.specs.Legal.{started, after_run, AreLegal, IsBadJoint, IsFirstBad, IsBadReply, start_account}
use Rattle.log_judge.specs.Cut.{runs_at, IsBefore}
use Rattle.log_judge.specs.Verdict.{IsLegalSite, AreLegalSites, IsVerdict}

-- an entry that can't stand is in no legal log
first_bad_legal : (a : Account) (es : List Entry) (n : ℕ) → IsFirstBad a es n → IsLegal a es → ⊥
first_bad_legal a [] n bad legal = bad
first_bad_legal a (e ∷ later) zero bad (inl (is, rest)) = bad.other_reply is
first_bad_legal a (e ∷ later) zero bad (inr (doubt, none)) = bad.no_doubt (doubt, none)
first_bad_legal a (e ∷ later) (suc n) bad (inl (is, rest)) = first_bad_legal (after a e.call) later n bad.1 rest
first_bad_legal a (e ∷ later) (suc n) bad (inr (doubt, none)) = subst (λ (xs : List Entry). IsFirstBad (after a e.call) xs n) none bad.1

first_bad_same : (a : Account) (es : List Entry) (n m : ℕ) → IsFirstBad a es n → IsFirstBad a es m → n ≡ m
first_bad_same a [] n m bad other = absurd bad
first_bad_same a (e ∷ later) zero zero bad other = refl
first_bad_same a (e ∷ later) zero (suc m) bad other = absurd (bad.other_reply other.0)
first_bad_same a (e ∷ later) (suc n) zero bad other = absurd (other.other_reply bad.0)
first_bad_same a (e ∷ later) (suc n) (suc m) bad other = ap suc (first_bad_same (after a e.call) later n m bad.1 other.1)

-- a fault of runs is in no legal transcript, and there is one first fault
joint_legal : (layout : LayoutState) (i : ℕ) (a : Account) (runs : List Run) → IsBadJoint layout i a runs → AreLegal layout i a runs → ⊥
joint_legal layout i a [] bad legal = bad
joint_legal layout i a (run ∷ later) (inl stays) legal = stays legal.0
joint_legal layout i a (run ∷ later) (inr rest) legal = joint_legal layout i (after_run a run later) later rest.1.1 legal.1.1

reply_legal : (layout : LayoutState) (i : ℕ) (a : Account) (runs : List Run) (at : ℕ) → IsBadReply layout i a runs at → AreLegal layout i a runs → ⊥
reply_legal layout i a [] at bad legal = bad
reply_legal layout i a (run ∷ later) at (begins, inl first) legal = first_bad_legal (started a run) run.entries at first legal.1.0
reply_legal layout i a (run ∷ later) at (begins, inr rest) legal = reply_legal layout i (after_run a run later) later rest.1.0 rest.1.1.1 legal.1.1

joint_reply : (layout : LayoutState) (i : ℕ) (a : Account) (runs : List Run) (at : ℕ) → IsBadJoint layout i a runs → IsBadReply layout i a runs at → ⊥
joint_reply layout i a [] at bad other = bad
joint_reply layout i a (run ∷ later) at (inl stays) other = stays other.0
joint_reply layout i a (run ∷ later) at (inr rest) (begins, inl first) = first_bad_legal (started a run) run.entries at first rest.1.0
joint_reply layout i a (run ∷ later) at (inr rest) (begins, inr more) = joint_reply layout i (after_run a run later) later more.1.0 rest.1.1 more.1.1.1

reply_same : (layout : LayoutState) (i : ℕ) (a : Account) (runs : List Run) (at bt : ℕ) → IsBadReply layout i a runs at → IsBadReply layout i a runs bt → at ≡ bt
reply_same layout i a [] at bt bad other = absurd bad
reply_same layout i a (run ∷ later) at bt (begins, inl first) (also, inl second) = first_bad_same (started a run) run.entries at bt first second
reply_same layout i a (run ∷ later) at bt (begins, inl first) (also, inr more) = absurd (first_bad_legal (started a run) run.entries at first more.0)
reply_same layout i a (run ∷ later) at bt (begins, inr rest) (also, inl second) = absurd (first_bad_legal (started a run) run.entries bt second rest.0)
reply_same layout i a (run ∷ later) at bt (begins, inr rest) (also, inr more) =
    let same = reply_same layout i (after_run a run later) later rest.1.0 more.1.0 rest.1.1.1 more.1.1.1 in
    omega (arith, rest.1.1.0, more.1.1.0, same)

-- the first site with a fault is one
first_site : (layout : LayoutState) (ts : List Transcript) (i j : ℕ) → AreLegalSites layout ts i → AreLegalSites layout ts j → (IsLegalSite layout ts i → ⊥) → (IsLegalSite layout ts j → ⊥) → i ≡ j
first_site layout ts i j before_i before_j bad_i bad_j = at (cases_lt i j) (cases_lt j i)
  where
    at : (i < j) ⊎ (j ≤ i) → (j < i) ⊎ (i ≤ j) → i ≡ j
    at (inl less) other = absurd (bad_i (before_j i less))
    at (inr more) (inl less) = absurd (bad_j (before_i j less))
    at (inr more) (inr less) = omega (arith, more, less)

-- of two numbers one is less, or they are equal
three : (m n : ℕ) → (m < n) ⊎ ((m ≡ n) ⊎ (n < m))
three m n = at (cases_lt m n) (cases_lt n m)
  where
    at : (m < n) ⊎ (n ≤ m) → (n < m) ⊎ (m ≤ n) → (m < n) ⊎ ((m ≡ n) ⊎ (n < m))
    at (inl less) other = inl less
    at (inr more) (inl less) = inr (inr less)
    at (inr more) (inr less) = inr (inl (omega (arith, more, less)))

-- the least place is one
same_place : (i at r s j bt q t : ℕ) → (¬ IsBefore i at r s j bt q t) → (¬ IsBefore j bt q t i at r s) → (i ≡ j) × ((at ≡ bt) × ((r ≡ q) × (s ≡ t)))
same_place i at r s j bt q t first second = sites (three i j)
  where
    origins : i ≡ j → at ≡ bt → r ≡ q → (s < t) ⊎ ((s ≡ t) ⊎ (t < s)) → (i ≡ j) × ((at ≡ bt) × ((r ≡ q) × (s ≡ t)))
    origins a b c (inl less) = absurd (first (inr (a, inr (b, inr (c, less)))))
    origins a b c (inr (inl same)) = (a, (b, (c, same)))
    origins a b c (inr (inr less)) = absurd (second (inr (sym a, inr (sym b, inr (sym c, less)))))

    records : i ≡ j → at ≡ bt → (r < q) ⊎ ((r ≡ q) ⊎ (q < r)) → (i ≡ j) × ((at ≡ bt) × ((r ≡ q) × (s ≡ t)))
    records a b (inl less) = absurd (first (inr (a, inr (b, inl less))))
    records a b (inr (inl same)) = origins a b same (three s t)
    records a b (inr (inr less)) = absurd (second (inr (sym a, inr (sym b, inl less))))

    entries : i ≡ j → (at < bt) ⊎ ((at ≡ bt) ⊎ (bt < at)) → (i ≡ j) × ((at ≡ bt) × ((r ≡ q) × (s ≡ t)))
    entries a (inl less) = absurd (first (inr (a, inl less)))
    entries a (inr (inl same)) = records a same (three r q)
    entries a (inr (inr less)) = absurd (second (inr (sym a, inl less)))

    sites : (i < j) ⊎ ((i ≡ j) ⊎ (j < i)) → (i ≡ j) × ((at ≡ bt) × ((r ≡ q) × (s ≡ t)))
    sites (inl less) = absurd (first (inl less))
    sites (inr (inl same)) = entries same (three at bt)
    sites (inr (inr less)) = absurd (second (inl less))

-- the first fault of a site is a run that does not begin where the site was, or the entry of this number
abbrev Joint : LayoutState → List Transcript → ℕ → Type 0
Joint layout ts i = IsBadJoint layout i (start_account layout i (runs_at ts i)) (runs_at ts i)

abbrev Bad : LayoutState → List Transcript → ℕ → ℕ → Type 0
Bad layout ts i at = IsBadReply layout i (start_account layout i (runs_at ts i)) (runs_at ts i) at

module _ (layout : LayoutState) (ts : List Transcript) (cut : List ℕ) where
  no_joint : (i : ℕ) → Joint layout ts i → IsLegalSite layout ts i → ⊥
  no_joint i bad legal = joint_legal layout i (start_account layout i (runs_at ts i)) (runs_at ts i) bad legal

  no_reply : (i at : ℕ) → Bad layout ts i at → IsLegalSite layout ts i → ⊥
  no_reply i at bad legal = reply_legal layout i (start_account layout i (runs_at ts i)) (runs_at ts i) at bad legal

  pub one_verdict : (v w : Verdict) → IsVerdict layout ts cut v → IsVerdict layout ts cut w → v ≡ w
  one_verdict BadCut BadCut p q = refl
  one_verdict BadCut (BadJoint j) p q = absurd (p q.0)
  one_verdict BadCut (BadReply j bt) p q = absurd (p q.0)
  one_verdict BadCut (Exceeds j bt x t) p q = absurd (p q.0)
  one_verdict BadCut Consistent p q = absurd (p q.0)
  one_verdict (BadJoint i) BadCut p q = absurd (q p.0)
  one_verdict (BadJoint i) (BadJoint j) p q = ap BadJoint (first_site layout ts i j p.1 q.1 (no_joint i p.3) (no_joint j q.3))
  one_verdict (BadJoint i) (BadReply j bt) p q =
      let same = first_site layout ts i j p.1 q.1 (no_joint i p.3) (no_reply j bt q.3) in
      absurd (joint_reply layout j (start_account layout j (runs_at ts j)) (runs_at ts j) bt (subst (Joint layout ts) same p.3) q.3)
  one_verdict (BadJoint i) (Exceeds j bt x t) p q = absurd (no_joint i p.3 (q.1 i p.2))
  one_verdict (BadJoint i) Consistent p q = absurd (no_joint i p.3 (q.1 i p.2))
  one_verdict (BadReply i at) BadCut p q = absurd (q p.0)
  one_verdict (BadReply i at) (BadJoint j) p q =
      let same = first_site layout ts j i q.1 p.1 (no_joint j q.3) (no_reply i at p.3) in
      absurd (joint_reply layout i (start_account layout i (runs_at ts i)) (runs_at ts i) at (subst (Joint layout ts) same q.3) p.3)
  one_verdict (BadReply i at) (BadReply j bt) p q =
      let same = first_site layout ts i j p.1 q.1 (no_reply i at p.3) (no_reply j bt q.3) in
      let place : at ≡ bt = reply_same layout j (start_account layout j (runs_at ts j)) (runs_at ts j) at bt (subst (λ (k : ℕ). Bad layout ts k at) same p.3) q.3 in
      λ k. BadReply (same k) (place k)
  one_verdict (BadReply i at) (Exceeds j bt x t) p q = absurd (no_reply i at p.3 (q.1 i p.2))
  one_verdict (BadReply i at) Consistent p q = absurd (no_reply i at p.3 (q.1 i p.2))
  one_verdict (Exceeds i at r s) BadCut p q = absurd (q p.0)
  one_verdict (Exceeds i at r s) (BadJoint j) p q = absurd (no_joint j q.3 (p.1 j q.2))
  one_verdict (Exceeds i at r s) (BadReply j bt) p q = absurd (no_reply j bt q.3 (p.1 j q.2))
  one_verdict (Exceeds i at r s) (Exceeds j bt x t) p q =
      let same = same_place i at r s j bt x t (q.2.least i at r s p.2.is) (p.2.least j bt x t q.2.is) in
      λ k. Exceeds (same.0 k) (same.1.0 k) (same.1.1.0 k) (same.1.1.1 k)
  one_verdict (Exceeds i at r s) Consistent p q = absurd (q.2 i at r s p.2.is)
  one_verdict Consistent BadCut p q = absurd (q p.0)
  one_verdict Consistent (BadJoint j) p q = absurd (no_joint j q.3 (p.1 j q.2))
  one_verdict Consistent (BadReply j bt) p q = absurd (no_reply j bt q.3 (p.1 j q.2))
  one_verdict Consistent (Exceeds j bt x t) p q = absurd (p.2 j bt x t q.2.is)
  one_verdict Consistent Consistent p q = refl
