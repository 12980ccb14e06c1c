-- From what both runners of a direction left to its report.
use Rattle.std.proofs.Common.{◌≡◌, ◌⊎◌, inl, inr, ℕ, zero, suc, ◌+◌, ◌<◌, ◌≤◌, Bool, true, true≢false, List, [], ◌∷◌, ◌++◌, Option, Some, None, map, length, refl, sym, ap, subst, ◌∙◌, arith, length-append}
use Rattle.merge_core.specs.Delta.{DeltaState}
use Rattle.session_book.specs.Passes.{PassState}
use Rattle.exchange_threads.specs.declared.report.OutReport.{OutReport}
use Rattle.exchange_threads.specs.declared.report.InReport.{InReport}
use Rattle.exchange_threads.specs.declared.turn.Turn.{Turn}
use Rattle.exchange_threads.specs.declared.turn.Turn.TheVariants.{GoesOn, IsOver, EndsRun}
use Rattle.exchange_threads.specs.Turns.{IsMarked}
use Rattle.exchange_threads.specs.Outbox.{IsOutEnd}
use Rattle.std.specs.Prelude.{string_bytes}
use Rattle.ruled_pair.specs.declared.pair.Direction.{Direction}
use Rattle.ruled_pair.specs.declared.pair.PairReport.{PairReport}
use Rattle.ruled_pair.specs.Sent.{AreSent, texts_from}
use Rattle.ruled_pair.specs.Heard.{AreHeard}
use Rattle.ruled_pair.specs.Pairs.{HasRunBoth, IsFresh, IsPairReport, IsReportOf, MayEndIn, MayEndOut}

-- a number within another is that one or less
within : (n m : ℕ) → n ≤ m → (n ≡ m) ⊎ (n < m)
within zero zero few = inl refl
within zero (suc m) few = inr (omega arith)
within (suc n) zero few = absurd (omega (arith, few))
within (suc n) (suc m) few = next (within n m (omega (arith, few)))
  where
    next : (n ≡ m) ⊎ (n < m) → (suc n ≡ suc m) ⊎ (suc n < suc m)
    next (inl same) = inl (ap suc same)
    next (inr less) = inr (omega (arith, less))

-- there is a text of each snapshot
texts_many : (m : ℕ) (kept : Option DeltaState) (ds : List DeltaState) → length (texts_from m kept ds) ≡ length ds
texts_many m kept [] = refl
texts_many m kept (d ∷ ds) = omega (arith, texts_many (m + 1) (Some d) ds)

-- a run makes no more turns than it is asked for
end_within : (x : Turn) (asked : ℕ) (r : OutReport) → IsOutEnd x asked r → r.turns ≤ asked
end_within GoesOn asked r ending = omega (arith, ending)
end_within IsOver asked r ending = omega (arith, ending)
end_within EndsRun asked r ending = ending

-- an inbox ended so, by what the link's rule says
ends_in : (asked : ℕ) (p : PassState) (d : Direction) (got : InReport) (rest : List (List ℕ))
    → (d.inlet.taker.finished ≡ true → (d.outlet.putter.finished ≡ true) × (d.outlet.putter.late ≡ [] → rest ≡ [])) → d.outlet.putter.late ≡ []
    → MayEndIn asked p d.inlet got → (asked ≤ got.taken + got.memory) ⊎ (IsMarked p ⊎ (rest ≡ []))
ends_in asked p d got rest all none (inl many) = inl many
ends_in asked p d got rest all none (inr (inl marked)) = inr (inl marked)
ends_in asked p d got rest all none (inr (inr told)) = inr (inr ((all told).1 none))

-- .. an outbox, by how its inbox ended
ends_out : (asked : ℕ) (p q : PassState) (d : Direction) (out : OutReport) (got : InReport) (rest : List (List ℕ))
    → (d.inlet.taker.finished ≡ true → (d.outlet.putter.finished ≡ true) × (d.outlet.putter.late ≡ [] → rest ≡ [])) → got.taken ≤ out.sent → out.sent ≤ out.turns → out.turns ≤ asked
    → MayEndOut asked p d.outlet out → MayEndIn asked q d.inlet got → (out.turns ≡ asked) ⊎ (IsMarked p ⊎ (IsMarked q ⊎ (0 < got.memory)))
ends_out asked p q d out got rest all few sent turns (inl whole) how = inl whole
ends_out asked p q d out got rest all few sent turns (inr (inl marked)) how = inr (inl marked)
ends_out asked p q d out got rest all few sent turns (inr (inr untold)) (inr (inl marked)) = inr (inr (inl marked))
ends_out asked p q d out got rest all few sent turns (inr (inr untold)) (inr (inr told)) = absurd (true≢false (sym (all told).0 ∙ untold))
ends_out asked p q d out got rest all few sent turns (inr (inr untold)) (inl many) = fewer (within out.turns asked turns)
  where
    fewer : (out.turns ≡ asked) ⊎ (out.turns < asked) → (out.turns ≡ asked) ⊎ (IsMarked p ⊎ (IsMarked q ⊎ (0 < got.memory)))
    fewer (inl whole) = inl whole
    fewer (inr less) = inr (inr (inr (omega (arith, less, many, few, sent))))

pub pair_report : {G : Type 0} (answers : G → ℕ → Bool → G → Type 0) (records asked : ℕ) (out_old out_new in_old in_new : PassState) (a b : G) (old new : Direction) (out : OutReport) (got : InReport) (r : PairReport)
    → IsFresh old (length out_old.receipts) (length in_old.receipts) → HasRunBoth answers records asked out_old out_new in_old in_new a b old new out got → IsReportOf new out got r
    → IsPairReport answers records asked out_old out_new in_old in_new a b r
pair_report answers records asked out_old out_new in_old in_new a b old new out got r fresh ran told =
    subst (λ (x : PairReport). IsPairReport answers records asked out_old out_new in_old in_new a b x) (sym told.kept)
    record {
      rest = told.rest;
      link = link;
      left = told.left;
      ran_out = ran.ran_out;
      ran_in = ran.ran_in;
      last = ran.sent.last;
      sent = subst (λ (k : ℕ). AreSent out_new.receipts k new.outlet.sent_at.items put out.sent ran.sent.last) (ran.sent.first ∙ fresh.outlet.first) ran.sent.sent;
      ended = ran.taken.ended;
      heard = subst (λ (k : ℕ). AreHeard in_new.receipts k taken new.inlet.fates.items got.memory ran.taken.ended) (ran.taken.first ∙ fresh.inlet.first) ran.taken.heard;
      marked = ran.taken.marked;
      end_out = ends_out asked out_new in_new new out got told.rest told.all few (omega (arith, ran.ran_out.within.spent)) turns ran.end_out ran.end_in;
      end_in = ends_in asked in_new new got told.rest told.all ran.sent.none_late ran.end_in;
    }
  where
    put : List (List ℕ)
    put = map string_bytes new.outlet.put.items

    taken : List (List ℕ)
    taken = map string_bytes new.inlet.taken.items

    link : put ≡ taken ++ told.rest
    link = sym ran.sent.put ∙ (told.link ∙ ap (λ (ts : List (List ℕ)). ts ++ told.rest) ran.taken.taken)

    few : got.taken ≤ out.sent
    few = omega (
      arith,
      ran.ran_in.heard.taken,
      ran.sent.sent.number,
      ap (λ (ts : List (List ℕ)). length ts) ran.sent.sent.texts_are,
      ap (λ (ts : List (List ℕ)). length ts) link,
      length-append taken told.rest,
      texts_many 0 None ran.sent.sent.snapshots,
    )

    turns : out.turns ≤ asked
    turns = end_within ran.ran_out.last asked out ran.ran_out.ending
