use Rattle.std.proofs.Common.{◌≡◌, ℕ, ◌+◌, ◌<◌, ◌≤◌, ◌↔◌, max, Bool, true, false, IsTrue, List, length, get_or, set, slice_index, refl, sym, arith}
use Rattle.std.proofs.lemmas.Bool.{lt-ltb, le-ltb, false≢true}
use mir.Val.{bool_byte}
use Rattle.grow_counters.specs.Counts.{rise_count}
use Rattle.grow_counters.proofs.CountsLemmas.{IsMergedBelow, rise_count-same, rise_count-set, IsMergedBelow-start, IsMergedBelow-step, IsMergedBelow-end}
use Rattle.grow_counters.proofs.counts.Counts.join_slice.Goals as goal

-- one more counter rises exactly where the raise tells so
risen_step : (xs now : List ℕ) (i risen n by : ℕ) (rose : Bool) → i < length xs → {ys : List ℕ} → IsMergedBelow i xs ys now → risen ≡ rise_count xs now → (IsTrue rose ↔ (slice_index now i < n)) → by ≡ bool_byte rose → risen + by ≡ rise_count xs (set now i (max (slice_index now i) n))
risen_step xs now i risen n by true inside m counted told one =
    let rises : get_or xs i 0 < max (get_or now i 0) n = omega (arith, m.waiting i (omega arith), told.0 refl) in
    rw (rise_count-set xs now i (max (get_or now i 0) n) inside (omega (arith, m.same_length)) (m.waiting i (omega arith)), lt-ltb _ _ rises) (omega arith)
risen_step xs now i risen n by false inside m counted told none =
    let not_below : get_or now i 0 < n → ⊥ = λ below. false≢true (told.1 below) in
    let stays : max (get_or now i 0) n ≤ get_or xs i 0 = omega (arith, m.waiting i (omega arith)) in
    rw (rise_count-set xs now i (max (get_or now i 0) n) inside (omega (arith, m.same_length)) (m.waiting i (omega arith)), le-ltb _ _ stays) (omega arith)

pub loop-i-init : goal.loop-i-init
loop-i-init c = record {
  merged = IsMergedBelow-start _ _;
  counted = sym (rise_count-same _);
  few = omega arith;
}

pub loop-i-preserved : goal.loop-i-preserved
loop-i-preserved c =
    let xs = c.args.self.now in
    let now = c.loop-i.self in
    let i = c.loop-i.i in
    let m = c.loop-i.invariant.merged in
    record {
      merged = rw c.raise_to.ensures.counters (IsMergedBelow-step i xs c.args.other.now now (omega arith) m);
      counted = rw c.raise_to.ensures.counters (risen_step xs now i c.loop-i.risen _ _ c.raise_to.result (omega arith) m c.loop-i.invariant.counted c.raise_to.ensures.rose c.from-risen.ensures);
      few = grind arith;
    }

pub returns-clause-counters : goal.returns-clause-counters
returns-clause-counters c =
    IsMergedBelow-end _ _ _ c.requires (let at_end : c.loop-i.i ≡ length c.args.other.now = omega arith in rw at_end at c.loop-i.invariant.merged)
