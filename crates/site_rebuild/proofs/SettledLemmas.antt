-- Sums over sites, a turn at a time.
use Rattle.std.proofs.Common.{◌≡◌, ℕ, suc, ◌+◌, ap, arith}
use Rattle.merge_core.specs.Sums.{total}

pub total_turn : (n : ℕ) (f : ℕ → ℕ) → total (n + 1) f ≡ total n f + f n
total_turn n f = let next : n + 1 ≡ suc n = omega arith in ap (λ (m : ℕ). total m f) next
