-- The numbers of a group's generations are apart.
use Rattle.std.proofs.Common.{ℕ, zero, suc, ◌+◌, ◌*◌, ◌<◌, ◌≤◌, arith}
use Rattle.merge_core.specs.Sums.{total}
use Rattle.merge_core.specs.declared.cell.Cell.TheVariants.{Fin}
use Rattle.admission_model.specs.Account.{Account}
use Rattle.admission_model.specs.Knowledge.{known}
use Rattle.admission_model.specs.Reached.{IsReached}
use Rattle.admission_model.proofs.HeardLemmas.{known_fits}
use Rattle.admission_model.proofs.LawLemmas.{sound_reached}
use Rattle.fencing_laws.specs.Fences.{number_of}
use Rattle.serve_engine.specs.Fencing.{fence_number}

-- at so many sites a reached account knows of at most 10^12 finished writers each
few_finished : (a : Account) → IsReached a → (r n : ℕ) → total n (λ s. known a r s Fin) ≤ n * 1000000000000
few_finished a reached r zero = omega arith
few_finished a reached r (suc n) =
    let fits = known_fits a (sound_reached a reached) r n in
    omega (arith, few_finished a reached r n, fits.finished_after_announced, fits.few_announced)

-- so the numbers of 16 sites don't reach the next generation
pub generations_apart : (a b : Account) → IsReached a → a.sites ≤ 16 → (r q earlier later : ℕ) → earlier < later → fence_number earlier a r < fence_number later b q
generations_apart a b reached few r q earlier later before = omega (arith, few_finished a reached r a.sites)
