-- What the calls of a matrix do to the rights of the sites, in the two sums of the formula.
use Rattle.std.specs.Prelude.{◌≡◌, ℕ, ◌+◌, ◌==◌, if◌then◌else◌}
use Rattle.rights_matrix.specs.Matrix.{MatrixState, gained, given}

-- n rights went from site i to site j, and no other site notices
pub record MovesRights (old new : MatrixState) (i j n : ℕ) : Type 0 where
  pub received : (k : ℕ) → gained new k ≡ gained old k + (if k == j then n else 0)
  pub sent : (k : ℕ) → given new k ≡ given old k + (if k == i then n else 0)

-- site i gained n rights that no site had
pub record MakesRights (old new : MatrixState) (i n : ℕ) : Type 0 where
  pub made : (k : ℕ) → gained new k ≡ gained old k + (if k == i then n else 0)
  pub sent : (k : ℕ) → given new k ≡ given old k

-- whatever was done, site i has neither gained nor given rights
pub record SameRightsAt (old new : MatrixState) (i : ℕ) : Type 0 where
  pub gained : gained new i ≡ gained old i
  pub sent : given new i ≡ given old i
