-- A transfer of rights (Balegas et al., 2015): made only where the giver has at least as many.
use Rattle.std.specs.Prelude.{ℕ, ◌+◌, ◌==◌, nat_lt, if◌then◌else◌, Option, Some, None}
use Rattle.grow_counters.specs.Counts.{counter_limit}
use Rattle.rights_matrix.specs.declared.faults.TransferError.{TransferError}
use Rattle.rights_matrix.specs.declared.faults.TransferError.TheVariants.{ToSelf, ZeroSeats, CounterFull, TooFewRights}
use Rattle.rights_matrix.specs.Matrix.{MatrixState, entry, rights_of}

-- why a transfer of n rights from i, which has these rights, to j is refused, in the order of the tests
abbrev pub refusal_of : MatrixState → ℕ → ℕ → ℕ → ℕ → Option TransferError
refusal_of m i j n rights =
    if i == j then Some ToSelf else (
    if n == 0 then Some ZeroSeats else (
    if nat_lt counter_limit (entry m i j + n) then Some CounterFull else (
    if nat_lt rights n then Some (TooFewRights rights) else None)))

-- the same where i has taken `taken`
abbrev pub transfer_fault : MatrixState → ℕ → ℕ → ℕ → ℕ → Option TransferError
transfer_fault m i j n taken = refusal_of m i j n (rights_of m i taken)
