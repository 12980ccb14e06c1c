-- The texts of small numbers.
use Rattle.std.proofs.Common.{◌≡◌, [], ◌∷◌, decimal, arith}
use Rattle.std.proofs.lemmas.Fmt.{decimal_digit}

pub zero_written : decimal 0 ≡ 48 ∷ []
zero_written = decimal_digit 0 (omega arith)

pub one_written : decimal 1 ≡ 49 ∷ []
one_written = decimal_digit 1 (omega arith)

pub two_written : decimal 2 ≡ 50 ∷ []
two_written = decimal_digit 2 (omega arith)

pub three_written : decimal 3 ≡ 51 ∷ []
three_written = decimal_digit 3 (omega arith)
