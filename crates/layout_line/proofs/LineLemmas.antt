-- The number in front of a line is its alone.
use Rattle.std.proofs.Common.{◌≡◌, ◌≢◌, ℕ, ◌<◌, ◌^◌, List, [], ◌∷◌, ◌++◌, decimal, codes, Some, None, sym, ap, refl, ◌∙◌, arith}
use Rattle.std.proofs.lemmas.Option.{none-some, some_pair_parts}
use Rattle.text_parts.specs.declared.unread.Unread.{Unread}
use Rattle.text_parts.specs.declared.unread.Unread.TheVariants.{Refused, Memory}
use Rattle.text_parts.specs.Readers.{NoDigit, number_at, Fails}
use Rattle.text_parts.proofs.NumberLaws.{number_takes, number_again}
use Rattle.merge_core.specs.declared.layout.RecordSpec.{RecordSpec}
use Rattle.layout_line.specs.Line.{records_text}

-- a line with a number in front is read so
reads : (line t : List ℕ) (n : ℕ) → NoDigit t → n < 2 ^ 64 → line ≡ decimal n ++ t → number_at line ≡ Some (n, t)
reads line t n free small is = ap number_at is ∙ number_again n t small free

-- a line that is not read has no number in front
pub unread : (e : Unread) (line t : List ℕ) (n : ℕ) → e ≡ Refused → Fails e (number_at line) → NoDigit t → n < 2 ^ 64 → line ≢ decimal n ++ t
unread Refused line t n plain none free small is = none-some (n, t) (sym none ∙ reads line t n free small is)
unread Memory line t n plain none free small is = grind (arith, plain)

-- a line is read in one way
pub one_reading : (line behind t : List ℕ) (m n : ℕ) → number_at line ≡ Some (m, behind) → NoDigit t → n < 2 ^ 64 → line ≡ decimal n ++ t → (m ≡ n) × (behind ≡ t)
one_reading line behind t m n read free small is = some_pair_parts m n behind t (sym read ∙ reads line t n free small is)

-- records begin with no digit
pub records_free : (records : List RecordSpec) → NoDigit (records_text records)
records_free [] = _
records_free (r ∷ rs) = refl

-- a line that has a number of sites in front of the records is that of no layout of another number
pub other_sites : (line t : List ℕ) (m n : ℕ) → NoDigit t → m < 2 ^ 64 → n < 2 ^ 64 → line ≡ decimal m ++ t → line ≡ decimal n ++ t → m ≡ n
other_sites line t m n free small small_n is is_n = (one_reading line t t m n (reads line t m free small is) free small_n is_n).0
