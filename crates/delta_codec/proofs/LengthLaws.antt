-- Every delta's text is far shorter than the limit.
use Rattle.std.proofs.Common.{◌≡◌, ℕ, suc, ◌+◌, ◌*◌, ◌^◌, ◌<◌, ◌≤◌, List, [], ◌∷◌, length, decimal, ap, arith}
use Rattle.std.specs.List.{AllByRecursion}
use Rattle.std.proofs.lemmas.List.{length-append}
use Rattle.std.proofs.Math.Nat.{suc-mul}
use Rattle.std.proofs.lemmas.Fmt.{length-decimal-le}
use Rattle.merge_core.specs.Delta.{DeltaState, IsDelta, IsRow, IsRising}
use Rattle.merge_core.specs.declared.delta.Row.{Row}
use Rattle.text_parts.specs.Lists.{later, joined}
use Rattle.delta_codec.specs.Decodes.{HasNoDelta, text_limit}
use Rattle.delta_codec.specs.DeltaText.{row_text, delta_text}
use Rattle.delta_codec.proofs.DeltaLaws.{few_rows}

counter_length : (n : ℕ) → n < 2 ^ 64 → length (decimal n) ≤ 20
counter_length n fits = length-decimal-le 20 n (omega arith) (omega arith) fits

record_length : (n : ℕ) → n < 256 → length (decimal n) ≤ 3
record_length n fits = length-decimal-le 3 n (omega arith) (omega arith) (omega arith)

site_length : (n : ℕ) → n < 16 → length (decimal n) ≤ 2
site_length n fits = length-decimal-le 2 n (omega arith) (omega arith) (omega arith)

-- a list whose elements' texts have at most `most` bytes
later_length : {A : Type 0} (text : A → List ℕ) (Fits : A → Type 0) (most : ℕ) → ((x : A) → Fits x → length (text x) ≤ most) → (xs : List A) → AllByRecursion Fits xs → length (later text xs) ≤ length xs * (most + 1)
later_length text Fits most short [] fits = omega arith
later_length text Fits most short (x ∷ xs) fits =
    let here = short x fits.0 in
    let others = later_length text Fits most short xs fits.1 in
    let sum = length-append (text x) (later text xs) in
    let product : suc (length xs) * (most + 1) ≡ length xs * (most + 1) + (most + 1) = suc-mul (length xs) (most + 1) in
    omega arith

joined_length : {A : Type 0} (text : A → List ℕ) (Fits : A → Type 0) (most : ℕ) → ((x : A) → Fits x → length (text x) ≤ most) → (xs : List A) → AllByRecursion Fits xs → length (joined text xs) ≤ length xs * (most + 1)
joined_length text Fits most short [] fits = omega arith
joined_length text Fits most short (x ∷ xs) fits =
    let here = short x fits.0 in
    let others = later_length text Fits most short xs fits.1 in
    let sum = length-append (text x) (later text xs) in
    let product : suc (length xs) * (most + 1) ≡ length xs * (most + 1) + (most + 1) = suc-mul (length xs) (most + 1) in
    omega arith

row_length : (p : Row) → IsRow p → length (row_text p) ≤ 444
unfolding row_text
row_length p fits =
    let ann = counter_length p.ann fits.ann_fits in
    let fin = counter_length p.fin fits.fin_fits in
    let taken = counter_length p.taken fits.taken_fits in
    let record_digits = record_length p.r fits.record_number in
    let site_digits = site_length p.s fits.site_number in
    let out = joined_length decimal (λ n. n < 2 ^ 64) 20 counter_length p.out fits.out_fits in
    let few = fits.few_sites in
    simp length-append (omega arith)

rows_few : (ps : List Row) → IsRising ps → AllByRecursion IsRow ps → length ps ≤ 4096
rows_few [] rising fits = omega arith
rows_few (p ∷ ps) rising fits = omega (arith, few_rows p ps rising fits)

-- the longest text: 4,096 rows of 444 bytes and a comma, and 27 bytes round them
pub delta_length : (d : DeltaState) → IsDelta d → length (delta_text d) ≤ 1822747
unfolding delta_text
delta_length d is =
    let label = site_length d.from is.from_site in
    let rows = joined_length row_text IsRow 444 row_length d.rows is.rows in
    let few = rows_few d.rows is.rising is.rows in
    simp length-append (omega arith)

-- beyond the limit there is no delta's text
pub too_long_none : (bytes : List ℕ) → text_limit < length bytes → HasNoDelta bytes
too_long_none bytes long d is text =
    let short = delta_length d is in
    let same : length bytes ≡ length (delta_text d) = ap length text in
    omega arith
