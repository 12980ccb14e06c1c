-- Every delta's text is UTF-8.
use Rattle.std.proofs.Common.{◌≡◌, ℕ, ◌^◌, ◌<◌, Bool, true, false, cond, ltb, List, [], ◌∷◌, ◌++◌, codes, decimal, refl, sym, subst, arith}
use Rattle.std.specs.List.{AllByRecursion}
use Rattle.std.specs.Str.{IsAscii, IsUtf8}
use Rattle.std.proofs.lemmas.Bool.{ltb-true}
use Rattle.std.proofs.lemmas.Str.{IsUtf8-append, IsUtf8-from_ascii, IsUtf8-nil}
use Rattle.std.proofs.lemmas.Str.Ascii.{IsAscii-nil, IsAscii-cons}
use Rattle.std.proofs.lemmas.Fmt.{IsAscii-decimal}
use Rattle.merge_core.specs.Delta.{DeltaState, IsDelta, IsRow}
use Rattle.merge_core.specs.declared.delta.Row.{Row}
use Rattle.text_parts.specs.Lists.{later, joined}
use Rattle.delta_codec.specs.Decodes.{HasNoDelta}
use Rattle.delta_codec.specs.DeltaText.{row_text, delta_text}

abbrev all_ascii : List ℕ → Bool
all_ascii [] = true
all_ascii (b ∷ bs) = cond (ltb b 128) (all_ascii bs) false

below : (b : Bool) (rest : Bool) → cond b rest false ≡ true → (b ≡ true) × (rest ≡ true)
below true rest e = (refl, e)
below false rest e = absurd (cc)

each_ascii : (bytes : List ℕ) → all_ascii bytes ≡ true → IsAscii bytes
each_ascii [] all = IsAscii-nil
each_ascii (b ∷ bs) all =
    let parts = below (ltb b 128) (all_ascii bs) all in
    IsAscii-cons b bs (ltb-true b 128 parts.0) (each_ascii bs parts.1)

-- a literal of ASCII bytes
literal_utf8 : (literal : List ℕ) → all_ascii literal ≡ true → IsUtf8 literal
literal_utf8 literal all = IsUtf8-from_ascii literal (each_ascii literal all)

number : (n : ℕ) → n < 2 ^ 64 → IsUtf8 (decimal n)
number n fits = IsUtf8-from_ascii (decimal n) (IsAscii-decimal n fits)

later_utf8 : {A : Type 0} (text : A → List ℕ) (Fits : A → Type 0) → ((x : A) → Fits x → IsUtf8 (text x)) → (xs : List A) → AllByRecursion Fits xs → IsUtf8 (later text xs)
later_utf8 text Fits each [] fits = IsUtf8-nil
later_utf8 text Fits each (x ∷ xs) fits =
    IsUtf8-append (codes ",") _ (literal_utf8 (codes ",") refl) (IsUtf8-append _ _ (each x fits.0) (later_utf8 text Fits each xs fits.1))

joined_utf8 : {A : Type 0} (text : A → List ℕ) (Fits : A → Type 0) → ((x : A) → Fits x → IsUtf8 (text x)) → (xs : List A) → AllByRecursion Fits xs → IsUtf8 (joined text xs)
joined_utf8 text Fits each [] fits = IsUtf8-nil
joined_utf8 text Fits each (x ∷ xs) fits = IsUtf8-append _ _ (each x fits.0) (later_utf8 text Fits each xs fits.1)

-- a literal and what follows it
behind : (literal bytes : List ℕ) → IsUtf8 literal → IsUtf8 bytes → IsUtf8 (literal ++ bytes)
behind literal bytes = IsUtf8-append literal bytes

row_utf8 : (p : Row) → IsRow p → IsUtf8 (row_text p)
unfolding row_text
row_utf8 p fits =
    behind (codes "{\"ann\":") _ (literal_utf8 (codes "{\"ann\":") refl) (behind (decimal p.ann) _ (number p.ann fits.ann_fits)
    (behind (codes ",\"fin\":") _ (literal_utf8 (codes ",\"fin\":") refl) (behind (decimal p.fin) _ (number p.fin fits.fin_fits)
    (behind (codes ",\"out\":[") _ (literal_utf8 (codes ",\"out\":[") refl) (behind (joined decimal p.out) _ (joined_utf8 decimal (λ n. n < 2 ^ 64) number p.out fits.out_fits)
    (behind (codes "],\"r\":") _ (literal_utf8 (codes "],\"r\":") refl) (behind (decimal p.r) _ (number p.r (omega (arith, fits.record_number)))
    (behind (codes ",\"s\":") _ (literal_utf8 (codes ",\"s\":") refl) (behind (decimal p.s) _ (number p.s (omega (arith, fits.site_number)))
    (behind (codes ",\"taken\":") _ (literal_utf8 (codes ",\"taken\":") refl) (behind (decimal p.taken) _ (number p.taken fits.taken_fits)
    (literal_utf8 (codes "}") refl))))))))))))

delta_utf8 : (d : DeltaState) → IsDelta d → IsUtf8 (delta_text d)
unfolding delta_text
delta_utf8 d is =
    behind (codes "{\"from\":") _ (literal_utf8 (codes "{\"from\":") refl) (behind (decimal d.from) _ (number d.from (omega (arith, is.from_site)))
    (behind (codes ",\"rows\":[") _ (literal_utf8 (codes ",\"rows\":[") refl) (behind (joined row_text d.rows) _ (joined_utf8 row_text IsRow row_utf8 d.rows is.rows)
    (literal_utf8 (codes "],\"v\":1}") refl))))

-- bytes that are not UTF-8 are no delta's text
pub not_utf8_none : (bytes : List ℕ) → ¬ IsUtf8 bytes → HasNoDelta bytes
not_utf8_none bytes other d is text = other (subst IsUtf8 (sym text) (delta_utf8 d is))
