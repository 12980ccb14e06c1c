-- A name, cut at its dot.
use Rattle.std.proofs.Common.{◌≡◌, ◌≢◌, ℕ, zero, suc, ◌+◌, ◌<◌, ◌≤◌, Bool, true, false, cond, ltb, leb, eqb, List, [], ◌∷◌, ◌++◌, length, get_or, decimal, Option, Some, None, refl, sym, ap, ◌∙◌, arith}
use Rattle.std.specs.Prelude.{◌&&◌, ◌^◌}
use Rattle.std.specs.List.{list_all}
use Rattle.std.proofs.lemmas.Bool.{and_from, and_parts, eqb-false, le-leb, leb-true, ltb-true, ne_eqb}
use Rattle.std.proofs.lemmas.Bool.Decides.{nat_tests}
use Rattle.std.proofs.lemmas.List.{append-nil}
use Rattle.std.proofs.lemmas.Option.{cond_some}
use Rattle.text_parts.specs.Readers.{number_at}
use Rattle.text_parts.proofs.NumberLaws.{number_again}
use Rattle.merge_core.specs.Layout.{is_name_byte}
use Rattle.group_names.specs.Names.{base_of, behind_dot, generation_of, has_base_form, is_moved, moved_name, most_generations, next_name, number_behind, or_first, told_generation, whole_number}

-- no byte of a list is a dot
abbrev pub HasNoDot : List ℕ → Type 0
HasNoDot xs = (i : ℕ) → i < length xs → get_or xs i 0 ≢ 46

head_is_none : (x : ℕ) (xs : List ℕ) → HasNoDot (x ∷ xs) → eqb x 46 ≡ false
head_is_none x xs h = ne_eqb x 46 (h 0 (omega arith))

behind_head : (x : ℕ) (xs : List ℕ) → HasNoDot (x ∷ xs) → HasNoDot xs
behind_head x xs h i below = h (suc i) (omega (arith, below))

pub base_at : (xs ys : List ℕ) → HasNoDot xs → base_of (xs ++ 46 ∷ ys) ≡ xs
base_at [] ys h = refl
base_at (x ∷ xs) ys h = rw (head_is_none x xs h) (ap (λ (l : List ℕ). x ∷ l) (base_at xs ys (behind_head x xs h)))

pub behind_at : (xs ys : List ℕ) → HasNoDot xs → behind_dot (xs ++ 46 ∷ ys) ≡ Some ys
behind_at [] ys h = refl
behind_at (x ∷ xs) ys h = rw (head_is_none x xs h) (behind_at xs ys (behind_head x xs h))

pub base_whole : (xs : List ℕ) → HasNoDot xs → base_of xs ≡ xs
base_whole [] h = refl
base_whole (x ∷ xs) h = rw (head_is_none x xs h) (ap (λ (l : List ℕ). x ∷ l) (base_whole xs (behind_head x xs h)))

pub behind_none : (xs : List ℕ) → HasNoDot xs → behind_dot xs ≡ None
behind_none [] h = refl
behind_none (x ∷ xs) h = rw (head_is_none x xs h) (behind_none xs (behind_head x xs h))

-- the part in front of the dot has none
kept_head : (b : ℕ) (bs : List ℕ) (t : Bool) → eqb b 46 ≡ t → HasNoDot (base_of bs) → HasNoDot (cond t [] (b ∷ base_of bs))
kept_head b bs true e h i below = absurd (omega (arith, below))
kept_head b bs false e h zero below = eqb-false b 46 e
kept_head b bs false e h (suc i) below = h i (omega (arith, below))

pub base_has_none : (name : List ℕ) → HasNoDot (base_of name)
base_has_none [] = λ i below. absurd (omega (arith, below))
base_has_none (b ∷ bs) = kept_head b bs (eqb b 46) refl (base_has_none bs)

-- a name that anyone may give has none
no_dot_byte : (b : ℕ) → is_name_byte b ≡ true → b ≢ 46
no_dot_byte b e is = grind (arith, nat_tests)

bytes_have_none : (bs : List ℕ) → list_all is_name_byte bs ≡ true → HasNoDot bs
bytes_have_none [] e i below = absurd (omega (arith, below))
bytes_have_none (b ∷ bs) e zero below = no_dot_byte b (and_parts (is_name_byte b) (list_all is_name_byte bs) e).0
bytes_have_none (b ∷ bs) e (suc i) below = bytes_have_none bs (and_parts (is_name_byte b) (list_all is_name_byte bs) e).1 i (omega (arith, below))

pub form_has_none : (name : List ℕ) → has_base_form name ≡ true → HasNoDot name
form_has_none [] e i below = absurd (omega (arith, below))
form_has_none (b ∷ bs) e zero below =
    let first = and_parts (leb 97 b) (leb b 122) (and_parts (leb 97 b && leb b 122) (leb (length bs) 31 && list_all is_name_byte bs) e).0 in
    λ is. absurd (omega (arith, leb-true 97 b first.0, is))
form_has_none (b ∷ bs) e (suc i) below =
    let rest = and_parts (leb (length bs) 31) (list_all is_name_byte bs) (and_parts (leb 97 b && leb b 122) (leb (length bs) 31 && list_all is_name_byte bs) e).1 in
    bytes_have_none bs rest.1 i (omega (arith, below))

-- a generation is 1 at least
told_some : (t : Bool) (n : ℕ) → is_moved n ≡ t → 1 ≤ or_first (cond t (Some n) None)
told_some true n e = let low = leb-true 2 n (and_parts (leb 2 n) (leb n most_generations) e).0 in omega (arith, low)
told_some false n e = omega arith

whole_some : (o : Option (ℕ × List ℕ)) → 1 ≤ or_first (whole_number o)
whole_some None = omega arith
whole_some (Some (n, [])) = told_some (is_moved n) n refl
whole_some (Some (n, b ∷ bs)) = omega arith

behind_some : (o : Option (List ℕ)) → 1 ≤ or_first (number_behind o)
behind_some None = omega arith
behind_some (Some digits) = whole_some (number_at digits)

pub generation_some : (name : List ℕ) → 1 ≤ generation_of (Some name)
generation_some name = behind_some (behind_dot name)

-- and no more than the last one
told_most : (t : Bool) (n : ℕ) → is_moved n ≡ t → or_first (cond t (Some n) None) ≤ most_generations
told_most true n e = leb-true n most_generations (and_parts (leb 2 n) (leb n most_generations) e).1
told_most false n e = omega arith

whole_most : (o : Option (ℕ × List ℕ)) → or_first (whole_number o) ≤ most_generations
whole_most None = omega arith
whole_most (Some (n, [])) = told_most (is_moved n) n refl
whole_most (Some (n, b ∷ bs)) = omega arith

behind_most : (o : Option (List ℕ)) → or_first (number_behind o) ≤ most_generations
behind_most None = omega arith
behind_most (Some digits) = whole_most (number_at digits)

pub generation_most : (name : List ℕ) → generation_of (Some name) ≤ most_generations
generation_most name = behind_most (behind_dot name)

-- the generation of a name that a move makes
moved_told : (n : ℕ) → is_moved n ≡ true → n < 2 ^ 64 → whole_number (number_at (decimal n)) ≡ Some n
moved_told n moved small =
    ap (λ (ds : List ℕ). whole_number (number_at ds)) (sym (append-nil (decimal n)))
    ∙ ap whole_number (number_again n [] small tt)
    ∙ rw moved refl

-- a next name, part by part
pub record IsNext (name next : List ℕ) : Type 0 where
  pub own : base_of next ≡ base_of name
  pub told : told_generation next ≡ Some (generation_of (Some name) + 1)

pub next_is : (name next : List ℕ) → next_name name ≡ Some next → IsNext name next
next_is name next e =
    let g = generation_of (Some name) in
    let base = base_of name in
    let found = cond_some (ltb g most_generations) (moved_name base (g + 1)) next e in
    let below = ltb-true g most_generations found.0 in
    let some = generation_some name in
    let none = base_has_none name in
    let moved : is_moved (g + 1) ≡ true = and_from (leb 2 (g + 1)) (leb (g + 1) most_generations) (le-leb 2 (g + 1) (omega (arith, some))) (le-leb (g + 1) most_generations (omega (arith, below))) in
    record {
      own = ap base_of (sym found.1) ∙ base_at base (decimal (g + 1)) none;
      told = ap told_generation (sym found.1) ∙ ap number_behind (behind_at base (decimal (g + 1)) none) ∙ moved_told (g + 1) moved (omega (arith, below));
    }
