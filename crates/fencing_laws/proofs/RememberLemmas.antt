-- Two numbers say of all tokens that were let in whether they allow one more.
use Rattle.std.proofs.Common.{◌≡◌, ℕ, ◌<◌, ◌≤◌, ◌⊎◌, inl, inr, Bool, true, false, not, ◌||◌, ◌&&◌, max, cond, ltb, leb, List, [], ◌∷◌, ◌++◌, Option, Some, None, refl, sym, ap, ◌∙◌, arith}
use Rattle.std.proofs.lemmas.Bool.{cases_Bool, cases_lt, le-leb, lt-leb, lt-ltb, le-ltb, and_from, and_left, and_right}
use Rattle.fencing_laws.specs.Resource.{Token, allows, all_allow, greater_of, seen_of, is_above, lets_in}

-- what is above the greater of two numbers is above both
above_both : (m n x : ℕ) → leb (max m n) x ≡ (leb n x && leb m x)
above_both m n x = at (cases_lt x n) (cases_lt x m)
  where
    at : (x < n) ⊎ (n ≤ x) → (x < m) ⊎ (m ≤ x) → leb (max m n) x ≡ (leb n x && leb m x)
    at (inl less) other = lt-leb (max m n) x (omega (arith, less)) ∙ sym (and_left (leb n x) (leb m x) (lt-leb n x less))
    at (inr more) (inl less) = lt-leb (max m n) x (omega (arith, less)) ∙ sym (and_right (leb n x) (leb m x) (lt-leb m x less))
    at (inr more) (inr most) = le-leb (max m n) x (omega (arith, more, most)) ∙ sym (and_from (leb n x) (leb m x) (le-leb n x more) (le-leb m x most))

beyond_both : (m n x : ℕ) → ltb (max m n) x ≡ (ltb n x && ltb m x)
beyond_both m n x = at (cases_lt n x) (cases_lt m x)
  where
    at : (n < x) ⊎ (x ≤ n) → (m < x) ⊎ (x ≤ m) → ltb (max m n) x ≡ (ltb n x && ltb m x)
    at (inr less) other = le-ltb (max m n) x (omega (arith, less)) ∙ sym (and_left (ltb n x) (ltb m x) (le-ltb n x less))
    at (inl more) (inr less) = le-ltb (max m n) x (omega (arith, less)) ∙ sym (and_right (ltb n x) (ltb m x) (le-ltb m x less))
    at (inl more) (inl most) = lt-ltb (max m n) x (omega (arith, more, most)) ∙ sym (and_from (ltb n x) (ltb m x) (lt-ltb n x more) (lt-ltb m x most))

above_greater : (o : Option ℕ) (n x : ℕ) → is_above (Some (greater_of o n)) x ≡ (ltb n x && is_above o x)
above_greater (Some m) n x = beyond_both m n x
above_greater None n x = at (cases_Bool (ltb n x))
  where
    at : (ltb n x ≡ true) ⊎ (ltb n x ≡ false) → ltb n x ≡ (ltb n x && true)
    at (inl e) = e ∙ sym (and_from (ltb n x) true e refl)
    at (inr e) = e ∙ sym (and_left (ltb n x) true e)

-- what allows a writer, and what allows a reader
pub for_writer : (old new : Token) → new.writes ≡ true → allows old new ≡ leb old.number new.number
for_writer old new w = ap (λ b. cond b (leb old.number new.number) (not old.writes || ltb old.number new.number)) w

pub for_reader : (old new : Token) → new.writes ≡ false → allows old new ≡ (not old.writes || ltb old.number new.number)
for_reader old new w = ap (λ b. cond b (leb old.number new.number) (not old.writes || ltb old.number new.number)) w

writers_all : (olds : List Token) (new : Token) → new.writes ≡ true → leb (seen_of olds).greatest new.number ≡ all_allow olds new
writers_all [] new w = le-leb 0 new.number (omega arith)
writers_all (old ∷ olds) new w =
    above_both (seen_of olds).greatest old.number new.number
    ∙ (ap (λ b. leb old.number new.number && b) (writers_all olds new w) ∙ ap (λ b. b && all_allow olds new) (sym (for_writer old new w)))

readers_all : (olds : List Token) (new : Token) → new.writes ≡ false → is_above (seen_of olds).of_writers new.number ≡ all_allow olds new
readers_all [] new w = refl
readers_all (old ∷ olds) new w = at (cases_Bool old.writes) (readers_all olds new w)
  where
    rest : Option ℕ
    rest = (seen_of olds).of_writers

    at : (old.writes ≡ true) ⊎ (old.writes ≡ false) → is_above (seen_of olds).of_writers new.number ≡ all_allow olds new → is_above (cond old.writes (Some (greater_of (seen_of olds).of_writers old.number)) (seen_of olds).of_writers) new.number ≡ (allows old new && all_allow olds new)
    at (inl e) earlier =
        ap (λ b. is_above (cond b (Some (greater_of rest old.number)) rest) new.number) e
        ∙ (above_greater rest old.number new.number
        ∙ (ap (λ b. ltb old.number new.number && b) earlier
        ∙ ap (λ b. b && all_allow olds new) (sym (for_reader old new w ∙ ap (λ b. not b || ltb old.number new.number) e))))
    at (inr e) earlier =
        ap (λ b. is_above (cond b (Some (greater_of rest old.number)) rest) new.number) e
        ∙ (earlier ∙ ap (λ b. b && all_allow olds new) (sym (for_reader old new w ∙ ap (λ b. not b || ltb old.number new.number) e)))

pub two_numbers : (olds : List Token) (new : Token) → lets_in (seen_of olds) new ≡ all_allow olds new
two_numbers olds new = at (cases_Bool new.writes)
  where
    side : (b : Bool) → new.writes ≡ b → lets_in (seen_of olds) new ≡ cond b (leb (seen_of olds).greatest new.number) (is_above (seen_of olds).of_writers new.number)
    side b e = ap (λ b. cond b (leb (seen_of olds).greatest new.number) (is_above (seen_of olds).of_writers new.number)) e

    at : (new.writes ≡ true) ⊎ (new.writes ≡ false) → lets_in (seen_of olds) new ≡ all_allow olds new
    at (inl e) = side true e ∙ writers_all olds new e
    at (inr e) = side false e ∙ readers_all olds new e

-- what doesn't allow a token goes on to refuse it
pub remembered : (older newer : List Token) (old new : Token) → allows old new ≡ false → lets_in (seen_of (newer ++ old ∷ older)) new ≡ false
remembered older newer old new refused = two_numbers (newer ++ old ∷ older) new ∙ still newer
  where
    still : (newer : List Token) → all_allow (newer ++ old ∷ older) new ≡ false
    still [] = and_left (allows old new) (all_allow older new) refused
    still (it ∷ rest) = and_right (allows it new) (all_allow (rest ++ old ∷ older) new) (still rest)
