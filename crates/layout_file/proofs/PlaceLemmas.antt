-- Records one by one: where those in front are free of a fault, the next one decides.
use Rattle.std.proofs.Common.{◌≡◌, ℕ, ◌+◌, ◌-◌, ◌<◌, Bool, true, false, not, ◌&&◌, ◌||◌, List, [], ◌∷◌, ◌++◌, length, get_or, take, bytes_eq, refl, sym, ap, ◌∙◌, arith}
use Rattle.std.proofs.lemmas.Bool.{false≢true}
use Rattle.std.specs.List.{list_all}
use Rattle.std.proofs.lemmas.List.{take_more}
use Rattle.std.proofs.lemmas.List.Folds.{list_all-append, list_any-append}
use Rattle.std.proofs.lemmas.Slice.Eq.{bytes_eq-Decides}
use Rattle.std.proofs.lemmas.Bool.Decides.{Decides-like, same_from_decides}
use Rattle.merge_core.specs.declared.layout.RecordSpec.{RecordSpec}
use Rattle.merge_core.specs.declared.layout.LayoutError.{LayoutError}
use Rattle.merge_core.specs.declared.layout.LayoutError.TheVariants.{TooFewSites, TooManySites, NoRecords, TooManyRecords, BadName, SameName, BadSeats, BadHome, BadProblem}
use Rattle.merge_core.specs.Layout.{has_good_home, has_good_name, has_good_problem, has_good_seats, has_name, names_differ}
use Rattle.layout_file.specs.Places.{IsFirstAtFault, are_free_of, has_fault}

-- behind what holds, a test alone decides
test_decides : (all b : Bool) → all ≡ true → (all && (b && true)) ≡ not (not b)
test_decides true true is = refl
test_decides true false is = refl
test_decides false b is = absurd (false≢true is)

all_behind : (p : RecordSpec → Bool) (rs : List RecordSpec) (r : RecordSpec) → list_all p rs ≡ true → list_all p (rs ++ r ∷ []) ≡ not (not (p r))
all_behind p rs r pass = list_all-append p rs (r ∷ []) ∙ test_decides (list_all p rs) (p r) pass

-- names are equal either way round
same_either_way : (a b : List ℕ) → bytes_eq a b ≡ bytes_eq b a
same_either_way a b =
    same_from_decides (bytes_eq a b) (bytes_eq b a) (bytes_eq-Decides a b) (Decides-like (bytes_eq b a) (λ e. sym e) (λ e. sym e) (bytes_eq-Decides b a))

first_holds : (a b : Bool) → (a && b) ≡ true → a ≡ true
first_holds true b is = refl
first_holds false b is = absurd (false≢true is)

second_holds : (a b : Bool) → (a && b) ≡ true → b ≡ true
second_holds true b is = is
second_holds false b is = absurd (false≢true is)

neither : (h e g : Bool) → not h ≡ true → (not (h || (e || false)) && not g) ≡ not (e || g)
neither false true g is = refl
neither false false g is = refl
neither true e g is = absurd (false≢true is)

-- behind names that differ, a name decides by whether one of them is the same
differ_behind : (rs : List RecordSpec) (r : RecordSpec) → names_differ rs ≡ true → names_differ (rs ++ r ∷ []) ≡ not (has_name r.name rs)
differ_behind [] r pass = refl
differ_behind (q ∷ qs) r pass =
    let apart : not (has_name q.name qs) ≡ true = first_holds (not (has_name q.name qs)) (names_differ qs) pass in
    let rest : names_differ (qs ++ r ∷ []) ≡ not (has_name r.name qs) =
    differ_behind qs r (second_holds (not (has_name q.name qs)) (names_differ qs) pass) in
    ap (λ b. not b && names_differ (qs ++ r ∷ [])) (list_any-append (λ s. bytes_eq s.name q.name) qs (r ∷ []))
    ∙ ap (λ b. not (has_name q.name qs || (bytes_eq r.name q.name || false)) && b) rest
    ∙ neither (has_name q.name qs) (bytes_eq r.name q.name) (has_name r.name qs) apart
    ∙ ap (λ b. not (b || has_name r.name qs)) (same_either_way r.name q.name)

-- behind records that are free of a fault, the next one decides
free_behind : (error : LayoutError) (sites : ℕ) (rs : List RecordSpec) (r : RecordSpec) → are_free_of error sites rs ≡ true
    → are_free_of error sites (rs ++ r ∷ []) ≡ not (has_fault error sites rs r)
free_behind TooFewSites sites rs r free = refl
free_behind TooManySites sites rs r free = refl
free_behind NoRecords sites rs r free = refl
free_behind TooManyRecords sites rs r free = refl
free_behind BadName sites rs r free = all_behind has_good_name rs r free
free_behind SameName sites rs r free = differ_behind rs r free
free_behind BadSeats sites rs r free = all_behind has_good_seats rs r free
free_behind BadHome sites rs r free = all_behind (has_good_home sites) rs r free
free_behind BadProblem sites rs r free = all_behind has_good_problem rs r free

-- so it goes place by place
free_so_far : (error : LayoutError) (sites : ℕ) (rs : List RecordSpec) (i : ℕ) (r : RecordSpec) → i < length rs → r ≡ get_or rs i r
    → are_free_of error sites (take i rs) ≡ true
    → are_free_of error sites (take (i + 1) rs) ≡ not (has_fault error sites (take i rs) r)
free_so_far error sites rs i r within is free =
    ap (are_free_of error sites) (take_more rs i r within)
    ∙ free_behind error sites (take i rs) (get_or rs i r) free
    ∙ ap (λ (found : RecordSpec). not (has_fault error sites (take i rs) found)) (sym is)

-- the first record with the fault
pub first_found : (error : LayoutError) (sites : ℕ) (rs : List RecordSpec) (i : ℕ) (r : RecordSpec) → i < length rs → r ≡ get_or rs i r
    → are_free_of error sites (take i rs) ≡ true → has_fault error sites (take i rs) r ≡ true → IsFirstAtFault error sites rs (i + 1)
first_found error sites rs i r within is free found =
    let back : i + 1 - 1 ≡ i = omega arith in
    record {
      before = ap (λ (n : ℕ). are_free_of error sites (take n rs)) back ∙ free;
      at = free_so_far error sites rs i r within is free ∙ ap not found;
    }

-- a record without it
pub none_found : (error : LayoutError) (sites : ℕ) (rs : List RecordSpec) (i : ℕ) (r : RecordSpec) → i < length rs → r ≡ get_or rs i r
    → are_free_of error sites (take i rs) ≡ true → has_fault error sites (take i rs) r ≡ false → are_free_of error sites (take (i + 1) rs) ≡ true
none_found error sites rs i r within is free good = free_so_far error sites rs i r within is free ∙ ap not good

-- no record stands in front of the first
pub none_at_first : (error : LayoutError) (sites : ℕ) → are_free_of error sites [] ≡ true
none_at_first TooFewSites sites = refl
none_at_first TooManySites sites = refl
none_at_first NoRecords sites = refl
none_at_first TooManyRecords sites = refl
none_at_first BadName sites = refl
none_at_first SameName sites = refl
none_at_first BadSeats sites = refl
none_at_first BadHome sites = refl
none_at_first BadProblem sites = refl
