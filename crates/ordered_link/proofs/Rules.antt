-- Each step on a link keeps its rule.
use Rattle.std.proofs.Common.{◌≡◌, ◌≢◌, ◌≤◌, ℕ, zero, suc, true, false, true≢false, List, [], ◌∷◌, ◌++◌, length, set, sym, refl, ap, ◌∙◌, subst, ⊎_elim, append_assoc, append-nil, arith, length-append, Bool}
use mathlib.Core.Option.{some, some-ne-none}
use lib.ListN.{get_elem?}
use Rattle.crossbeam_channel.specs.Fifo.{Pushes, Pops, Forks, Merges, Learns}
use Rattle.atomic_table.proofs.Lists.{at_set, at_snoc}
use Rattle.std.specs.Prelude.{string_bytes, if◌then◌else◌, ◌||◌}
use Rattle.ordered_link.specs.declared.rule.Parcel.{Parcel}
use Rattle.ordered_link.specs.declared.rule.Parcel.TheVariants.{Text, Last}
use Rattle.ordered_link.specs.declared.rule.Log.{Log}
use Rattle.ordered_link.specs.Rule.{log, link_capacity, Fits, InOrder}
use Rattle.ordered_link.specs.Ends.{texts_of, is_finished, late_texts}

at_end : (l : List Log) (a b : Log) (j : ℕ) → get_elem? l j ≢ some b → get_elem? (l ++ a ∷ []) j ≡ some b → j ≡ length l
at_end [] a b zero n e = refl
at_end [] a b (suc j) n e = absurd (some-ne-none b (sym e))
at_end (x ∷ xs) a b zero n e = absurd (n e)
at_end (x ∷ xs) a b (suc j) n e = ap suc (at_end xs a b j n e)

-- each pass, by its number, is so
abbrev Each : (ℕ → Log → Type 0) → List Log → Type 0
Each F views = (port : ℕ) (v : Log) → get_elem? views port ≡ some v → F port v

each_set : (F : ℕ → Log → Type 0) (views : List Log) (port : ℕ) (w : Log) → F port w → ((j : ℕ) (u : Log) → j ≢ port → get_elem? views j ≡ some u → F j u) → Each F (set views port w)
each_set F views port w mine others j u e =
    ⊎_elim (λ (x : (j ≡ port) × (w ≡ u)). subst (λ (y : ℕ × Log). F y.0 y.1) (λ i. (sym x.0 i, x.1 i)) mine)
    (λ (x : (j ≢ port) × (get_elem? views j ≡ some u)). others j u x.0 x.1) (at_set views port j w u e)

pub begins : InOrder [] (log true true [] [] ∷ [])
begins = (
  0,
  0,
  [],
  [],
  refl,
  each_set (Fits 0 0 [] []) (log true true [] [] ∷ []) 0 (log true true [] []) ((λ _. (refl, refl)), λ _. (refl, refl))
      (λ j u other e. absurd (other (at_end [] _ u j (λ x. some-ne-none u (sym x)) e))),
  omega arith,
)

pub puts : (n port : ℕ) (v : Log) (x : Parcel) → n ≡ link_capacity → v.puts ≡ true → Pushes InOrder n port v x (λ w. w ≡ log v.puts v.takes (v.put ++ x ∷ []) v.taken)
puts n port v x holds may items views few h at =
    let w : Log = log v.puts v.takes (v.put ++ x ∷ []) v.taken in
    let mine = h.5 port v at in
    let put = h.2 ++ x ∷ [] in (
      w,
      (
        h.0,
        h.1,
        put,
        h.3,
        ap (λ l. l ++ x ∷ []) h.4 ∙ append_assoc h.3 items (x ∷ []),
        each_set (Fits h.0 h.1 put h.3) views port w ((λ _. ((mine.0 may).0, ap (λ l. l ++ x ∷ []) (mine.0 may).1)), mine.1)
            (λ j u other e. ((λ p. absurd (other (((h.5 j u e).0 p).0 ∙ sym (mine.0 may).0))), (h.5 j u e).1)),
        omega (arith, holds, few, length-append items (x ∷ [])),
      ),
      refl,
    )

pub takes : (port : ℕ) (v : Log) → v.takes ≡ true → Pops InOrder port v (λ x w. w ≡ log v.puts v.takes v.put (v.taken ++ x ∷ []))
takes port v may x items views h at =
    let w : Log = log v.puts v.takes v.put (v.taken ++ x ∷ []) in
    let mine = h.5 port v at in
    let taken = h.3 ++ x ∷ [] in (
      w,
      (
        h.0,
        h.1,
        h.2,
        taken,
        h.4 ∙ sym (append_assoc h.3 (x ∷ []) items),
        each_set (Fits h.0 h.1 h.2 taken) views port w (mine.0, λ _. ((mine.1 may).0, ap (λ l. l ++ x ∷ []) (mine.1 may).1))
            (λ j u other e. ((h.5 j u e).0, λ p. absurd (other (((h.5 j u e).1 p).0 ∙ sym (mine.1 may).0)))),
        omega (arith, h.6),
      ),
      refl,
    )

pub forks : (port : ℕ) (v : Log) → v.puts ≡ true → v.takes ≡ true → Forks InOrder port v (log true false v.put []) (log false true [] v.taken)
forks port v a b items views h at =
    let l : Log = log true false v.put [] in
    let r : Log = log false true [] v.taken in
    let mine = h.5 port v at in
    let vs : List Log = set views port l in
    let Old : ℕ → Log → Type 0 = λ j u. (u.puts ≡ true → (j ≡ h.0) × (u.put ≡ h.2)) × (u.takes ≢ true) in
    let old : Each Old vs = each_set Old views port l ((λ _. mine.0 a), λ p. true≢false (sym p))
    (λ j u other e. ((h.5 j u e).0, λ p. other (((h.5 j u e).1 p).0 ∙ sym (mine.1 b).0))) in (
      h.0,
      length vs,
      h.2,
      h.3,
      h.4,
      (λ j u e. ⊎_elim (λ x. ((old j u x).0, λ p. absurd ((old j u x).1 p)))
          (λ (is : r ≡ u). (
            (λ p. absurd (true≢false (sym (ap (λ (y : Log). y.puts) is ∙ p)))),
            λ p. (at_end vs r u j (λ x. (old j u x).1 p) e, ap (λ (y : Log). y.taken) (sym is) ∙ (mine.1 b).1),
          )) (at_snoc vs r u j e)),
      h.6,
    )

pub merges : (port : ℕ) (v : Log) (other : ℕ) (u : Log) → v.puts ≡ true → u.takes ≡ true → Merges InOrder port v other u (log true true v.put u.taken) (log false false [] [])
merges port v other u a b items views h at two at' =
    let both : Log = log true true v.put u.taken in
    let mine = h.5 port v at in
    let vs : List Log = set views port both in
    let was : get_elem? views other ≡ some u = ⊎_elim (λ x. absurd (two x.0)) (λ x. x.1) (at_set views port other both u at') in
    let theirs = (h.5 other u was).1 b in
    let Now : ℕ → Log → Type 0 = λ j y. j ≢ other → Fits h.0 port h.2 h.3 j y in
    let now : Each Now vs = each_set Now views port both (λ _. ((λ _. mine.0 a), λ _. (refl, theirs.1)))
    (λ j y _ e apart. ((h.5 j y e).0, λ p. absurd (apart (((h.5 j y e).1 p).0 ∙ sym theirs.0)))) in (
      h.0,
      port,
      h.2,
      h.3,
      h.4,
      each_set (Fits h.0 port h.2 h.3) vs other (log false false [] []) ((λ p. absurd (true≢false (sym p))), λ p. absurd (true≢false (sym p)))
          (λ j y apart e. now j y e apart),
      h.6,
    )

pub totals : (port : ℕ) (v : Log) → v.puts ≡ true → v.takes ≡ true → Learns InOrder port v (λ items. (v.put ≡ v.taken ++ items) × (length items ≤ link_capacity))
totals port v a b items views h at =
    let mine = h.5 port v at in
    ((mine.0 a).1 ∙ h.4 ∙ ap (λ l. l ++ items) (sym (mine.1 b).1), h.6)

pub texts_append : (xs ys : List Parcel) → texts_of (xs ++ ys) ≡ texts_of xs ++ texts_of ys
texts_append [] ys = refl
texts_append (Text s ∷ xs) ys = ap (λ (ts : List (List ℕ)). string_bytes s ∷ ts) (texts_append xs ys)
texts_append (Last ∷ xs) ys = texts_append xs ys

-- each text is a parcel
pub texts_few : (xs : List Parcel) → length (texts_of xs) ≤ length xs
texts_few [] = omega arith
texts_few (Text s ∷ xs) = omega (arith, texts_few xs)
texts_few (Last ∷ xs) = omega (arith, texts_few xs)

finished_append : (xs ys : List Parcel) → is_finished (xs ++ ys) ≡ (is_finished xs || is_finished ys)
finished_append [] ys = refl
finished_append (Text s ∷ xs) ys = finished_append xs ys
finished_append (Last ∷ xs) ys = refl

-- the word that no text will follow was put where it is the parcel, or was before
pub finished_on : (v w : Log) (x : Parcel) (done : Bool) → done ≡ true → w ≡ log v.puts v.takes (v.put ++ x ∷ []) v.taken
    → is_finished w.put ≡ (if done then is_finished v.put || is_finished (x ∷ []) else is_finished v.put)
finished_on v w x true is step = ap (λ (l : Log). is_finished l.put) step ∙ finished_append v.put (x ∷ [])
finished_on v w x false is step = absurd (true≢false (sym is))

pub finished_back : (v w : Log) (x : Parcel) (done : Bool) → done ≡ false → w ≡ v
    → is_finished w.put ≡ (if done then is_finished v.put || is_finished (x ∷ []) else is_finished v.put)
finished_back v w x true is step = absurd (true≢false is)
finished_back v w x false is step = ap (λ (l : Log). is_finished l.put) step

-- a parcel that was put is the last one
pub put_on : (v w : Log) (x : Parcel) (done : Bool) → done ≡ true → w ≡ log v.puts v.takes (v.put ++ x ∷ []) v.taken
    → texts_of w.put ≡ (if done then texts_of v.put ++ texts_of (x ∷ []) else texts_of v.put)
put_on v w x true is step = ap (λ (l : Log). texts_of l.put) step ∙ texts_append v.put (x ∷ [])
put_on v w x false is step = absurd (true≢false (sym is))

-- one that was not put leaves all as it was
pub put_back : (v w : Log) (x : Parcel) (done : Bool) → done ≡ false → w ≡ v
    → texts_of w.put ≡ (if done then texts_of v.put ++ texts_of (x ∷ []) else texts_of v.put)
put_back v w x true is step = absurd (true≢false is)
put_back v w x false is step = ap (λ (l : Log). texts_of l.put) step

-- no text stands behind a word that is not there
none_late : (ps : List Parcel) → is_finished ps ≡ false → late_texts ps ≡ []
none_late [] none = refl
none_late (Text s ∷ ps) none = none_late ps none
none_late (Last ∷ ps) none = absurd (true≢false none)

late_after : (ps qs : List Parcel) → is_finished ps ≡ true → late_texts (ps ++ qs) ≡ late_texts ps ++ texts_of qs
late_after [] qs told = absurd (true≢false (sym told))
late_after (Text s ∷ ps) qs told = late_after ps qs told
late_after (Last ∷ ps) qs told = texts_append ps qs

late_before : (ps : List Parcel) (x : Parcel) → is_finished ps ≡ false → late_texts (ps ++ x ∷ []) ≡ []
late_before [] (Text s) none = refl
late_before [] Last none = refl
late_before (Text s ∷ ps) x none = late_before ps x none
late_before (Last ∷ ps) x none = absurd (true≢false none)

-- a parcel that was put behind that word is late
late_one : (ps : List Parcel) (x : Parcel) (told : Bool) → is_finished ps ≡ told → late_texts (ps ++ x ∷ []) ≡ late_texts ps ++ (if told then texts_of (x ∷ []) else [])
late_one ps x true is = late_after ps (x ∷ []) is
late_one ps x false is = late_before ps x is ∙ (sym (none_late ps is) ∙ sym (append-nil (late_texts ps)))

pub late_on : (v w : Log) (x : Parcel) (done : Bool) → done ≡ true → w ≡ log v.puts v.takes (v.put ++ x ∷ []) v.taken
    → late_texts w.put ≡ (if done then late_texts v.put ++ (if is_finished v.put then texts_of (x ∷ []) else []) else late_texts v.put)
late_on v w x true is step = ap (λ (l : Log). late_texts l.put) step ∙ late_one v.put x (is_finished v.put) refl
late_on v w x false is step = absurd (true≢false (sym is))

pub late_back : (v w : Log) (x : Parcel) (done : Bool) → done ≡ false → w ≡ v
    → late_texts w.put ≡ (if done then late_texts v.put ++ (if is_finished v.put then texts_of (x ∷ []) else []) else late_texts v.put)
late_back v w x true is step = absurd (true≢false is)
late_back v w x false is step = ap (λ (l : Log). late_texts l.put) step

-- where that word was taken, it was put, and all texts were taken that were put before it
pub all_taken : (put taken items : List Parcel) → put ≡ taken ++ items → is_finished taken ≡ true → (is_finished put ≡ true) × (late_texts put ≡ [] → texts_of items ≡ [])
all_taken put taken items is told = (
  ap is_finished is ∙ (finished_append taken items ∙ ap (λ (b : Bool). b || is_finished items) told),
  λ none. none_behind (late_texts taken) (texts_of items) (sym (late_after taken items told) ∙ (ap late_texts (sym is) ∙ none)),
)
  where
    none_behind : (xs ys : List (List ℕ)) → xs ++ ys ≡ [] → ys ≡ []
    none_behind [] ys none = none
    none_behind (x ∷ xs) ys none = cc

-- a parcel that was taken is the last one
pub took_texts : (v w : Log) (x : Parcel) → w ≡ log v.puts v.takes v.put (v.taken ++ x ∷ []) → texts_of w.taken ≡ texts_of v.taken ++ texts_of (x ∷ [])
took_texts v w x step = ap (λ (l : Log). texts_of l.taken) step ∙ texts_append v.taken (x ∷ [])

pub took_word : (v w : Log) (x : Parcel) → w ≡ log v.puts v.takes v.put (v.taken ++ x ∷ []) → is_finished w.taken ≡ (is_finished v.taken || is_finished (x ∷ []))
took_word v w x step = ap (λ (l : Log). is_finished l.taken) step ∙ finished_append v.taken (x ∷ [])
