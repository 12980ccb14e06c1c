-- What stands behind a prefix, and what a line asks.
use Rattle.std.proofs.Common.{◌≡◌, ◌≢◌, ℕ, ◌==◌, true, List, [], ◌∷◌, ◌++◌, codes, Option, Some, None, Result, Ok, Err, inl, inr, refl, sym, ap, subst, ◌∙◌, arith, Bor}
use Rattle.std.specs.Prelude.{IfOk, MatchOption}
use Rattle.std.specs.declared.alloc.AllocError.{AllocError}
use Rattle.std.proofs.lemmas.Bool.{cases_Bool}
use Rattle.std.proofs.lemmas.Bool.Decides.{nat_tests}
use Rattle.merge_core.specs.Layout.{LayoutState}
use Rattle.merge_core.specs.declared.layout.RecordSpec.{RecordSpec}
use Rattle.serve_engine.specs.declared.marks.MarkFault.{MarkFault}
use Rattle.serve_engine.specs.declared.marks.Marker.{Marker}
use Rattle.serve_engine.specs.declared.marks.Marking.{Marking}
use Rattle.serve_engine.specs.declared.marks.Marking.TheVariants.{Marked, Plain}
use Rattle.serve_engine.specs.declared.request.Request.{Request}
use Rattle.serve_engine.specs.declared.request.Request.TheVariants.{Asked, Unread, Show, Sessions, Fence, Unmarked}
use Rattle.serve_engine.specs.Marks.{IsFault, IsMarked, mark_of, records_digest}
use Rattle.serve_engine.specs.Requests.{Asks, AsksAs, AsksBehind, AsksToTake, AsksUnmarked, Terms, rest_behind}
use Rattle.serve_engine.specs.Steps.{AreTerms}

-- bytes that begin with a prefix
pub behind_prefix : (prefix rest : List ℕ) → rest_behind prefix (prefix ++ rest) ≡ Some rest
behind_prefix [] rest = refl
behind_prefix (p ∷ prefix) rest =
    let same : (p == p) ≡ true = grind (arith, nat_tests) in
    rw same (behind_prefix prefix rest)

behind_none : (prefix bytes : List ℕ) → ((rest : List ℕ) → bytes ≢ prefix ++ rest) → rest_behind prefix bytes ≡ None
behind_none [] bytes none = absurd (none bytes refl)
behind_none (p ∷ prefix) [] none = refl
behind_none (p ∷ prefix) (b ∷ bytes) none = elim (cases_Bool (p == b)) [
  | inl e ↦ rw e (behind_none prefix bytes (λ rest same. let is : p ≡ b = grind (arith, nat_tests) in none rest (cc)))
  | inr e ↦ rw e refl
]

-- a prefix that is cut off leaves what stands behind it
pub cut_off : (prefix bytes : List ℕ) (r : Option (Bor (List ℕ))) → MatchOption r ((rest : List ℕ) → bytes ≢ prefix ++ rest) (λ x. bytes ≡ prefix ++ x.now)
    → MatchOption r (rest_behind prefix bytes ≡ None) (λ x. rest_behind prefix bytes ≡ Some x.now)
cut_off prefix bytes None none = behind_none prefix bytes none
cut_off prefix bytes (Some x) is = ap (rest_behind prefix) is ∙ behind_prefix prefix x.now

-- what stands behind a prefix, put behind it again
pub behind_is : (prefix bytes rest : List ℕ) → rest_behind prefix bytes ≡ Some rest → bytes ≡ prefix ++ rest
behind_is [] bytes rest is = cc
behind_is (p ∷ prefix) [] rest is = cc
behind_is (p ∷ prefix) (b ∷ bytes) rest is = elim (cases_Bool (p == b)) [
  | inl e ↦
      let first : p ≡ b = grind (arith, nat_tests) in
      let back : bytes ≡ prefix ++ rest = behind_is prefix bytes rest (rw e at is) in
      cc
  | inr e ↦ let clash : None ≡ Some rest = rw e at is in cc
]

-- ---- what a line asks

-- of a site that wants no marks
pub plain_asks : (layout : LayoutState) (marker : Marker) (line : List ℕ) (r : Result (Option Request) AllocError) → marker.marking ≡ Plain
    → IfOk r (AsksUnmarked layout.records line) → IfOk r (λ request. (terms : Terms) → AreTerms terms layout marker → Asks terms line request)
plain_asks layout marker line (Err e) plain asks = tt
plain_asks layout marker line (Ok request) plain asks = λ terms are.
    subst (λ (k : Marking). AsksAs k terms line request) (sym plain ∙ are.same_marking)
    (subst (λ (rs : List RecordSpec). AsksUnmarked rs line request) are.of_layout asks)

-- of one that wants them
pub marked_asks : (layout : LayoutState) (marker : Marker) (line : List ℕ) (r : Result (Option Request) AllocError) → marker.marking ≡ Marked
    → IfOk r (λ request. (terms : Terms) → AreTerms terms layout marker → AsksBehind terms line (rest_behind (codes "take ") line) request)
    → IfOk r (λ request. (terms : Terms) → AreTerms terms layout marker → Asks terms line request)
marked_asks layout marker line (Err e) marked asks = tt
marked_asks layout marker line (Ok request) marked asks = λ terms are.
    subst (λ (k : Marking). AsksAs k terms line request) (sym marked ∙ are.same_marking) (asks terms are)

-- a line that takes nothing
pub takes_none : (layout : LayoutState) (marker : Marker) (line : List ℕ) (r : Result (Option Request) AllocError) → rest_behind (codes "take ") line ≡ None
    → IfOk r (AsksUnmarked layout.records line) → IfOk r (λ request. (terms : Terms) → AreTerms terms layout marker → AsksBehind terms line (rest_behind (codes "take ") line) request)
takes_none layout marker line (Err e) none asks = tt
takes_none layout marker line (Ok request) none asks = λ terms are.
    subst (λ (o : Option (List ℕ)). AsksBehind terms line o request) (sym none) (subst (λ (rs : List RecordSpec). AsksUnmarked rs line request) are.of_layout asks)

-- a line that takes a text behind the site's own mark
asks_marked : (terms : Terms) (bytes text : List ℕ) (request : Option Request) → IsMarked bytes (mark_of terms.group (records_digest terms.records) text) text
    → AsksUnmarked terms.records (codes "take " ++ text) request → AsksToTake terms bytes request
asks_marked terms bytes text None marked asks = record { text = text; marked = marked; asks = asks }
asks_marked terms bytes text (Some (Asked call)) marked asks = record { text = text; marked = marked; asks = asks }
asks_marked terms bytes text (Some (Unread e)) marked asks = record { text = text; marked = marked; asks = asks }
asks_marked terms bytes text (Some (Show r)) marked asks = record { text = text; marked = marked; asks = asks }
asks_marked terms bytes text (Some (Sessions r)) marked asks = record { text = text; marked = marked; asks = asks }
asks_marked terms bytes text (Some (Fence r h)) marked asks = record { text = text; marked = marked; asks = asks }
asks_marked terms bytes text (Some (Unmarked fault)) marked asks = absurd asks

pub takes_text : (layout : LayoutState) (marker : Marker) (line bytes text : List ℕ) (r : Result (Option Request) AllocError) → rest_behind (codes "take ") line ≡ Some bytes
    → ((terms : Terms) (there : LayoutState) → AreTerms terms there marker → IsMarked bytes (mark_of terms.group (records_digest terms.records) text) text)
    → IfOk r (λ request. (records : List RecordSpec) → AsksUnmarked records (codes "take " ++ text) request)
    → IfOk r (λ request. (terms : Terms) → AreTerms terms layout marker → AsksBehind terms line (rest_behind (codes "take ") line) request)
takes_text layout marker line bytes text (Err e) behind marked asks = tt
takes_text layout marker line bytes text (Ok request) behind marked asks = λ terms are.
    subst (λ (o : Option (List ℕ)). AsksBehind terms line o request) (sym behind) (asks_marked terms bytes text request (marked terms layout are) (asks terms.records))

-- one that takes another
pub takes_fault : (layout : LayoutState) (marker : Marker) (line bytes : List ℕ) (fault : MarkFault) → rest_behind (codes "take ") line ≡ Some bytes
    → ((terms : Terms) (there : LayoutState) → AreTerms terms there marker → IsFault terms.group (records_digest terms.records) bytes fault)
    → (terms : Terms) → AreTerms terms layout marker → AsksBehind terms line (rest_behind (codes "take ") line) (Some (Unmarked fault))
takes_fault layout marker line bytes fault behind faulty = λ terms are.
    subst (λ (o : Option (List ℕ)). AsksBehind terms line o (Some (Unmarked fault))) (sym behind) (faulty terms layout are)

-- what a line asks at an equal layout, by the cases of what was read
pub asks_here : {there here : LayoutState} {q p : Option Request} (terms : Terms) (marker : Marker) (line : List ℕ) → there ≡ here → q ≡ p → AreTerms terms here marker
    → ((t : Terms) → AreTerms t there marker → Asks t line q) → Asks terms line p
asks_here {there} {here} {q} {p} terms marker line same is are asks =
    subst (λ (o : Option Request). Asks terms line o) is (asks terms (subst (λ (l : LayoutState). AreTerms terms l marker) (sym same) are))
