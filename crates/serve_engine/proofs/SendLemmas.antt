-- What a mark adds to the answer to a call.
use Rattle.std.proofs.Common.{◌≡◌, ℕ, ◌+◌, Bool, true, false, List, [], ◌∷◌, ◌++◌, length, codes, Option, Some, refl, sym, ap, ◌∙◌, arith, append_assoc, length-append}
use Rattle.std.specs.Prelude.{if◌then◌else◌, string_bytes}
use Rattle.merge_core.specs.Layout.{LayoutState}
use Rattle.admission_model.specs.declared.ask.Call.{Call}
use Rattle.admission_model.specs.declared.ask.Call.TheVariants.{Ask, Merge, Snapshot}
use Rattle.admission_model.specs.View.{View}
use Rattle.admission_model.specs.Merging.{snapshot_of}
use Rattle.admission_model.specs.Serving.{reply_of}
use Rattle.delta_codec.specs.DeltaText.{delta_text}
use Rattle.live_site.specs.Live.{line_of}
use Rattle.live_site.specs.Overfull.{overfull_in}
use Rattle.serve_engine.specs.declared.marks.Marker.{Marker}
use Rattle.serve_engine.specs.declared.marks.Marking.{Marking}
use Rattle.serve_engine.specs.declared.marks.Marking.TheVariants.{Marked, Plain}
use Rattle.serve_engine.specs.Marks.{group_word, mark_of, records_digest, text_digest, with_mark}
use Rattle.serve_engine.specs.Requests.{Terms}
use Rattle.serve_engine.specs.Answers.{reply_line, sent_text}
use Rattle.serve_engine.specs.Steps.{AreTerms, is_marked, space_before, zero_mark}
use Rattle.serve_engine.proofs.MarkLemmas.{records_digits}

chosen : (b : Bool) (x : List ℕ) → b ≡ true → (if b then x else []) ≡ x
chosen true x e = refl
chosen false x e = cc

-- what gives too many rights asks for no delta
pub unmarked_overfull : (terms : Terms) (v : View) (call : Call) (r : ℕ) → overfull_in v call ≡ Some r → space_before terms call ≡ []
unmarked_overfull terms v (Ask ask) r e = refl
unmarked_overfull terms v (Merge delta) r e = refl
unmarked_overfull terms v Snapshot r e = cc

-- ---- the space in front of an answer

-- whether an answer is marked, by a marker and by the terms that it is of
by_terms : (terms : Terms) (layout : LayoutState) (marker : Marker) (call : Call) (b : Bool) → AreTerms terms layout marker → is_marked call marker.marking ≡ b → is_marked call terms.marking ≡ b
by_terms terms layout marker call b are is = ap (λ (k : Marking). is_marked call k) (sym are.same_marking) ∙ is

-- ---- the answer behind that space

-- a mark with zeros, and what stands behind it
spread : (g r t : List ℕ) → zero_mark g r ++ t ≡ (g ++ 32 ∷ (r ++ 32 ∷ [])) ++ (codes "00000000 " ++ t)
spread g r t = simp append_assoc

-- a mark, its text, and what stands behind that
folded : (g r c t z : List ℕ) → (g ++ 32 ∷ (r ++ 32 ∷ [])) ++ (c ++ 32 ∷ (t ++ z)) ≡ (g ++ 32 ∷ (r ++ 32 ∷ (c ++ 32 ∷ t))) ++ z
folded g r c t z = simp append_assoc

marked_text : (k : Marking) (group : Option (List ℕ)) (digest text : List ℕ) → is_marked Snapshot k ≡ true → with_mark (mark_of group digest text) text ≡ sent_text k group digest text
marked_text Marked group digest text marked = refl
marked_text Plain group digest text marked = cc

front_length : (g r : List ℕ) → length r ≡ 16 → length (g ++ 32 ∷ (r ++ 32 ∷ [])) ≡ length g + 18
front_length g r digits = omega (arith, length-append g (32 ∷ (r ++ 32 ∷ [])), length-append r (32 ∷ []), digits)

-- the digits of the text's digest were written in place of the zeros
pub filled : (terms : Terms) (layout : LayoutState) (marker : Marker) (v : View) (call : Call) (old new : List ℕ) (place : ℕ) → AreTerms terms layout marker
    → is_marked call marker.marking ≡ true → place ≡ length (string_bytes marker.group) + 18
    → ((before text : List ℕ) → length before ≡ place → old ≡ before ++ (codes "00000000 " ++ (text ++ 10 ∷ [])) → new ≡ before ++ (text_digest text ++ 32 ∷ (text ++ 10 ∷ [])))
    → old ≡ space_before terms call ++ line_of (reply_of v call) → new ≡ reply_line terms (reply_of v call)
filled terms layout marker v (Ask ask) old new place are marked placed fills is = cc
filled terms layout marker v (Merge delta) old new place are marked placed fills is = cc
filled terms layout marker v Snapshot old new place are marked placed fills is =
    let g = group_word terms.group in
    let r = records_digest terms.records in
    let text = delta_text (snapshot_of v) in
    let here = by_terms terms layout marker Snapshot true are marked in
    let long : length (g ++ 32 ∷ (r ++ 32 ∷ [])) ≡ place =
    front_length g r (records_digits terms.records).counted ∙ (ap (λ (w : List ℕ). length w + 18) (sym are.word) ∙ sym placed) in
    let space : old ≡ (g ++ 32 ∷ (r ++ 32 ∷ [])) ++ (codes "00000000 " ++ (text ++ 10 ∷ [])) =
    is ∙ (ap (λ (t : List ℕ). t ++ (text ++ 10 ∷ [])) (chosen (is_marked Snapshot terms.marking) (zero_mark g r) here) ∙ spread g r (text ++ 10 ∷ [])) in
    fills (g ++ 32 ∷ (r ++ 32 ∷ [])) text long space
    ∙ (folded g r (text_digest text) text (10 ∷ []) ∙ ap (λ (t : List ℕ). t ++ 10 ∷ []) (marked_text terms.marking terms.group r text here))
