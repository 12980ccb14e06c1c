-- Marks tell sites apart.
use Rattle.std.proofs.Common.{◌≡◌, ◌≢◌, ℕ, List, ◌++◌, codes, Option, Some, None, refl, sym, ap, subst, ◌∙◌}
use Rattle.std.specs.Prelude.{◌↔◌}
use Rattle.merge_core.specs.declared.layout.RecordSpec.{RecordSpec}
use Rattle.merge_core.specs.Delta.{DeltaState, IsDelta}
use Rattle.admission_model.specs.declared.ask.Call.TheVariants.{Merge}
use Rattle.delta_codec.specs.DeltaText.{delta_text}
use Rattle.site_script.proofs.LawLemmas.{behind_take, delta_taken}
use Rattle.serve_engine.specs.declared.marks.MarkFault.{MarkFault}
use Rattle.serve_engine.specs.declared.marks.MarkFault.TheVariants.{NoMark, WrongGroup, OtherRecords, Damaged}
use Rattle.serve_engine.specs.declared.marks.Marking.TheVariants.{Marked}
use Rattle.serve_engine.specs.declared.request.Request.{Request}
use Rattle.serve_engine.specs.declared.request.Request.TheVariants.{Asked, Unread, Show, Sessions, Fence, Unmarked}
use Rattle.serve_engine.specs.Marks.{IsFault, IsMarked, IsWord, Mark, group_word, mark_of, records_digest, text_digest, with_mark}
use Rattle.serve_engine.specs.Requests.{Asks, AsksBehind, AsksToTake, Terms, rest_behind}
use Rattle.serve_engine.proofs.LineLemmas.{behind_is, behind_prefix}
use Rattle.serve_engine.proofs.MarkLemmas.{one_mark, own_mark}

-- the terms of a site that wants marks
abbrev wanting : List RecordSpec → Option (List ℕ) → Terms
wanting records group = record { records = records; group = group; marking = Marked }

-- what stands behind `take ` is what is read
asks_is : (records : List RecordSpec) (group : Option (List ℕ)) (bytes : List ℕ) (request : Option Request)
    → AsksToTake (wanting records group) bytes request → Asks (wanting records group) (codes "take " ++ bytes) request
asks_is records group bytes request asks =
    subst (λ (o : Option (List ℕ)). AsksBehind (wanting records group) (codes "take " ++ bytes) o request) (sym (behind_prefix (codes "take ") bytes)) asks

is_asked : (records : List RecordSpec) (group : Option (List ℕ)) (bytes : List ℕ) (request : Option Request)
    → Asks (wanting records group) (codes "take " ++ bytes) request → AsksToTake (wanting records group) bytes request
is_asked records group bytes request asks =
    subst (λ (o : Option (List ℕ)). AsksBehind (wanting records group) (codes "take " ++ bytes) o request) (behind_prefix (codes "take ") bytes) asks

pub own_taken : (records theirs : List RecordSpec) (group : Option (List ℕ)) (d : DeltaState) → IsWord (group_word group) → records_digest theirs ≡ records_digest records → IsDelta d
    → Asks (wanting records group) (codes "take " ++ with_mark (mark_of group (records_digest theirs) (delta_text d)) (delta_text d)) (Some (Asked (Merge d)))
own_taken records theirs group d word same is =
    subst (λ (digest : List ℕ). Asks (wanting records group) (codes "take " ++ with_mark (mark_of group digest (delta_text d)) (delta_text d)) (Some (Asked (Merge d)))) (sym same)
    (asks_is records group (with_mark (mark_of group (records_digest records) (delta_text d)) (delta_text d)) (Some (Asked (Merge d)))
    (record { text = delta_text d; marked = own_mark group records (delta_text d) word; asks = (is, delta_taken d is) }))

-- ---- a text has one fault

module _ (records : List RecordSpec) (group : Option (List ℕ)) (bytes : List ℕ) where
  -- what is asked, where only this fault is possible
  only : (fault : MarkFault) → ((other : MarkFault) → IsFault group (records_digest records) bytes other → other ≡ fault)
      → ((text : List ℕ) → ¬ IsMarked bytes (mark_of group (records_digest records) text) text)
      → (request : Option Request) → AsksToTake (wanting records group) bytes request → request ≡ Some (Unmarked fault)
  only fault one none (Some (Unmarked other)) asks = ap (λ (f : MarkFault). Some (Unmarked f)) (one other asks)
  only fault one none (Some (Asked call)) asks = absurd (none asks.text asks.marked)
  only fault one none (Some (Unread e)) asks = absurd (none asks.text asks.marked)
  only fault one none (Some (Show r)) asks = absurd (none asks.text asks.marked)
  only fault one none (Some (Sessions r)) asks = absurd (none asks.text asks.marked)
  only fault one none (Some (Fence r h)) asks = absurd (none asks.text asks.marked)
  only fault one none None asks = absurd (none asks.text asks.marked)

  -- and that it is asked for
  both : (fault : MarkFault) → IsFault group (records_digest records) bytes fault → ((other : MarkFault) → IsFault group (records_digest records) bytes other → other ≡ fault)
      → ((text : List ℕ) → ¬ IsMarked bytes (mark_of group (records_digest records) text) text)
      → (request : Option Request) → Asks (wanting records group) (codes "take " ++ bytes) request ↔ (request ≡ Some (Unmarked fault))
  both fault faulty one none request = (
    λ asks. only fault one none request (is_asked records group bytes request asks),
    λ is. subst (λ (r : Option Request). Asks (wanting records group) (codes "take " ++ bytes) r) (sym is) (asks_is records group bytes (Some (Unmarked fault)) faulty),
  )

  pub no_mark_refused : ((mark : Mark) → (text : List ℕ) → ¬ IsMarked bytes mark text)
      → (request : Option Request) → Asks (wanting records group) (codes "take " ++ bytes) request ↔ (request ≡ Some (Unmarked NoMark))
  no_mark_refused none = both NoMark none one (λ text marked. none (mark_of group (records_digest records) text) text marked)
    where
      one : (other : MarkFault) → IsFault group (records_digest records) bytes other → other ≡ NoMark
      one NoMark faulty = refl
      one WrongGroup faulty = absurd (none faulty.0 faulty.1 faulty.2)
      one OtherRecords faulty = absurd (none faulty.0 faulty.1 faulty.2)
      one Damaged faulty = absurd (none faulty.0 faulty.1 faulty.2)

  module _ (mark : Mark) (text : List ℕ) (marked : IsMarked bytes mark text) where
    same : (other : Mark) (t : List ℕ) → IsMarked bytes other t → mark ≡ other
    same other t is = (one_mark bytes mark other text t marked is).0

    pub other_group_refused : mark.group ≢ group_word group
        → (request : Option Request) → Asks (wanting records group) (codes "take " ++ bytes) request ↔ (request ≡ Some (Unmarked WrongGroup))
    other_group_refused differs = both WrongGroup (mark, text, marked, differs) one
        (λ t is. differs (ap (λ (m : Mark). m.group) (same (mark_of group (records_digest records) t) t is)))
      where
        one : (other : MarkFault) → IsFault group (records_digest records) bytes other → other ≡ WrongGroup
        one NoMark faulty = absurd (faulty mark text marked)
        one WrongGroup faulty = refl
        one OtherRecords faulty = absurd (differs (ap (λ (m : Mark). m.group) (same faulty.0 faulty.1 faulty.2) ∙ faulty.3))
        one Damaged faulty = absurd (differs (ap (λ (m : Mark). m.group) (same faulty.0 faulty.1 faulty.2) ∙ faulty.3))

    pub other_records_refused : mark.group ≡ group_word group → mark.records ≢ records_digest records
        → (request : Option Request) → Asks (wanting records group) (codes "take " ++ bytes) request ↔ (request ≡ Some (Unmarked OtherRecords))
    other_records_refused here differs = both OtherRecords (mark, text, marked, here, differs) one
        (λ t is. differs (ap (λ (m : Mark). m.records) (same (mark_of group (records_digest records) t) t is)))
      where
        one : (other : MarkFault) → IsFault group (records_digest records) bytes other → other ≡ OtherRecords
        one NoMark faulty = absurd (faulty mark text marked)
        one WrongGroup faulty = absurd (faulty.3 (ap (λ (m : Mark). m.group) (sym (same faulty.0 faulty.1 faulty.2)) ∙ here))
        one OtherRecords faulty = refl
        one Damaged faulty = absurd (differs (ap (λ (m : Mark). m.records) (same faulty.0 faulty.1 faulty.2) ∙ faulty.4))

    pub other_text_refused : mark.group ≡ group_word group → mark.records ≡ records_digest records → mark.checksum ≢ text_digest text
        → (request : Option Request) → Asks (wanting records group) (codes "take " ++ bytes) request ↔ (request ≡ Some (Unmarked Damaged))
    other_text_refused here equal differs = both Damaged (mark, text, marked, here, equal, differs) one
        (λ t is. let twice = one_mark bytes mark (mark_of group (records_digest records) t) text t marked is in
        differs (ap (λ (m : Mark). m.checksum) twice.0 ∙ ap text_digest (sym twice.1)))
      where
        one : (other : MarkFault) → IsFault group (records_digest records) bytes other → other ≡ Damaged
        one NoMark faulty = absurd (faulty mark text marked)
        one WrongGroup faulty = absurd (faulty.3 (ap (λ (m : Mark). m.group) (sym (same faulty.0 faulty.1 faulty.2)) ∙ here))
        one OtherRecords faulty = absurd (faulty.4 (ap (λ (m : Mark). m.records) (sym (same faulty.0 faulty.1 faulty.2)) ∙ equal))
        one Damaged faulty = refl

-- ---- a delta is merged from no other line

pub merged_from : (records : List RecordSpec) (group : Option (List ℕ)) (line : List ℕ) (d : DeltaState)
    → Asks (wanting records group) line (Some (Asked (Merge d))) → line ≡ codes "take " ++ with_mark (mark_of group (records_digest records) (delta_text d)) (delta_text d)
merged_from records group line d asks = at (rest_behind (codes "take ") line) refl asks
  where
    by_text : (bytes : List ℕ) → AsksToTake (wanting records group) bytes (Some (Asked (Merge d))) → bytes ≡ with_mark (mark_of group (records_digest records) (delta_text d)) (delta_text d)
    by_text bytes it =
        let same : it.text ≡ delta_text d = ap behind_take it.asks.1.is_text in
        it.marked.is_its ∙ ap (λ (t : List ℕ). with_mark (mark_of group (records_digest records) t) t) same

    at : (o : Option (List ℕ)) → rest_behind (codes "take ") line ≡ o → AsksBehind (wanting records group) line o (Some (Asked (Merge d)))
        → line ≡ codes "take " ++ with_mark (mark_of group (records_digest records) (delta_text d)) (delta_text d)
    at None front it =
        let is : rest_behind (codes "take ") line ≡ Some (delta_text d) = ap (rest_behind (codes "take ")) it.1.is_text ∙ behind_prefix (codes "take ") (delta_text d) in
        let clash : None ≡ Some (delta_text d) = sym front ∙ is in
        cc
    at (Some bytes) front it = behind_is (codes "take ") line bytes front ∙ ap (λ (t : List ℕ). codes "take " ++ t) (by_text bytes it)
