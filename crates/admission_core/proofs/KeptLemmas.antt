-- The slots of a record that have left their start: only a few slots name a counter.
use Rattle.std.proofs.Common.{◌≡◌, ℕ, ◌+◌, ◌-◌, ◌<◌, ◌≤◌, false, not, eqb, ltb, List, ◌++◌, None, refl, sym, ap, ◌∙◌, append_assoc, arith}
use Rattle.std.proofs.lemmas.Bool.{ne_eqb, le-ltb, cond-false}
use Rattle.std.proofs.lemmas.List.{append-nil}
use Rattle.merge_core.specs.declared.cell.Cell.{Cell}
use Rattle.merge_core.specs.declared.cell.Cell.TheVariants.{Out, Ann, Fin}
use Rattle.admission_model.specs.declared.durable.DurableCell.{DurableCell}
use Rattle.admission_model.specs.Durable.{Place, named, counter_named, at_slot, slots_from, places_from, slot_count, kept_cells}
use Rattle.admission_core.proofs.SlotLemmas.{slots_append, places_append, pick-append, pick-no_slots, hundred, sixteen, hundred-is, sixteen-is, by_hundreds, named-own, named-sent, named-counted, named-announced, named-finished, of_other-past}

-- the counters at the slots of so many sites that have left their start
abbrev pub kept_in : ℕ → ℕ → (ℕ → ℕ → Cell → ℕ) → (ℕ → ℕ → Cell → ℕ) → List Place → List DurableCell
kept_in sites i start f ps = kept_cells (at_slot sites i start) (at_slot sites i f) ps

-- a slot more
pub slots_turn : (sites i : ℕ) (start f : ℕ → ℕ → Cell → ℕ) (r first slot : ℕ) (before cells new : List DurableCell)
    → first ≤ slot → cells ≡ before ++ kept_in sites i start f (slots_from r first (slot - first))
    → new ≡ cells ++ kept_in sites i start f (slots_from r slot 1)
    → new ≡ before ++ kept_in sites i start f (slots_from r first ((slot + 1) - first))
slots_turn sites i start f r first slot before cells new order is change =
    let more : (slot + 1) - first ≡ (slot - first) + 1 = omega arith in
    let there : first + (slot - first) ≡ slot = omega arith in
    change
    ∙ (ap (λ cs. cs ++ kept_in sites i start f (slots_from r slot 1)) is
    ∙ (append_assoc before (kept_in sites i start f (slots_from r first (slot - first))) (kept_in sites i start f (slots_from r slot 1))
    ∙ ap (λ cs. before ++ cs) (sym (ap (kept_in sites i start f) (slots_append r first (slot - first) 1 ((slot + 1) - first) more)
    ∙ (pick-append _ (at_slot sites i f) (slots_from r first (slot - first)) (slots_from r (first + (slot - first)) 1)
    ∙ ap (λ x. kept_in sites i start f (slots_from r first (slot - first)) ++ kept_in sites i start f (slots_from r x 1)) there)))))

-- a record more
pub records_turn : (sites i : ℕ) (start f : ℕ → ℕ → Cell → ℕ) (r : ℕ) (cells new : List DurableCell)
    → cells ≡ kept_in sites i start f (places_from 0 r)
    → new ≡ cells ++ kept_in sites i start f (slots_from r 0 slot_count)
    → new ≡ kept_in sites i start f (places_from 0 (r + 1))
records_turn sites i start f r cells new is change =
    let there : 0 + r ≡ r = omega arith in
    change
    ∙ (ap (λ cs. cs ++ kept_in sites i start f (slots_from r 0 slot_count)) is
    ∙ sym (ap (kept_in sites i start f) (places_append 0 r 1 (r + 1) refl)
    ∙ (pick-append _ (at_slot sites i f) (places_from 0 r) (places_from (0 + r) 1)
    ∙ ap (λ cs. kept_in sites i start f (places_from 0 r) ++ cs) (ap (λ x. kept_in sites i start f (places_from x 1)) there ∙ ap (kept_in sites i start f) (append-nil (slots_from r 0 slot_count))))))

-- a slot that names nothing is at its start
nothing_named : (sites i : ℕ) (start f : ℕ → ℕ → Cell → ℕ) (r slot : ℕ) → named sites i slot ≡ None
    → not (eqb (at_slot sites i f r slot) (at_slot sites i start r slot)) ≡ false
nothing_named sites i start f r slot e =
    ap (λ o. not (eqb (counter_named f r o) (counter_named start r o))) e

-- slots of which the last ones name nothing
cut : (sites i : ℕ) (start f : ℕ → ℕ → Cell → ℕ) (r first n k : ℕ) → n ≤ k
    → ((slot : ℕ) → first + n ≤ slot → slot < first + k → named sites i slot ≡ None)
    → kept_in sites i start f (slots_from r first k) ≡ kept_in sites i start f (slots_from r first n)
cut sites i start f r first n k few none =
    let all : k ≡ n + (k - n) = omega arith in
    ap (kept_in sites i start f) (slots_append r first n (k - n) k all)
    ∙ (pick-append _ (at_slot sites i f) (slots_from r first n) (slots_from r (first + n) (k - n))
    ∙ (ap (λ cs. kept_in sites i start f (slots_from r first n) ++ cs) (pick-no_slots _ (at_slot sites i f) r (first + n) (k - n) (λ slot above below. nothing_named sites i start f r slot (none slot above (omega arith))))
    ∙ append-nil (kept_in sites i start f (slots_from r first n))))

-- the slots that name counters are those of the sites, and three of the site itself
pub kept_slots : (sites i : ℕ) (start f : ℕ → ℕ → Cell → ℕ) (r : ℕ) → sites ≤ 16
    → kept_in sites i start f (slots_from r 0 slot_count) ≡ kept_in sites i start f (slots_from r 0 sites) ++ (kept_in sites i start f (slots_from r 100 sites) ++ (kept_in sites i start f (slots_from r 200 3) ++ (kept_in sites i start f (slots_from r 300 sites) ++ kept_in sites i start f (slots_from r 400 sites))))
kept_slots sites i start f r few =
    by_hundreds (λ x slot. not (eqb (at_slot sites i f x slot) (at_slot sites i start x slot))) (at_slot sites i f) r
    ∙ (ap (λ cs. cs ++ (kept 100 hundred ++ (kept 200 hundred ++ (kept 300 hundred ++ kept 400 sixteen)))) (cut sites i start f r 0 sites hundred (omega (arith, hundred-is)) own)
    ∙ (ap (λ cs. kept 0 sites ++ (cs ++ (kept 200 hundred ++ (kept 300 hundred ++ kept 400 sixteen)))) (cut sites i start f r 100 sites hundred (omega (arith, hundred-is)) sent)
    ∙ (ap (λ cs. kept 0 sites ++ (kept 100 sites ++ (cs ++ (kept 300 hundred ++ kept 400 sixteen)))) (cut sites i start f r 200 3 hundred (omega (arith, hundred-is)) counted)
    ∙ (ap (λ cs. kept 0 sites ++ (kept 100 sites ++ (kept 200 3 ++ (cs ++ kept 400 sixteen)))) (cut sites i start f r 300 sites hundred (omega (arith, hundred-is)) announced)
    ∙ ap (λ cs. kept 0 sites ++ (kept 100 sites ++ (kept 200 3 ++ (kept 300 sites ++ cs)))) (cut sites i start f r 400 sites sixteen (omega (arith, sixteen-is)) finished)))))
  where
    kept : ℕ → ℕ → List DurableCell
    kept a n = kept_in sites i start f (slots_from r a n)

    own : (slot : ℕ) → 0 + sites ≤ slot → slot < 0 + hundred → named sites i slot ≡ None
    own slot above below =
        named-own sites i slot (omega (arith, hundred-is)) ∙ cond-false (ltb slot sites) _ None (le-ltb slot sites (omega arith))

    sent : (slot : ℕ) → 100 + sites ≤ slot → slot < 100 + hundred → named sites i slot ≡ None
    sent slot above below =
        let there : slot ≡ 100 + (slot - 100) = omega arith in
        ap (named sites i) there
        ∙ (named-sent sites i (slot - 100) (omega (arith, hundred-is)) ∙ of_other-past sites i (slot - 100) (Out i) (omega arith))

    counted : (slot : ℕ) → 200 + 3 ≤ slot → slot < 200 + hundred → named sites i slot ≡ None
    counted slot above below =
        named-counted sites i slot (omega arith) (omega (arith, hundred-is))
        ∙ (cond-false (eqb slot 200) _ _ (ne_eqb slot 200 (λ e. absurd (omega arith)))
        ∙ (cond-false (eqb slot 201) _ _ (ne_eqb slot 201 (λ e. absurd (omega arith)))
        ∙ cond-false (eqb slot 202) _ None (ne_eqb slot 202 (λ e. absurd (omega arith)))))

    announced : (slot : ℕ) → 300 + sites ≤ slot → slot < 300 + hundred → named sites i slot ≡ None
    announced slot above below =
        let there : slot ≡ 300 + (slot - 300) = omega arith in
        ap (named sites i) there
        ∙ (named-announced sites i (slot - 300) (omega (arith, hundred-is)) ∙ of_other-past sites i (slot - 300) Ann (omega arith))

    finished : (slot : ℕ) → 400 + sites ≤ slot → slot < 400 + sixteen → named sites i slot ≡ None
    finished slot above below =
        let there : slot ≡ 400 + (slot - 400) = omega arith in
        ap (named sites i) there ∙ (named-finished sites i (slot - 400) ∙ of_other-past sites i (slot - 400) Fin (omega arith))

-- the slots of a record, added run by run
pub slots_added : (sites i : ℕ) (start f : ℕ → ℕ → Cell → ℕ) (r count : ℕ) (old own sent counted announced finished : List DurableCell)
    → sites ≤ 16 → count ≡ sites → own ≡ old ++ kept_in sites i start f (slots_from r 0 count)
    → sent ≡ own ++ kept_in sites i start f (slots_from r 100 count)
    → counted ≡ sent ++ kept_in sites i start f (slots_from r 200 3)
    → announced ≡ counted ++ kept_in sites i start f (slots_from r 300 count)
    → finished ≡ announced ++ kept_in sites i start f (slots_from r 400 count)
    → finished ≡ old ++ kept_in sites i start f (slots_from r 0 slot_count)
slots_added sites i start f r count old own sent counted announced finished few same e0 e1 e2 e3 e4 =
    regroup old (kept 0 count) (kept 100 count) (kept 200 3) (kept 300 count) (kept 400 count) own sent counted announced finished e0 e1 e2 e3 e4
    ∙ ap (λ cs. old ++ cs) (ap (λ n. kept 0 n ++ (kept 100 n ++ (kept 200 3 ++ (kept 300 n ++ kept 400 n)))) same ∙ sym (kept_slots sites i start f r few))
  where
    kept : ℕ → ℕ → List DurableCell
    kept a n = kept_in sites i start f (slots_from r a n)

    regroup : (x a b c d e xa xb xc xd xe : List DurableCell) → xa ≡ x ++ a → xb ≡ xa ++ b → xc ≡ xb ++ c
        → xd ≡ xc ++ d → xe ≡ xd ++ e → xe ≡ x ++ (a ++ (b ++ (c ++ (d ++ e))))
    regroup x a b c d e xa xb xc xd xe pa pb pc pd pe = rw (pe, pd, pc, pb, pa) (simp append_assoc)
