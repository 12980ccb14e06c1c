-- Texts one behind another.
use Rattle.std.proofs.Common.{◌≡◌, ◌∙◌, ℕ, ◌+◌, ◌<◌, true, List, ◌++◌, length, get_or, refl, sym, ap, ap₂, append_assoc, add-one, arith}
use Rattle.std.specs.Prelude.{nat_lt, slice_get}
use Rattle.std.proofs.lemmas.Bool.Decides.{nat_tests}
use Rattle.std.proofs.lemmas.Option.{slice_get-get_or}
use Rattle.merge_core.specs.declared.layout.RecordSpec.{RecordSpec}
use Rattle.merge_core.specs.Delta.{DeltaState}
use Rattle.merge_core.specs.Layout.{LayoutState}
use Rattle.admission_model.specs.Account.{Account, layout_of}
use Rattle.admission_core.specs.Core.{Core, Stands}
use Rattle.serve_engine.specs.Answers.{counts_line, show_line}
use Rattle.rebuild_engine.specs.Shown.{counts_below, name_of, record_counts, texts_below, texts_of}

pub counts_more : (a : Account) (records : List RecordSpec) (n : ℕ) (start old new : List ℕ) → old ≡ start ++ counts_below a records n → new ≡ old ++ record_counts a records n
    → new ≡ start ++ counts_below a records (n + 1)
counts_more a records n start old new before is =
    is ∙ (ap (λ (t : List ℕ). t ++ record_counts a records n) before ∙ (append_assoc start (counts_below a records n) (record_counts a records n) ∙ rw add-one refl))

pub texts_more : (ds : List DeltaState) (n : ℕ) (old new : List ℕ) → old ≡ texts_below n ds → new ≡ old ++ texts_of n ds → new ≡ texts_below (n + 1) ds
texts_more ds n old new before is = is ∙ (ap (λ (t : List ℕ). t ++ texts_of n ds) before ∙ rw add-one refl)

-- the name of a record that is there
pub named : (records shown : List RecordSpec) (r k : ℕ) (it : RecordSpec) (name : List ℕ) → name ≡ it.name → it ≡ get_or shown k it → shown ≡ records → k ≡ r → r < length records
    → name ≡ name_of (slice_get records r)
named records shown r k it name is found same at below =
    is ∙ (ap (λ (x : RecordSpec). x.name) (found ∙ ap₂ (λ (rs : List RecordSpec) (n : ℕ). get_or rs n it) same at)
    ∙ sym (ap name_of (slice_get-get_or records r it below)))

-- the counts of a record that is there are what is shown of it
pub counts_shown : (a : Account) (c : Core) (r : ℕ) → Stands a c → r < length c.layout.records → show_line a r ≡ counts_line a r
counts_shown a c r stands there =
    let same : length c.layout.records ≡ length (layout_of a).records = ap (λ (l : LayoutState). length l.records) stands.shows.layout in
    let known : nat_lt r (length (layout_of a).records) ≡ true = grind (arith, nat_tests) in
    rw known refl

pub three_texts : (start one two three name name' blank line line' : List ℕ) → one ≡ start ++ name → two ≡ one ++ blank → three ≡ two ++ line → name ≡ name' → line ≡ line'
    → three ≡ start ++ ((name' ++ blank) ++ line')
three_texts start one two three name name' blank line line' first second third same_name same_line =
    third ∙ (ap (λ (t : List ℕ). t ++ line) (second ∙ ap (λ (t : List ℕ). t ++ blank) first)
    ∙ (ap (λ (t : List ℕ). t ++ line) (append_assoc start name blank)
    ∙ (append_assoc start (name ++ blank) line ∙ ap₂ (λ (n l : List ℕ). start ++ ((n ++ blank) ++ l)) same_name same_line)))
