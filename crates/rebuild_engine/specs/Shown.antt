-- What a rebuild prints (the project's own): what the site may use of each record, and, where several sites were lost at once, a
-- digest of the texts of which it was built, since all of these have to be built of the same.
use Rattle.std.specs.Prelude.{◌==◌, ℕ, zero, suc, Bool, true, false, List, [], ◌∷◌, ◌++◌, length, codes, if◌then◌else◌, Option, Some, None, slice_get}
use Rattle.std.specs.List.{flat_map}
use Rattle.merge_core.specs.declared.layout.RecordSpec.{RecordSpec}
use Rattle.merge_core.specs.Delta.{DeltaState}
use Rattle.merge_core.specs.Layout.{LayoutState}
use Rattle.admission_model.specs.Account.{Account}
use Rattle.delta_codec.specs.DeltaText.{delta_text}
use Rattle.serve_engine.specs.Answers.{counts_line}
use Rattle.serve_engine.specs.Marks.{first_digits}

abbrev pub name_of : Option RecordSpec → List ℕ
name_of None = []
name_of (Some it) = it.name

-- the counts of record r behind its name and a blank
abbrev pub record_counts : Account → List RecordSpec → ℕ → List ℕ
record_counts a records r = (name_of (slice_get records r) ++ codes " ") ++ counts_line a r

-- those of the first n records, in order
abbrev pub counts_below : Account → List RecordSpec → ℕ → List ℕ
counts_below a records zero = []
counts_below a records (suc n) = counts_below a records n ++ record_counts a records n

-- the texts of the deltas of site j, each with LF
abbrev pub text_of : ℕ → DeltaState → List ℕ
text_of j d = if d.from == j then delta_text d ++ codes "\n" else []

abbrev pub texts_of : ℕ → List DeltaState → List ℕ
texts_of j ds = flat_map (text_of j) ds

-- those of the first n sites, in order
abbrev pub texts_below : ℕ → List DeltaState → List ℕ
texts_below zero ds = []
texts_below (suc n) ds = texts_below n ds ++ texts_of n ds

-- 16 digits
abbrev pub texts_digest : ℕ → List DeltaState → List ℕ
texts_digest sites ds = first_digits 8 (texts_below sites ds)

abbrev pub digest_line : ℕ → List DeltaState → List ℕ
digest_line sites ds = (codes "texts " ++ texts_digest sites ds) ++ codes "\n"

-- the digest, unless the site was lost alone
abbrev pub digest_for : Bool → ℕ → List DeltaState → List ℕ
digest_for true sites ds = []
digest_for false sites ds = digest_line sites ds

abbrev pub shown_text : Account → LayoutState → Bool → List DeltaState → List ℕ
shown_text a layout alone ds = counts_below a layout.records (length layout.records) ++ digest_for alone layout.sites ds
