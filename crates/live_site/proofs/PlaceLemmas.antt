-- The rows of a delta that a core takes, and the walk over them.
use Rattle.std.proofs.Common.{◌≡◌, ℕ, suc, ◌<◌, ◌≤◌, true, ltb, min, List, [], ◌∷◌, length, get_or, drop, Some, None, sym, ap, ◌∙◌, arith, drop-cons}
use Rattle.std.specs.List.{AllByRecursion}
use Rattle.std.proofs.lemmas.Bool.{cond-true, lt-ltb}
use Rattle.std.proofs.lemmas.List.{drop_all}
use Rattle.std.proofs.lemmas.List.Elements.{recursion_from_All}
use Rattle.merge_core.specs.declared.delta.Row.{Row}
use Rattle.merge_core.specs.Book.{book_shape}
use Rattle.merge_core.specs.Delta.{DeltaState, IsDelta}
use Rattle.merge_core.specs.Layout.{Shape, shape_of, record_shape}
use Rattle.merge_core.specs.Tests.{is_placed}
use Rattle.merge_core.proofs.TestLemmas.{IsPlaced, placed_parts, checked_placed}
use Rattle.std.proofs.lemmas.List.{length-map}
use Rattle.admission_model.specs.declared.ask.Call.TheVariants.{Merge}
use Rattle.admission_model.specs.Serving.{reason}
use Rattle.admission_model.specs.View.{View}
use Rattle.admission_core.specs.Core.{Core, IsCore, core_view}
use Rattle.admission_core.proofs.JoiningLemmas.{joined_book, reason-accepted}
use Rattle.live_site.specs.Overfull.{lacking, first_overfull}
use Rattle.live_site.specs.Walk.{given_with, walk}
use Rattle.live_site.proofs.WalkLemmas.{HasPlace, walk_all}

-- a row that has its place is of a record of the layout
pub row_record : (c : Core) (p : Row) → IsCore c → is_placed (book_shape c.book) p ≡ true → p.r < length c.layout.records
row_record c p is placed =
    let parts = placed_parts (book_shape c.book) p placed in
    let same = ap (λ (shape : Shape). length shape.records) (joined_book c is).same_shape in
    omega (arith, parts.record_there, same, length-map c.layout.records record_shape)

has_place : (v : View) (p : Row) → IsPlaced (shape_of v.layout) p → HasPlace v p
has_place v p is = record {
  record_there = omega (arith, is.record_there, length-map v.layout.records record_shape);
  site_there = omega (arith, is.own_there, is.few_sites);
}

have_places : (v : View) (rows : List Row) → AllByRecursion (IsPlaced (shape_of v.layout)) rows → AllByRecursion (HasPlace v) rows
have_places v [] all = tt
have_places v (p ∷ ps) all = (has_place v p all.0, have_places v ps all.1)

-- the walk over a delta that nothing else refuses
pub walk_core : (c : Core) (d : DeltaState) (read : List Row) → IsCore c → IsDelta d → read ≡ d.rows → reason (core_view c) (Merge d) ≡ None
    → walk (core_view c) 0 0 read ≡ first_overfull (core_view c) d.rows
walk_core c d read is delta same free =
    ap (walk (core_view c) 0 0) same
    ∙ walk_all (core_view c) (joined_book c is).low d.rows delta.rising
    (have_places (core_view c) d.rows
    (recursion_from_All (IsPlaced (shape_of c.layout)) d.rows (checked_placed (shape_of c.layout) d.rows (reason-accepted (core_view c) d free).checked)))

-- it stops at a row to whose record too much is given
pub walk_stops : (v : View) (r n : ℕ) (rows : List Row) (i : ℕ) (p : Row) → i < length rows → p ≡ get_or rows i p → (given lacks : ℕ)
    → given ≡ min (given_with v r n p) 18446744073709551615 → lacks ≡ lacking v p.r → lacks < given → walk v r n (drop i rows) ≡ Some p.r
walk_stops v r n rows i p below here given lacks given_is lacks_is more =
    let rest : drop i rows ≡ p ∷ drop (suc i) rows = drop-cons rows i p below ∙ ap (λ (q : Row). q ∷ drop (suc i) rows) (sym here) in
    let much : lacking v p.r < given_with v r n p = omega (arith, given_is, lacks_is, more) in
    ap (walk v r n) rest
    ∙ cond-true (ltb (lacking v p.r) (given_with v r n p)) (Some p.r) (walk v p.r (given_with v r n p) (drop (suc i) rows)) (lt-ltb (lacking v p.r) (given_with v r n p) much)

-- behind the last row there is nothing
pub walk_ends : (v : View) (r n : ℕ) (rows : List Row) (i : ℕ) → length rows ≤ i → walk v r n (drop i rows) ≡ None
walk_ends v r n rows i past = ap (walk v r n) (drop_all i rows past)
