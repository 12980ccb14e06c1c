-- A book that took the earlier rows is told by the thin ones as by them all.
use Rattle.std.proofs.Common.{◌≡◌, ℕ, ◌≤◌, sym, ap, ◌∙◌, arith}
use Rattle.merge_core.specs.declared.cell.Cell.{Cell}
use Rattle.merge_core.specs.Layout.{Shape}
use Rattle.merge_core.specs.Delta.{DeltaState, IsDelta}
use Rattle.merge_core.specs.Rows.{start_counter}
use Rattle.merge_core.specs.Naming.{shown_by}
use Rattle.merge_core.specs.Book.{BookState, IsBook, book_shape, counter_of}
use Rattle.merge_core.specs.Changes.{JoinsRows}
use Rattle.merge_core.specs.Thin.{thin_rows}
use Rattle.merge_core.proofs.MergeLemmas.{start_below}
use Rattle.merge_core.proofs.SameLemmas.{same_from_names}
use Rattle.merge_core.proofs.ThinLemmas.{shown_thin}
use Rattle.merge_core.proofs.UnitLemmas.{units-from_same}

pub thin_tells : (b x y z : BookState) (last d : DeltaState) → IsBook b → IsBook y → IsBook z → IsDelta last → IsDelta d → JoinsRows b x last.rows → JoinsRows x y d.rows → JoinsRows x z (thin_rows d.rows last.rows) → y ≡ z
thin_tells b x y z last d book book_y book_z is_last is_d takes whole thin =
    same_from_names y z book_y book_z (thin.shape ∙ sym whole.shape)
    (λ r s cell k. units-from_same (counter_of y r s cell) (counter_of z r s cell) (same r s cell) k)
  where
    same : (r s : ℕ) (cell : Cell) → counter_of y r s cell ≡ counter_of z r s cell
    same r s cell =
        let shape : book_shape x ≡ book_shape b = takes.shape in
        let told : shown_by (book_shape x) last.rows r s cell ≡ shown_by (book_shape b) last.rows r s cell = ap (λ (at : Shape). shown_by at last.rows r s cell) shape in
        let start : start_counter (book_shape x) r s cell ≡ start_counter (book_shape b) r s cell = ap (λ (at : Shape). start_counter at r s cell) shape in
        let above : start_counter (book_shape x) r s cell ≤ counter_of x r s cell = omega (arith, takes.counters r s cell, start_below b r s cell book) in
        let seen : shown_by (book_shape x) last.rows r s cell ≤ counter_of x r s cell = omega (arith, takes.counters r s cell) in
        whole.counters r s cell
        ∙ (sym (shown_thin (book_shape x) last.rows d.rows r s cell (counter_of x r s cell) is_last.rising is_d.rising above seen) ∙ sym (thin.counters r s cell))
