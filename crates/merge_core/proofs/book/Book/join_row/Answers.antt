use Rattle.std.proofs.Common.{◌<◌, length, ap, sym, ◌∙◌}
use Rattle.merge_core.specs.declared.record.RecordState.{RecordState}
use Rattle.merge_core.specs.Book.{BookState, book_shape, record_rises}
use Rattle.merge_core.proofs.BookLemmas.{IsBook-with, IsRecord-read, read_record}
use Rattle.merge_core.proofs.JoinLemmas.{IsRecord-joined, IsJoinable, joinable_read, placed_below, same_joined, with_row-written}
use Rattle.merge_core.proofs.RiseLemmas.{records_rise-written}
use Rattle.merge_core.proofs.TestLemmas.{IsPlaced, placed_parts, valid_parts}
use Rattle.merge_core.proofs.MarkLemmas.{marks_written}
use Rattle.merge_core.proofs.book.Book.join_row.Goals as goal

pub join_record-requires : goal.join_record-requires
join_record-requires c =
    let b : BookState = record { sites = c.self.inside.sites; records = c.self.inside.records.items } in
    let placed : IsPlaced (book_shape b) c.args.row.now = placed_parts (book_shape b) c.args.row.now (rw (← c.self.view_is) at c.requires.placed) in
    let valid = valid_parts (book_shape b) c.args.row.now (rw (← c.self.view_is) at c.requires.valid) in
    let below : c.from.result < length b.records = rw c.from.ensures (placed_below b c.args.row.now placed) in
    let is : IsJoinable c.index_mut-it.result.now c.args.row.now = joinable_read b c.from.result c.index_mut-it.result.now c.args.row.now c.from.ensures below c.index_mut-it.ensures.value c.self.invariant.0 placed valid in
    record {
      site = is.site;
      size = is.size;
      seats = is.seats;
      seat_state = is.seat_state;
      notice_site = is.notice_site;
      in_order = valid.finished_after_announced;
      limited = valid.few_announced;
    }

pub invariant_of-self : goal.invariant_of-self
invariant_of-self c =
    let b : BookState = record { sites = c.self.inside.sites; records = c.self.inside.records.items } in
    let it = c.index_mut-it.result.now in
    let placed : IsPlaced (book_shape b) c.args.row.now = placed_parts (book_shape b) c.args.row.now (rw (← c.self.view_is) at c.requires.placed) in
    let below : c.from.result < length b.records = rw c.from.ensures (placed_below b c.args.row.now placed) in
    let is = IsRecord-read b c.from.result it below c.index_mut-it.ensures.value c.self.invariant.0 in
    let valid = valid_parts (book_shape b) c.args.row.now (rw (← c.self.view_is) at c.requires.valid) in
    let fits : IsJoinable it c.args.row.now = joinable_read b c.from.result it c.args.row.now c.from.ensures below c.index_mut-it.ensures.value c.self.invariant.0 placed valid in
    let marked = rw (← c.from.ensures) at c.mark.ensures in (
      IsBook-with b c.from.result _ below
          (IsRecord-joined b.sites it c.join_record.new.it c.args.row.now c.join_record.ensures.change is c.join_record.ensures.seats_valid c.join_record.ensures.notices_valid)
          c.self.invariant.0,
      marks_written b c.from.result c.args.row.now.s it c.join_record.new.it c.self.inside.marks.items _ below c.index_mut-it.ensures.value
          (same_joined it c.join_record.new.it c.args.row.now is fits c.join_record.ensures.change) c.self.invariant.1 marked,
    )

pub returns-clause-change : goal.returns-clause-change
returns-clause-change c =
    let b : BookState = record { sites = c.self.inside.sites; records = c.self.inside.records.items } in
    let placed : IsPlaced (book_shape b) c.args.row.now = placed_parts (book_shape b) c.args.row.now (rw (← c.self.view_is) at c.requires.placed) in
    let below : c.from.result < length b.records = rw c.from.ensures (placed_below b c.args.row.now placed) in
    rw (← c.self.view_is)
    (with_row-written b c.from.result c.index_mut-it.result.now c.join_record.new.it c.args.row.now c.from.ensures below c.index_mut-it.ensures.value c.join_record.ensures.change)

pub returns-clause-risen : goal.returns-clause-risen
returns-clause-risen c =
    let b : BookState = record { sites = c.self.inside.sites; records = c.self.inside.records.items } in
    let it = c.index_mut-it.result.now in
    let placed : IsPlaced (book_shape b) c.args.row.now = placed_parts (book_shape b) c.args.row.now (rw (← c.self.view_is) at c.requires.placed) in
    let below : c.from.result < length b.records = rw c.from.ensures (placed_below b c.args.row.now placed) in
    let there = read_record b c.from.result it below c.index_mut-it.ensures.value in
    rw (← c.self.view_is)
    (c.join_record.ensures.risen
    ∙ ap (λ (x : RecordState). record_rises x c.join_record.new.it) there
    ∙ sym (records_rise-written b.records c.from.result c.join_record.new.it below))

pub returns-clause-book : goal.returns-clause-book
returns-clause-book c = (invariant_of-self c).0
