use Rattle.std.proofs.Common.{◌-◌, List, length, sym, subst, arith}
use Rattle.merge_core.specs.Book.{counter_of}
use Rattle.merge_core.specs.Layout.{shape_of}
use Rattle.admission_model.specs.declared.durable.DurableCell.{DurableCell}
use Rattle.admission_core.specs.Core.{IsCore}
use Rattle.admission_core.proofs.GroupLemmas.{MergesAt, AreDoneAt, none_done, group_turn, merging_rows, placed_rows, risen_all}
use Rattle.admission_core.proofs.site_core.SiteCore.risen_cells.Goals as goal

pub loop-done-init : goal.loop-done-init
loop-done-init c =
    let core = c.args.self.now in
    let rows = c.rows-rows.result.now in
    let read = c.rows-rows.ensures in
    let is : IsCore core = rw (← c.self.view_is) c.self.invariant in
    let merging : MergesAt core rows = merging_rows core c.args.delta.now rows is read.valid read.rows c.requires in
    subst (λ (cells : List DurableCell). AreDoneAt core rows 0 cells) (sym c.new-cells.ensures.items)
    (none_done (length core.layout.records) (shape_of core.layout) core.site (counter_of core.book) rows merging)

pub push_record-requires : goal.push_record-requires
push_record-requires c =
    let core = c.args.self.now in
    let is : IsCore core = rw (← c.self.view_is) c.self.invariant in
    let size = c.end_of_record-end.result - c.loop-done.done in
    placed_rows core c.args.delta.now c.rows-rows.result.now c.loop-done.done size is c.rows-rows.ensures.rows c.requires

pub loop-done-preserved : goal.loop-done-preserved
loop-done-preserved c =
    let core = c.args.self.now in
    let rows = c.rows-rows.result.now in
    let read = c.rows-rows.ensures in
    let is : IsCore core = rw (← c.self.view_is) c.self.invariant in
    let merging : MergesAt core rows = merging_rows core c.args.delta.now rows is read.valid read.rows c.requires in
    let ends = c.end_of_record-end.ensures in
    group_turn (length core.layout.records) (shape_of core.layout) core.site (counter_of core.book) rows
    c.loop-done.done c.end_of_record-end.result c.loop-done.cells.items c.push_record.new.cells.items merging c.loop-done.invariant
    (record { further = ends.further; within = ends.within; same = ends.same; other = ends.other })
    (c.in_ok-push_record.ensures {u = tt})

pub returns : goal.returns
returns c =
    risen_all c.args.self.now c.rows-rows.result.now c.args.delta.now.rows c.loop-done.done c.loop-done.cells.items
    c.rows-rows.ensures.rows (omega arith) c.loop-done.invariant
