use Rattle.std.proofs.Common.{◌≡◌, length, sym, ap, ◌∙◌, arith}
use Rattle.std.proofs.lemmas.List.{length-map}
use Rattle.std.proofs.lemmas.List.Elements.{All-get_or}
use Rattle.merge_core.specs.Layout.{Shape}
use Rattle.merge_core.specs.Rows.{start_counter}
use Rattle.merge_core.specs.Start.{start_record}
use Rattle.merge_core.specs.Book.{BookState, nothing_known, IsRecord, IsBook}
use Rattle.merge_core.proofs.MarkLemmas.{marks_started}
use Rattle.merge_core.proofs.StartLemmas.{shape_of_made, counters_of_made, names_of_made, rights_of_made}
use Rattle.merge_core.proofs.book.Book.genesis.Goals as goal

pub invariant_of-result : goal.invariant_of-result
invariant_of-result c =
    let items = c.in_ok-records.records.items in
    let made : BookState = record { sites = c.sites-sites.result; records = items } in
    let layout = c.records.ensures.layout in
    let start = c.in_ok-records.ensures.start in
    let shape = shape_of_made c.sites-sites.result c.args.layout.now c.records.result.now items c.sites-sites.ensures.sites c.records.ensures.records start in
    let counters = counters_of_made c.sites-sites.result c.args.layout.now c.records.result.now items layout c.sites-sites.ensures.sites c.records.ensures.records start in
    let same_size : length items ≡ length c.args.layout.now.records = ap length start ∙ (length-map c.records.result.now (start_record c.sites-sites.result) ∙ ap length c.records.ensures.records) in
    let book : IsBook made = record {
      few_sites = omega (arith, c.sites-sites.ensures.sites, layout.few_sites);
      few_records = omega (arith, same_size, layout.few_records);
      records = λ r below. All-get_or (IsRecord c.sites-sites.result) items r nothing_known below c.in_ok-records.ensures.valid;
    } in (
      book,
      marks_started made c.in_ok-marks.marks.items (omega (arith, c.in_ok-marks.ensures.len, c.in_ok-marks.marks.ok.0, c.in_ok-records.records.ok.0, c.len.ensures))
          (λ r s cell. counters r s cell ∙ ap (λ (x : Shape). start_counter x r s cell) (sym shape)),
    )

pub returns-clause-shape : goal.returns-clause-shape
returns-clause-shape c =
    shape_of_made _ _ _ _ c.sites-sites.ensures.sites c.records.ensures.records c.in_ok-records.ensures.start

pub returns-clause-counters : goal.returns-clause-counters
returns-clause-counters c =
    counters_of_made _ _ _ _ c.records.ensures.layout c.sites-sites.ensures.sites c.records.ensures.records c.in_ok-records.ensures.start

pub returns-clause-names : goal.returns-clause-names
returns-clause-names c =
    names_of_made _ _ _ _ c.records.ensures.layout c.sites-sites.ensures.sites c.records.ensures.records c.in_ok-records.ensures.start

pub returns-clause-rights : goal.returns-clause-rights
returns-clause-rights c =
    rights_of_made _ _ _ _ c.records.ensures.layout c.sites-sites.ensures.sites c.records.ensures.records c.in_ok-records.ensures.start
