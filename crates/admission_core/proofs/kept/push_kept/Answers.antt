use Rattle.std.proofs.lemmas.Result.{on_ok_weaker}
use Rattle.merge_core.specs.Layout.{shape_of}
use Rattle.merge_core.specs.Rows.{start_counter}
use Rattle.admission_core.proofs.KeptLemmas.{slots_added}
use Rattle.admission_core.proofs.kept.push_kept.Goals as goal

pub returns : goal.returns
returns g c =
    let layout = c.args.layout.now in
    on_ok_weaker c.push_slots-5.result (λ last. slots_added layout.sites c.args.site (start_counter (shape_of layout))
    (g.C.Counters.counter c.args.counters.now layout) c.args.r c.sites-sites.result c.args.cells.now.items c.push_slots.new.cells.items
    c.push_slots-2.new.cells.items c.push_slots-3.new.cells.items c.push_slots-4.new.cells.items
    c.push_slots-5.new.cells.items c.sites-sites.ensures.layout.few_sites c.sites-sites.ensures.sites (c.in_ok-push_slots.ensures {u = tt}) (c.in_ok-push_slots-2.ensures {u = tt})
    (c.in_ok-push_slots-3.ensures {u = tt}) (c.in_ok-push_slots-4.ensures {u = tt}) last)
    c.push_slots-5.ensures
