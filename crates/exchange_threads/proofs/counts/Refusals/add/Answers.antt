use Rattle.std.proofs.Common.{ℕ, ◌+◌, ◌<◌, Result, Ok, Err, IsOk, OnOk, sym, ap, ◌∙◌, arith, true≢false}
use Rattle.indexmap.specs.IndexMap.{spare, insert_entry}
use Rattle.exchange_threads.specs.Counts.{Counted}
use Rattle.exchange_threads.proofs.Counting.{map_eq, count_within, insert_counts}
use Rattle.exchange_threads.proofs.counts.Refusals.add.Goals as goal

at_ok : {T E : Type 0} (r : Result T E) (P : Type 0) → IsOk r → OnOk r P → P
at_ok (Ok x) P ok on = on
at_ok (Err e) P ok on = absurd (true≢false (sym ok))

pub overflow_add-count : goal.overflow_add-count
overflow_add-count c = omega (arith, c.requires.few, c.count-count.ensures, count_within c.args.self.now.names c.args.name)

pub returns : goal.returns
returns c =
    let same = ap (λ (v : Counted). v.names) c.self.view_is in
    let some : 0 < spare c.self.inside.map = omega (arith, ap (λ (v : Counted). v.room) c.self.view_is, c.requires.room) in
    at_ok c.insert.result _ (c.insert.ensures.succeeds some) c.insert.ensures.entries
    ∙ (ap (λ es. insert_entry map_eq es c.args.name (c.count-count.result + 1)) same
    ∙ (ap (λ (n : ℕ). insert_entry map_eq c.args.self.now.names c.args.name (n + 1)) c.count-count.ensures
    ∙ insert_counts c.args.self.now.names c.args.name))
