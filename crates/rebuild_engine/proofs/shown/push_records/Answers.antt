use Rattle.std.proofs.Common.{string_bytes}
use Rattle.rebuild_engine.proofs.ShownLemmas.{counts_more}
use Rattle.rebuild_engine.proofs.shown.push_records.Goals as goal

pub loop-r-preserved : goal.loop-r-preserved
loop-r-preserved c = λ a stands.
    counts_more a c.args.core.now.layout.records c.loop-r.r (string_bytes c.args.text.now) (string_bytes c.loop-r.text) (string_bytes c.push_record.new.text)
    (c.loop-r.invariant a stands) (c.in_ok-push_record.ensures a stands)
