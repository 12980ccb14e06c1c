use Rattle.std.proofs.Common.{string_bytes}
use Rattle.rebuild_engine.proofs.ShownLemmas.{texts_more}
use Rattle.rebuild_engine.proofs.shown.texts_digest.Goals as goal

pub loop-site-preserved : goal.loop-site-preserved
loop-site-preserved c =
    texts_more c.args.deltas.now c.loop-site.site (string_bytes c.loop-site.texts) (string_bytes c.push_texts.new.texts) c.loop-site.invariant c.in_ok-push_texts.ensures
