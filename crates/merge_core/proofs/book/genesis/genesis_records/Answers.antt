use Rattle.std.proofs.Common.{◌∙◌}
use Rattle.std.proofs.lemmas.List.Elements.{All-push, All-same}
use Rattle.merge_core.specs.Book.{IsRecord}
use Rattle.merge_core.proofs.StartLemmas.{started_more}
use Rattle.merge_core.proofs.book.genesis.genesis_records.Goals as goal

pub loop-spec-preserved : goal.loop-spec-preserved
loop-spec-preserved c = record {
  start = c.in_ok-push.ensures.items ∙ started_more c.args.sites c.args.specs.now c.loop-spec.spec-index _ _ c.loop-spec.records.items c.loop-spec-test.true c.spec-item.is c.in_ok-genesis_record.ensures.start c.loop-spec.invariant.start;
  valid = All-same (IsRecord c.args.sites) _ _ c.in_ok-push.ensures.items (All-push (IsRecord c.args.sites) c.loop-spec.records.items _ c.loop-spec.invariant.valid c.in_ok-genesis_record.ensures.valid);
}
