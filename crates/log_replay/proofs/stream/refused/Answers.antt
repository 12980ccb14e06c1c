use Rattle.std.proofs.Common.{rules, ◌≡◌, [], vec_len, arith}
use Rattle.std.proofs.lemmas.List.{nil_from_length}
use Rattle.admission_core.proofs.CoreLemmas.{both_ok}
use Rattle.log_replay.specs.Stream.{stage_behind}
use Rattle.log_replay.proofs.StreamLemmas.{entry_behind, refused_on}
use Rattle.log_replay.proofs.stream.refused.Goals as goal

pub returns-then-not-is_empty-clause-stage : goal.returns-then-not-is_empty-clause-stage
returns-then-not-is_empty-clause-stage c = λ before clear idle layout i runs more later r.
    entry_behind layout i runs c.args.entry more later before c.args.left.now.items c.args.at c.saturating_sub.result r (search rules) (search rules)

pub returns-clause-stage : goal.returns-clause-stage
returns-clause-stage c =
    let size : vec_len c.args.left.now ≡ 0 = search rules in
    let none : c.args.left.now.items ≡ [] = nil_from_length c.args.left.now.items (omega (arith, size, c.args.left.now.ok.0)) in
    both_ok
    (λ fault answer kept before clear idle layout i runs more later r.
    refused_on layout i runs c.args.entry more later before c.args.core.now c.args.left.now.items c.args.at (stage_behind c.doubted.new.core c.doubted.new.left fault) none (clear none) r answer kept)
    c.doubted.result c.doubted.ensures.answer c.doubted.ensures.kept
