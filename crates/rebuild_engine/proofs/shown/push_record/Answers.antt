use Rattle.std.proofs.Common.{rules, codes, string_bytes}
use Rattle.std.proofs.lemmas.Result.{IfOk-weaker}
use Rattle.rebuild_engine.proofs.ShownLemmas.{counts_shown, named, three_texts}
use Rattle.rebuild_engine.proofs.shown.push_record.Goals as goal

pub returns : goal.returns
returns c =
    let records = c.args.core.now.layout.records in
    IfOk-weaker c.push_counts.result _ _
    (λ x is a stands. three_texts (string_bytes c.args.text.now) (string_bytes c.push_str.new.self) (string_bytes c.push_str-2.new.self) (string_bytes c.push_counts.new.text)
    _ _ (codes " ") _ _ c.in_ok-push_str.ensures.bytes c.in_ok-push_str-2.ensures.bytes (is a stands)
    (named records c.records.result.now c.args.r c.from.result c.index-records-from.result _ c.as_str.ensures c.index-records-from.is (search rules) c.from.ensures c.requires.there)
    (counts_shown a c.args.core.now c.args.r stands c.requires.there))
    c.push_counts.ensures
