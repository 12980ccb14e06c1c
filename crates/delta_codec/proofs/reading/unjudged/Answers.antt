use Rattle.std.proofs.Common.{rules}
use Rattle.std.specs.Str.{IsUtf8}
use Rattle.delta_codec.proofs.Utf8Laws.{not_utf8_none}
use Rattle.delta_codec.proofs.reading.unjudged.Goals as goal

pub returns-in-Err : goal.returns-in-Err
returns-in-Err c =
    let other : IsUtf8 c.args.bytes.now → ⊥ = search rules in
    (not_utf8_none c.args.bytes.now other, c.requires.short, other)
