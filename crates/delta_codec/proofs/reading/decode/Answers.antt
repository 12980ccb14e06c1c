use Rattle.std.proofs.Common.{sym, ◌∙◌, ap, inl, Ok}
use Rattle.delta_codec.proofs.DeltaLaws.{one_delta}
use Rattle.delta_codec.proofs.LengthLaws.{too_long_none}
use Rattle.delta_codec.proofs.reading.decode.Goals as goal

pub returns-then-bytes-gt-TEXT_LIMIT-clause-exact : goal.returns-then-bytes-gt-TEXT_LIMIT-clause-exact
returns-then-bytes-gt-TEXT_LIMIT-clause-exact c = (too_long_none c.args.bytes.now c.if-bytes-gt-TEXT_LIMIT.true, c.if-bytes-gt-TEXT_LIMIT.true)

pub returns-then-bytes-gt-TEXT_LIMIT-clause-only : goal.returns-then-bytes-gt-TEXT_LIMIT-clause-only
returns-then-bytes-gt-TEXT_LIMIT-clause-only c = λ d is text. absurd (too_long_none c.args.bytes.now c.if-bytes-gt-TEXT_LIMIT.true d is text)

pub returns-in-Ok-clause-only : goal.returns-in-Ok-clause-only
returns-in-Ok-clause-only c = λ d is text. inl (ap (λ x. Ok x) (one_delta c.in-Ok.delta d c.in-Ok.ensures.0 is (sym c.in-Ok.ensures.1 ∙ text)))
