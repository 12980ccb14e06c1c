use Rattle.std.proofs.Common.{◌∙◌, sym}
use Rattle.serve_engine.proofs.MarkLemmas.{no_digits, no_word, other_length}
use Rattle.serve_engine.proofs.taking.digits_at.Goals as goal

pub returns-in_default : goal.returns-in_default
returns-in_default c = no_word c.args.bytes.now c.args.count c.requires c.in_default.ensures

pub returns-then-word-count : goal.returns-then-word-count
returns-then-word-count c =
    other_length c.args.bytes.now c.in-Some.word.now c.in-Some.rest.now c.args.count c.in-Some.ensures.0 c.in-Some.ensures.1 c.if-word-count.true

pub returns-then-not-are_digits : goal.returns-then-not-are_digits
returns-then-not-are_digits c =
    no_digits c.args.bytes.now c.in-Some.word.now c.in-Some.rest.now c.args.count c.in-Some.ensures.0 c.in-Some.ensures.1 (sym c.are_digits.ensures ∙ c.if-not-are_digits.true)
