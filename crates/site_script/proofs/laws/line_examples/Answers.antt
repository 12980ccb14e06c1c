use Rattle.std.proofs.Common.{refl, arith}
use Rattle.text_parts.specs.Readers.{digits_at, number_at, short_at}
use Rattle.site_script.proofs.LawLemmas.{not_send_or_take}
use Rattle.site_script.proofs.laws.line_examples.Goals as goal

pub returns-clause-read : goal.returns-clause-read
unfolding number_at digits_at short_at
returns-clause-read c = refl

pub returns-clause-announce : goal.returns-clause-announce
unfolding number_at digits_at short_at
returns-clause-announce c = refl

pub returns-clause-write : goal.returns-clause-write
unfolding number_at digits_at short_at
returns-clause-write c = refl

pub returns-clause-leave : goal.returns-clause-leave
unfolding number_at digits_at short_at
returns-clause-leave c = refl

pub returns-clause-give : goal.returns-clause-give
unfolding number_at digits_at short_at
returns-clause-give c = refl

pub returns-clause-holder_too_great : goal.returns-clause-holder_too_great
unfolding number_at digits_at short_at
returns-clause-holder_too_great c = not_send_or_take _ _ _ refl (omega arith) (omega arith)

pub returns-clause-leading_zero : goal.returns-clause-leading_zero
unfolding number_at digits_at short_at
returns-clause-leading_zero c = not_send_or_take _ _ _ refl (omega arith) (omega arith)
