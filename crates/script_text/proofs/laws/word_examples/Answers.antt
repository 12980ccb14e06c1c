use Rattle.std.proofs.Common.{refl}
use Rattle.text_parts.specs.Readers.{digits_at, number_at, short_at}
use Rattle.script_text.proofs.laws.word_examples.Goals as goal

pub returns-clause-number : goal.returns-clause-number
unfolding number_at digits_at
returns-clause-number c = refl

pub returns-clause-zero : goal.returns-clause-zero
unfolding number_at digits_at
returns-clause-zero c = refl

pub returns-clause-leading_zero : goal.returns-clause-leading_zero
unfolding number_at digits_at
returns-clause-leading_zero c = refl

pub returns-clause-no_digit : goal.returns-clause-no_digit
unfolding number_at digits_at
returns-clause-no_digit c = refl

pub returns-clause-sign : goal.returns-clause-sign
unfolding number_at digits_at
returns-clause-sign c = refl

pub returns-clause-letter_behind : goal.returns-clause-letter_behind
unfolding number_at digits_at
returns-clause-letter_behind c = refl

pub returns-clause-greatest : goal.returns-clause-greatest
unfolding number_at digits_at
returns-clause-greatest c = refl

pub returns-clause-too_great : goal.returns-clause-too_great
unfolding number_at digits_at
returns-clause-too_great c = refl

pub returns-clause-greatest_short : goal.returns-clause-greatest_short
unfolding short_at number_at digits_at
returns-clause-greatest_short c = refl

pub returns-clause-too_great_short : goal.returns-clause-too_great_short
unfolding short_at number_at digits_at
returns-clause-too_great_short c = refl
