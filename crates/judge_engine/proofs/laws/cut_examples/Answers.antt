use Rattle.std.proofs.Common.{refl}
use Rattle.text_parts.specs.Readers.{digits_at, joined_at, later_at, number_at}
use Rattle.judge_engine.proofs.laws.cut_examples.Goals as goal

pub returns-clause-one : goal.returns-clause-one
unfolding joined_at later_at number_at digits_at
returns-clause-one c = refl

pub returns-clause-three : goal.returns-clause-three
unfolding joined_at later_at number_at digits_at
returns-clause-three c = refl

pub returns-clause-greatest : goal.returns-clause-greatest
unfolding joined_at later_at number_at digits_at
returns-clause-greatest c = refl

pub returns-clause-too_great : goal.returns-clause-too_great
unfolding joined_at later_at number_at digits_at
returns-clause-too_great c = refl

pub returns-clause-none : goal.returns-clause-none
unfolding joined_at later_at number_at digits_at
returns-clause-none c = refl

pub returns-clause-letter : goal.returns-clause-letter
unfolding joined_at later_at number_at digits_at
returns-clause-letter c = refl

pub returns-clause-no_last : goal.returns-clause-no_last
unfolding joined_at later_at number_at digits_at
returns-clause-no_last c = refl

pub returns-clause-no_first : goal.returns-clause-no_first
unfolding joined_at later_at number_at digits_at
returns-clause-no_first c = refl

pub returns-clause-leading_zero : goal.returns-clause-leading_zero
unfolding joined_at later_at number_at digits_at
returns-clause-leading_zero c = refl

pub returns-clause-sign : goal.returns-clause-sign
unfolding joined_at later_at number_at digits_at
returns-clause-sign c = refl

pub returns-clause-blank : goal.returns-clause-blank
unfolding joined_at later_at number_at digits_at
returns-clause-blank c = refl

pub returns-clause-longer : goal.returns-clause-longer
unfolding joined_at later_at number_at digits_at
returns-clause-longer c = refl
