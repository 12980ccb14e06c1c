use Rattle.std.proofs.Common.{refl}
use Rattle.text_parts.specs.Readers.{digits_at, number_at, short_at}
use Rattle.script_text.proofs.laws.ask_examples.Goals as goal

pub returns-clause-read : goal.returns-clause-read
unfolding number_at digits_at
returns-clause-read c = refl

pub returns-clause-announce : goal.returns-clause-announce
unfolding number_at digits_at
returns-clause-announce c = refl

pub returns-clause-write : goal.returns-clause-write
unfolding number_at digits_at
returns-clause-write c = refl

pub returns-clause-leave : goal.returns-clause-leave
unfolding number_at digits_at
returns-clause-leave c = refl

pub returns-clause-unknown_record : goal.returns-clause-unknown_record
unfolding number_at digits_at
returns-clause-unknown_record c = refl

pub returns-clause-greatest_holder : goal.returns-clause-greatest_holder
unfolding number_at digits_at
returns-clause-greatest_holder c = refl

pub returns-clause-holder_too_great : goal.returns-clause-holder_too_great
unfolding number_at digits_at
returns-clause-holder_too_great c = refl

pub returns-clause-holder_twice : goal.returns-clause-holder_twice
unfolding number_at digits_at
returns-clause-holder_twice c = refl

pub returns-clause-blank_behind : goal.returns-clause-blank_behind
unfolding number_at digits_at
returns-clause-blank_behind c = refl

pub returns-clause-leading_zero : goal.returns-clause-leading_zero
unfolding number_at digits_at
returns-clause-leading_zero c = refl

pub returns-clause-no_holder : goal.returns-clause-no_holder
unfolding number_at digits_at
returns-clause-no_holder c = refl

pub returns-clause-give : goal.returns-clause-give
unfolding short_at number_at digits_at
returns-clause-give c = refl

pub returns-clause-greatest_site : goal.returns-clause-greatest_site
unfolding short_at number_at digits_at
returns-clause-greatest_site c = refl

pub returns-clause-site_too_great : goal.returns-clause-site_too_great
unfolding short_at number_at digits_at
returns-clause-site_too_great c = refl

pub returns-clause-no_seats : goal.returns-clause-no_seats
unfolding short_at number_at digits_at
returns-clause-no_seats c = refl

pub returns-clause-seats_twice : goal.returns-clause-seats_twice
unfolding short_at number_at digits_at
returns-clause-seats_twice c = refl
