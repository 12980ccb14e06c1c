use Rattle.std.proofs.Common.{refl}
use Rattle.text_parts.specs.Readers.{digits_at, number_at, short_at}
use Rattle.serve_engine.proofs.laws.bad_word_examples.Goals as goal

pub returns-clause-no_holder : goal.returns-clause-no_holder
unfolding number_at digits_at
returns-clause-no_holder c = refl

pub returns-clause-site_too_great : goal.returns-clause-site_too_great
unfolding short_at number_at digits_at
returns-clause-site_too_great c = refl

pub returns-clause-no_seats : goal.returns-clause-no_seats
unfolding short_at number_at digits_at
returns-clause-no_seats c = refl

pub returns-clause-missing_seats : goal.returns-clause-missing_seats
unfolding short_at number_at digits_at
returns-clause-missing_seats c = refl

pub returns-clause-one_word_more : goal.returns-clause-one_word_more
unfolding number_at digits_at
returns-clause-one_word_more c = refl

pub returns-clause-seats_twice : goal.returns-clause-seats_twice
unfolding short_at number_at digits_at
returns-clause-seats_twice c = refl
