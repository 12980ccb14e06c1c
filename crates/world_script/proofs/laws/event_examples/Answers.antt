use Rattle.std.proofs.Common.{refl}
use Rattle.text_parts.specs.Readers.{digits_at, number_at, short_at}
use Rattle.world_script.proofs.laws.event_examples.Goals as goal

pub returns-clause-read : goal.returns-clause-read
unfolding number_at digits_at short_at
returns-clause-read c = refl

pub returns-clause-give : goal.returns-clause-give
unfolding number_at digits_at short_at
returns-clause-give c = refl

pub returns-clause-send : goal.returns-clause-send
unfolding number_at digits_at short_at
returns-clause-send c = refl

pub returns-clause-take : goal.returns-clause-take
unfolding number_at digits_at short_at
returns-clause-take c = refl

pub returns-clause-restart : goal.returns-clause-restart
unfolding number_at digits_at short_at
returns-clause-restart c = refl

pub returns-clause-grow : goal.returns-clause-grow
unfolding number_at digits_at short_at
returns-clause-grow c = refl

pub returns-clause-greatest_site : goal.returns-clause-greatest_site
unfolding number_at digits_at short_at
returns-clause-greatest_site c = refl

pub returns-clause-site_too_great : goal.returns-clause-site_too_great
unfolding number_at digits_at short_at
returns-clause-site_too_great c = refl

pub returns-clause-greatest_message : goal.returns-clause-greatest_message
unfolding number_at digits_at short_at
returns-clause-greatest_message c = refl

pub returns-clause-message_too_great : goal.returns-clause-message_too_great
unfolding number_at digits_at short_at
returns-clause-message_too_great c = refl

pub returns-clause-nothing : goal.returns-clause-nothing
unfolding number_at digits_at short_at
returns-clause-nothing c = refl

pub returns-clause-site_alone : goal.returns-clause-site_alone
unfolding number_at digits_at short_at
returns-clause-site_alone c = refl

pub returns-clause-site_and_blank : goal.returns-clause-site_and_blank
unfolding number_at digits_at short_at
returns-clause-site_and_blank c = refl

pub returns-clause-no_site : goal.returns-clause-no_site
unfolding number_at digits_at short_at
returns-clause-no_site c = refl

pub returns-clause-blank_in_front : goal.returns-clause-blank_in_front
unfolding number_at digits_at short_at
returns-clause-blank_in_front c = refl

pub returns-clause-blank_behind : goal.returns-clause-blank_behind
unfolding number_at digits_at short_at
returns-clause-blank_behind c = refl

pub returns-clause-two_blanks : goal.returns-clause-two_blanks
unfolding number_at digits_at short_at
returns-clause-two_blanks c = refl

pub returns-clause-carriage_return : goal.returns-clause-carriage_return
unfolding number_at digits_at short_at
returns-clause-carriage_return c = refl

pub returns-clause-leading_zero : goal.returns-clause-leading_zero
unfolding number_at digits_at short_at
returns-clause-leading_zero c = refl

pub returns-clause-sign : goal.returns-clause-sign
unfolding number_at digits_at short_at
returns-clause-sign c = refl

pub returns-clause-word_behind_grow : goal.returns-clause-word_behind_grow
unfolding number_at digits_at short_at
returns-clause-word_behind_grow c = refl

pub returns-clause-word_behind_take : goal.returns-clause-word_behind_take
unfolding number_at digits_at short_at
returns-clause-word_behind_take c = refl

pub returns-clause-take_alone : goal.returns-clause-take_alone
unfolding number_at digits_at short_at
returns-clause-take_alone c = refl

pub returns-clause-capital : goal.returns-clause-capital
unfolding number_at digits_at short_at
returns-clause-capital c = refl
