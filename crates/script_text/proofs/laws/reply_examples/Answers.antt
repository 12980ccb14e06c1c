use Rattle.std.proofs.Common.{refl}
use Rattle.delta_codec.specs.DeltaText.{delta_text}
use Rattle.script_text.proofs.ExampleLemmas.{zero_written, one_written, two_written, three_written}
use Rattle.script_text.proofs.laws.reply_examples.Goals as goal

pub returns-clause-announced : goal.returns-clause-announced
returns-clause-announced c = rw three_written refl

pub returns-clause-gave : goal.returns-clause-gave
returns-clause-gave c = rw (one_written, two_written) refl

pub returns-clause-merged : goal.returns-clause-merged
returns-clause-merged c = rw zero_written refl

pub returns-clause-snapshot : goal.returns-clause-snapshot
unfolding delta_text
returns-clause-snapshot c = rw (zero_written) refl

pub returns-clause-writer_announced : goal.returns-clause-writer_announced
returns-clause-writer_announced c = rw one_written refl

pub returns-clause-no_seat : goal.returns-clause-no_seat
returns-clause-no_seat c = rw zero_written refl

pub returns-clause-missing_seats : goal.returns-clause-missing_seats
returns-clause-missing_seats c = rw (two_written, three_written) refl

pub returns-clause-too_few_rights : goal.returns-clause-too_few_rights
returns-clause-too_few_rights c = rw two_written refl

pub returns-clause-other_layout : goal.returns-clause-other_layout
returns-clause-other_layout c = rw one_written refl

pub returns-clause-bad_row : goal.returns-clause-bad_row
returns-clause-bad_row c = rw one_written refl

pub returns-clause-own_row_ahead : goal.returns-clause-own_row_ahead
returns-clause-own_row_ahead c = rw two_written refl

pub returns-clause-unread : goal.returns-clause-unread
returns-clause-unread c = rw three_written refl
