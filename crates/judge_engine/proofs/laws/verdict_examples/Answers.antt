use Rattle.std.proofs.Common.{refl}
use Rattle.script_text.proofs.ExampleLemmas.{zero_written, one_written, two_written, three_written}
use Rattle.judge_engine.proofs.laws.verdict_examples.Goals as goal

pub returns-clause-bad_joint : goal.returns-clause-bad_joint
returns-clause-bad_joint c = rw three_written refl

pub returns-clause-bad_reply : goal.returns-clause-bad_reply
returns-clause-bad_reply c = rw (one_written, two_written) refl

pub returns-clause-exceeds : goal.returns-clause-exceeds
returns-clause-exceeds c = rw (one_written, two_written, three_written) refl

pub returns-clause-no_record : goal.returns-clause-no_record
returns-clause-no_record c = rw (zero_written, one_written, two_written, three_written) refl

pub returns-clause-refused : goal.returns-clause-refused
returns-clause-refused c = rw two_written refl
