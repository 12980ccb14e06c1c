use Rattle.std.proofs.Common.{decimal}
use Rattle.text_parts.specs.Readers.{number_at}
use Rattle.text_parts.proofs.LiteralLaws.{after_takes, after_again}
use Rattle.text_parts.proofs.NumberLaws.{number_takes, number_again, short_takes, short_again}
use Rattle.text_parts.proofs.ElementLaws.{joined_takes}
use Rattle.text_parts.proofs.laws.part_laws.Goals as goal

pub returns-clause-literal : goal.returns-clause-literal
returns-clause-literal c = after_takes

pub returns-clause-literal_again : goal.returns-clause-literal_again
returns-clause-literal_again c = after_again

pub returns-clause-number : goal.returns-clause-number
returns-clause-number c = λ bytes rest n e. number_takes bytes n rest e

pub returns-clause-number_again : goal.returns-clause-number_again
returns-clause-number_again c = number_again

pub returns-clause-short : goal.returns-clause-short
returns-clause-short c = λ bytes rest n e. short_takes bytes n rest e

pub returns-clause-short_again : goal.returns-clause-short_again
returns-clause-short_again c = short_again

pub returns-clause-numbers : goal.returns-clause-numbers
returns-clause-numbers c = λ more bytes ns rest e. joined_takes decimal number_at (λ b x r h. (number_takes b x r h).0) more bytes ns rest e
