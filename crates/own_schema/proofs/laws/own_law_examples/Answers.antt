-- Each clause is a lemma.
use Rattle.own_schema.proofs.ExampleLemmas.{any_case_is, beside_is, exchanged_is, first_is, indexed_is, referring_is, second_is}
use Rattle.own_schema.proofs.laws.own_law_examples.Goals as goal

pub returns-clause-first : goal.returns-clause-first
returns-clause-first c = first_is

pub returns-clause-second : goal.returns-clause-second
returns-clause-second c = second_is

pub returns-clause-beside : goal.returns-clause-beside
returns-clause-beside c = beside_is

pub returns-clause-referring : goal.returns-clause-referring
returns-clause-referring c = referring_is

pub returns-clause-any_case : goal.returns-clause-any_case
returns-clause-any_case c = any_case_is

pub returns-clause-exchanged : goal.returns-clause-exchanged
returns-clause-exchanged c = exchanged_is

pub returns-clause-indexed : goal.returns-clause-indexed
returns-clause-indexed c = indexed_is
