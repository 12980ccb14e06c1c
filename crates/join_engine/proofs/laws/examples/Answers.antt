use Rattle.join_engine.proofs.ExampleLemmas.{given_text, written_text, refused_text}
use Rattle.join_engine.proofs.laws.examples.Goals as goal

pub returns-clause-text : goal.returns-clause-text
returns-clause-text c = given_text

pub returns-clause-written : goal.returns-clause-written
returns-clause-written c = written_text

pub returns-clause-refused : goal.returns-clause-refused
returns-clause-refused c = refused_text
