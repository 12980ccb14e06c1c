-- Each clause is a lemma.
use Rattle.std.proofs.Common.{ap, ◌∙◌}
use Rattle.store_schema.specs.Found.{found_in}
use Rattle.store_schema.specs.Tables.{others_in}
use Rattle.store_schema.proofs.BehindLemmas.{as_made, index_made, table_made, view_made}
use Rattle.store_schema.proofs.TableLemmas.{found_second}
use Rattle.store_schema.proofs.laws.behind_law.Goals as goal

pub returns-clause-none : goal.returns-clause-none
returns-clause-none c = as_made

pub returns-clause-table : goal.returns-clause-table
returns-clause-table c = table_made

pub returns-clause-index : goal.returns-clause-index
returns-clause-index c = index_made

pub returns-clause-view : goal.returns-clause-view
returns-clause-view c = view_made

pub returns-clause-found : goal.returns-clause-found
returns-clause-found c schema is = ap found_in is.own ∙ found_second (others_in schema)
