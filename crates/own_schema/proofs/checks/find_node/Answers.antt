-- What is found in a list of nodes is the node there.
use Rattle.own_schema.proofs.TermLemmas.{node_found}
use Rattle.own_schema.proofs.checks.find_node.Goals as goal

pub returns : goal.returns
returns c = node_found c.args.nodes.now c.args.at c.get.result c.get.ensures.value
