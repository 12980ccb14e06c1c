use Rattle.std.proofs.lemmas.Bool.{both_ways}
use Rattle.site_store.proofs.served.prepare_permitted.Goals as goal

pub returns-then-permission-clause-found : goal.returns-then-permission-clause-found
returns-then-permission-clause-found g c off = absurd (both_ways _ off c.if-permission.true)

pub returns-then-permission-clause-made : goal.returns-then-permission-clause-made
returns-then-permission-clause-made g c on = c.prepare_new.ensures.made

pub returns-clause-found : goal.returns-clause-found
returns-clause-found g c off = c.prepare_found.ensures.found

pub returns-clause-made : goal.returns-clause-made
returns-clause-made g c on = absurd (both_ways _ c.if-permission.false on)
