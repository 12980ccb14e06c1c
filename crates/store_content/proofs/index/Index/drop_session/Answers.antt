-- The place of the session goes, and no other.
use Rattle.store_content.proofs.index.Index.drop_session.Goals as goal

pub returns-then-eq-clause-places : goal.returns-then-eq-clause-places
returns-then-eq-clause-places c = λ q g. c.swap_remove.ensures.updates.0 (q, g)

pub returns-else-eq-clause-places : goal.returns-else-eq-clause-places
returns-else-eq-clause-places c = λ q g. c.swap_remove.ensures.updates.0 (q, g)
