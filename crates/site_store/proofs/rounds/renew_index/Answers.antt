-- The tables keep what they kept, also where they are stopped.
use Rattle.std.proofs.Common.{sym, subst}
use Rattle.sqlite.specs.Held.{Held}
use Rattle.store_rows.specs.Holding.{Keeps, KeepsBeside}
use Rattle.site_store.proofs.rounds.renew_index.Goals as goal

pub returns-in-Err-clause-kept : goal.returns-in-Err-clause-kept
returns-in-Err-clause-kept g c it keeps = subst (λ (h : Held g.row.S.Denot). Keeps g.S.Store h it) (sym c.stop.ensures.connection) (c.find_index.ensures.kept it keeps)

pub returns-in-Err-clause-beside : goal.returns-in-Err-clause-beside
returns-in-Err-clause-beside g c others beside =
    subst (λ (h : Held g.row.S.Denot). KeepsBeside g.S.Store h others) (sym c.stop.ensures.connection) (c.find_index.ensures.beside others beside)
