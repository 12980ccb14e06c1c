use Rattle.store_rows.specs.Holding.{HoldsBeside}
use Rattle.store_tables.specs.Kept.{connection_of}
use Rattle.store_tables.specs.Marking.{HasOutdatedMark}
use Rattle.site_store.proofs.OpenLemmas.{if_honest}
use Rattle.site_store.proofs.sql.SqlKeeper.set_outdated.Goals as goal

pub returns-in-Ok-clause-ok : goal.returns-in-Ok-clause-ok
returns-in-Ok-clause-ok g c d keeps =
    if_honest g.S.Store (connection_of c.mark_outdated.new.self) HasOutdatedMark
    (λ clean. let found = keeps (c.mark_outdated.ensures.stops.honest clean) in c.in-Ok.ensures.ok found.0 found.1.0.own.second found.1.0.kept)

pub returns-in-Ok-clause-content : goal.returns-in-Ok-clause-content
returns-in-Ok-clause-content g c it keeps = record { own = keeps.own; kept = c.mark_outdated.ensures.kept it keeps.own.second keeps.kept; known = keeps.known }

pub returns-in-Err-clause-content : goal.returns-in-Err-clause-content
returns-in-Err-clause-content g c it keeps = record { own = keeps.own; kept = c.mark_outdated.ensures.kept it keeps.own.second keeps.kept; known = keeps.known }

pub returns-in-Ok-clause-kept : goal.returns-in-Ok-clause-kept
returns-in-Ok-clause-kept g c d keeps = λ clean.
    let found = keeps (c.mark_outdated.ensures.stops.honest clean) in
    let it = found.1.0 in
    (found.0, (record { own = it.own; kept = c.mark_outdated.ensures.kept found.0 it.own.second it.kept; known = it.known }, found.1.1))

pub returns-in-Err-clause-kept : goal.returns-in-Err-clause-kept
returns-in-Err-clause-kept g c d keeps = λ clean.
    let found = keeps (c.mark_outdated.ensures.stops.honest clean) in
    let it = found.1.0 in
    (found.0, (record { own = it.own; kept = c.mark_outdated.ensures.kept found.0 it.own.second it.kept; known = it.known }, found.1.1))

pub returns-in-Ok-clause-either : goal.returns-in-Ok-clause-either
returns-in-Ok-clause-either g c d e keeps = λ clean.
    let found = keeps (c.mark_outdated.ensures.stops.honest clean) in
    (found.0, (found.1.0, (c.mark_outdated.ensures.either found.0 found.1.0 found.1.1.1.0.own.second found.1.1.1.1.own.second found.1.1.0, found.1.1.1)))

pub returns-in-Err-clause-either : goal.returns-in-Err-clause-either
returns-in-Err-clause-either g c d e keeps = λ clean.
    let found = keeps (c.mark_outdated.ensures.stops.honest clean) in
    (found.0, (found.1.0, (c.mark_outdated.ensures.either found.0 found.1.0 found.1.1.1.0.own.second found.1.1.1.1.own.second found.1.1.0, found.1.1.1)))

pub returns-in-Ok-clause-beside : goal.returns-in-Ok-clause-beside
returns-in-Ok-clause-beside g c d others keeps beside =
    if_honest g.S.Store (connection_of c.mark_outdated.new.self) (HoldsBeside others)
    (λ clean. let found = keeps (c.mark_outdated.ensures.stops.honest clean) in c.mark_outdated.ensures.beside found.0 others found.1.0.own.second found.1.0.kept beside)

pub returns-in-Err-clause-beside : goal.returns-in-Err-clause-beside
returns-in-Err-clause-beside g c d others keeps beside =
    if_honest g.S.Store (connection_of c.mark_outdated.new.self) (HoldsBeside others)
    (λ clean. let found = keeps (c.mark_outdated.ensures.stops.honest clean) in c.mark_outdated.ensures.beside found.0 others found.1.0.own.second found.1.0.kept beside)
