-- What was kept is kept over a crash: the tables keep it, and the opening finds it.
use Rattle.std.proofs.Common.{inl, inr, sym, subst, ◌∙◌}
use Rattle.std.proofs.Math.Logic.{∥∥₁_map}
use Rattle.sqlite.specs.State.{HasCleanDisk}
use Rattle.sqlite.specs.Held.{state}
use Rattle.sqlite.specs.Files.{over_files}
use Rattle.admission_core.specs.Kept.{DurableState}
use Rattle.store_rows.specs.Holding.{HoldsBeside, Keeps, KeepsBeside, KeepsEither}
use Rattle.store_tables.specs.Kept.{connection_of}
use Rattle.site_store.specs.Sql.{KeepsPart}
use Rattle.site_store.proofs.OpenLemmas.{if_honest, twice}
use Rattle.site_store.proofs.restart.restart.Goals as goal

pub returns-in-Ok-open-clause-kept : goal.returns-in-Ok-open-clause-kept
returns-in-Ok-open-clause-kept g c d keeps = λ honest.
    let again = subst (λ h. HasCleanDisk (state over_files h)) c.into_connection-connection.ensures (c.in-Ok-open.ensures.honest honest) in
    let before = subst (λ t. HasCleanDisk (state over_files (connection_of t))) c.into_parts-tables.ensures.tables (c.in-Ok.ensures.honest again) in
    let found = keeps before in
    let kept = c.in-Ok.ensures.kept found.0 (subst (λ t. Keeps over_files (connection_of t) found.0) (sym c.into_parts-tables.ensures.tables) found.1.0.kept) in
    let opened = c.in-Ok-open.ensures.store found.0 (subst (λ h. Keeps over_files h found.0) (sym c.into_connection-connection.ensures) kept) in
    let part = opened.1 honest in
    (part.0, (part.1.0, part.1.1 ∙ found.1.1))

pub returns-in-Ok-open-clause-either : goal.returns-in-Ok-open-clause-either
returns-in-Ok-open-clause-either g c d e keeps = λ honest.
    let again = subst (λ h. HasCleanDisk (state over_files h)) c.into_connection-connection.ensures (c.in-Ok-open.ensures.honest honest) in
    let before = subst (λ t. HasCleanDisk (state over_files (connection_of t))) c.into_parts-tables.ensures.tables (c.in-Ok.ensures.honest again) in
    let found = keeps before in
    let a = found.0 in
    let b = found.1.0 in
    let kept = c.in-Ok.ensures.either a b (subst (λ t. KeepsEither over_files (connection_of t) a b) (sym c.into_parts-tables.ensures.tables) found.1.1.0) in
    let settled = c.in-Ok-open.ensures.settles a b (subst (λ h. KeepsEither over_files h a b) (sym c.into_connection-connection.ensures) kept) in
    ∥∥₁_map settled (λ f. elim f [
      | inl p ↦ elim found.1.1.1.0.part [
        | inl is ↦ inl (subst (λ (s : DurableState). KeepsPart c.in-Ok-open.again s) is p)
        | inr is ↦ inr (subst (λ (s : DurableState). KeepsPart c.in-Ok-open.again s) is p)
      ]
      | inr p ↦ elim found.1.1.1.1.part [
        | inl is ↦ inl (subst (λ (s : DurableState). KeepsPart c.in-Ok-open.again s) is p)
        | inr is ↦ inr (subst (λ (s : DurableState). KeepsPart c.in-Ok-open.again s) is p)
      ]
    ])

-- ---- the other tables

pub returns-in-Ok-open-clause-beside : goal.returns-in-Ok-open-clause-beside
returns-in-Ok-open-clause-beside g c d others keeps beside =
    let left = subst (λ t. KeepsBeside over_files (connection_of t) others) (sym c.into_parts-tables.ensures.tables) beside in
    let still = subst (λ h. KeepsBeside over_files h others) (sym c.into_connection-connection.ensures) (c.in-Ok.ensures.beside others left) in
    if_honest over_files (connection_of c.in-Ok-open.again.tables) (HoldsBeside others)
    (λ honest.
    let again = subst (λ h. HasCleanDisk (state over_files h)) c.into_connection-connection.ensures (c.in-Ok-open.ensures.honest honest) in
    let before = subst (λ t. HasCleanDisk (state over_files (connection_of t))) c.into_parts-tables.ensures.tables (c.in-Ok.ensures.honest again) in
    let found = keeps before in
    let kept = c.in-Ok.ensures.kept found.0 (subst (λ t. Keeps over_files (connection_of t) found.0) (sym c.into_parts-tables.ensures.tables) found.1.0.kept) in
    let here = subst (λ h. Keeps over_files h found.0) (sym c.into_connection-connection.ensures) kept in
    c.in-Ok-open.ensures.beside found.0 found.0 others (twice over_files _ found.0 here) still)

pub returns-in-Ok-open-clause-either_beside : goal.returns-in-Ok-open-clause-either_beside
returns-in-Ok-open-clause-either_beside g c d e others keeps beside =
    let left = subst (λ t. KeepsBeside over_files (connection_of t) others) (sym c.into_parts-tables.ensures.tables) beside in
    let still = subst (λ h. KeepsBeside over_files h others) (sym c.into_connection-connection.ensures) (c.in-Ok.ensures.beside others left) in
    if_honest over_files (connection_of c.in-Ok-open.again.tables) (HoldsBeside others)
    (λ honest.
    let again = subst (λ h. HasCleanDisk (state over_files h)) c.into_connection-connection.ensures (c.in-Ok-open.ensures.honest honest) in
    let before = subst (λ t. HasCleanDisk (state over_files (connection_of t))) c.into_parts-tables.ensures.tables (c.in-Ok.ensures.honest again) in
    let found = keeps before in
    let a = found.0 in
    let b = found.1.0 in
    let kept = c.in-Ok.ensures.either a b (subst (λ t. KeepsEither over_files (connection_of t) a b) (sym c.into_parts-tables.ensures.tables) found.1.1.0) in
    c.in-Ok-open.ensures.beside a b others (subst (λ h. KeepsEither over_files h a b) (sym c.into_connection-connection.ensures) kept) still)
