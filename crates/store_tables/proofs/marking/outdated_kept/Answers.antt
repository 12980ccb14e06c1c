use Rattle.std.proofs.Common.{inl, inr, true, false, IfOk, OnOk, IsTrue, subst, arith}
use Rattle.std.proofs.Math.Logic.{∥∥₁_elim, ∥∥₁_map}
use Rattle.std.proofs.lemmas.Bool.{cases_Bool}
use Rattle.std.specs.Coded.{Coded-set, coded_bool}
use Rattle.sqlite.specs.State.{HasCleanDisk}
use Rattle.sqlite.specs.Held.{state}
use Rattle.store_rows.specs.Holding.{Holds}
use Rattle.store_tables.specs.Marking.{HasOutdatedMark, TellsOutdated}
use Rattle.store_tables.proofs.KeepLemmas.{seen_is, store_of}
use Rattle.store_tables.proofs.LookLemmas.{if_ok_from}
use Rattle.store_tables.proofs.RefusalLemmas.{version_once}
use Rattle.store_tables.proofs.MarkingLemmas.{leaves_seen, told_current, told_marked}
use Rattle.store_tables.proofs.marking.outdated_kept.Goals as goal

pub returns-clause-told : goal.returns-clause-told
returns-clause-told g c it keeps =
    let old = c.args.conn.now in
    let now = (state g.S.Store old).now in
    let idle = c.is_autocommit-is_idle.ensures.settled (rw (c.is_autocommit-is_idle.ensures.value, c.requires)) in
    if_ok_from c.ask_outdated.result (λ found is.
    let up : HasCleanDisk (state g.S.Store c.ask_outdated.new.conn) → IsTrue (state g.S.Store old).is_open = λ clean. subst (λ r. OnOk r (IsTrue (state g.S.Store old).is_open)) is (c.ask_outdated.ensures.reads.opened clean) in
    leaves_seen g.S.Store g.met.S.Store.settled old c.ask_outdated.new.conn (TellsOutdated found) idle c.ask_outdated.ensures.reads.survives up
    (λ clean.
    let early : HasCleanDisk (state g.S.Store old) = omega (arith, c.ask_outdated.ensures.reads.survives.clean) in
    let seen = seen_is g.S.Store g.met.S.Store.settled g.met.S.Store.stays old (Holds it) keeps c.schema-schema.ensures.live idle early (up clean) in
    ∥∥₁_map seen.1 (λ holds. subst (λ r. IfOk r (λ x. TellsOutdated x now.trees)) is (c.ask_outdated.ensures.reads.told clean it.version (store_of now it seen.0 holds).schema))))

pub returns-clause-marked : goal.returns-clause-marked
returns-clause-marked g c clean it keeps marked =
    let old = c.args.conn.now in
    let now = (state g.S.Store old).now in
    let early : HasCleanDisk (state g.S.Store old) = omega (arith, c.ask_outdated.ensures.reads.survives.clean) in
    let idle = c.is_autocommit-is_idle.ensures.settled (rw (c.is_autocommit-is_idle.ensures.value, c.requires)) in
    if_ok_from c.ask_outdated.result (λ found is.
    let up = subst (λ r. OnOk r (IsTrue (state g.S.Store old).is_open)) is (c.ask_outdated.ensures.reads.opened clean) in
    let seen = seen_is g.S.Store g.met.S.Store.settled g.met.S.Store.stays old (Holds it) keeps c.schema-schema.ensures.live idle early up in
    let has = seen_is g.S.Store g.met.S.Store.settled g.met.S.Store.stays old HasOutdatedMark marked c.schema-schema.ensures.live idle early up in
    ∥∥₁_elim seen.1 (Coded-set coded_bool found true) (λ holds.
    let tells = subst (λ r. IfOk r (λ x. TellsOutdated x now.trees)) is (c.ask_outdated.ensures.reads.told clean it.version (store_of now it seen.0 holds).schema) in
    ∥∥₁_elim has.1 (Coded-set coded_bool found true) (λ mark. told_marked now.trees found tells mark)))

pub returns-clause-unmarked : goal.returns-clause-unmarked
returns-clause-unmarked g c clean it keeps none =
    let old = c.args.conn.now in
    let now = (state g.S.Store old).now in
    let early : HasCleanDisk (state g.S.Store old) = omega (arith, c.ask_outdated.ensures.reads.survives.clean) in
    let idle = c.is_autocommit-is_idle.ensures.settled (rw (c.is_autocommit-is_idle.ensures.value, c.requires)) in
    if_ok_from c.ask_outdated.result (λ found is.
    let up = subst (λ r. OnOk r (IsTrue (state g.S.Store old).is_open)) is (c.ask_outdated.ensures.reads.opened clean) in
    let seen = seen_is g.S.Store g.met.S.Store.settled g.met.S.Store.stays old (Holds it) keeps c.schema-schema.ensures.live idle early up in
    let lacks = seen_is g.S.Store g.met.S.Store.settled g.met.S.Store.stays old (TellsOutdated false) none c.schema-schema.ensures.live idle early up in
    ∥∥₁_elim seen.1 (Coded-set coded_bool found false) (λ holds.
    let tells = subst (λ r. IfOk r (λ x. TellsOutdated x now.trees)) is (c.ask_outdated.ensures.reads.told clean it.version (store_of now it seen.0 holds).schema) in
    ∥∥₁_elim lacks.1 (Coded-set coded_bool found false) (λ none. told_current now.trees found tells none)))

pub returns-clause-refused : goal.returns-clause-refused
returns-clause-refused g c clean it keeps failed =
    let old = c.args.conn.now in
    let now = (state g.S.Store old).now in
    let early : HasCleanDisk (state g.S.Store old) = omega (arith, c.ask_outdated.ensures.reads.survives.clean) in
    let idle = c.is_autocommit-is_idle.ensures.settled (rw (c.is_autocommit-is_idle.ensures.value, c.requires)) in
    elim (cases_Bool (state g.S.Store old).is_open) [
      | inl up ↦
          let seen = seen_is g.S.Store g.met.S.Store.settled g.met.S.Store.stays old (Holds it) keeps c.schema-schema.ensures.live idle early up in
          c.ask_outdated.ensures.reads.refused clean it.version (∥∥₁_elim seen.1 (version_once it.version now.schema) (λ holds. (store_of now it seen.0 holds).schema)) failed
      | inr down ↦ inr (inl down)
    ]
