use Rattle.std.specs.Prelude.{string_bytes}
use Rattle.live_site.specs.Live.{LiveState}
use Rattle.live_site.proofs.CallLemmas.{fault_told, live_after, not_frozen}
use Rattle.live_site.proofs.live_site.LiveSite.serve.Goals as goal

pub invariant_of-self : goal.invariant_of-self
invariant_of-self g c =
    let i = c.self.inside in
    let old : LiveState g.row.K.Denot = record { core = i.core; keeper = i.keeper; frozen = i.frozen } in
    live_after g.K.Keeper g.K.LiveKeeper.is_outdated g.L.CallLog c.args.call.now old c.self.invariant c.step.new.core c.step.new.keeper c.args.log.now c.step.new.log
    (string_bytes c.args.text.now) (string_bytes c.step.new.text) c.step.ensures.made_for c.if-self.false c.step.result c.step.new.frozen
    (c.step.ensures.step c.self.invariant.core.account c.self.invariant.core.stands)
    (c.step.ensures.freezing c.self.invariant.core.account c.self.invariant.core.stands)

pub returns-clause-only_frozen : goal.returns-clause-only_frozen
returns-clause-only_frozen g c = λ is.
    let old = c.self.inside in
    let core = c.self.invariant.core in
    absurd (not_frozen g.K.Keeper g.K.LiveKeeper.is_outdated g.L.CallLog core.account old.core core.stands c.args.call.now c.step.new.core old.keeper c.step.new.keeper c.args.log.now c.step.new.log
    (string_bytes c.args.text.now) (string_bytes c.step.new.text) c.step.result (c.step.ensures.step core.account core.stands) is)

pub returns-clause-told : goal.returns-clause-told
returns-clause-told g c = λ is.
    let old = c.self.inside in
    let core = c.self.invariant.core in
    fault_told g.K.Keeper g.K.LiveKeeper.is_outdated g.L.CallLog core.account old.core core.stands c.args.call.now c.step.new.core old.keeper c.step.new.keeper c.args.log.now c.step.new.log
    (string_bytes c.args.text.now) (string_bytes c.step.new.text) c.step.result (c.step.ensures.step core.account core.stands) is
