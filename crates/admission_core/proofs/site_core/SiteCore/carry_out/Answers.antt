-- An operation that is accepted is allowed, and leaves a core that stands for the account after it.
use Rattle.std.proofs.Common.{◌≡◌, ℕ, ap, refl, subst, sym, ◌∙◌}
use Rattle.admission_model.specs.declared.ask.Call.TheVariants.{Ask as AskCall}
use Rattle.admission_model.specs.Account.{seats_in}
use Rattle.admission_model.specs.Serving.{after}
use Rattle.admission_core.specs.Carrying.{IsAllowed}
use Rattle.admission_core.specs.Core.{Core, Stands}
use Rattle.admission_core.specs.Prepared.{IsAccepted, IsOperationOf}
use Rattle.admission_core.proofs.AllowedLemmas.{accepted_allowed}
use Rattle.admission_core.proofs.CoreLemmas.{is_core}
use Rattle.admission_core.proofs.StandsLemmas.{did_as}
use Rattle.admission_core.proofs.site_core.SiteCore.carry_out.Goals as goal

pub carry_out-requires-clause-allowed : goal.carry_out-requires-clause-allowed
carry_out-requires-clause-allowed c =
    let k = c.self.inside in
    let old : Core = record { layout = k.layout; site = k.site; book = k.book; sessions = k.sessions.sessions; room = k.sessions.room } in
    let same : c.args.self.now ≡ old = sym c.self.view_is in
    let accepted = subst (λ (x : Core). IsAccepted x c.args.operation) same c.requires.accepted in
    let seats = c.from-seats.ensures ∙ (c.seats.ensures ∙ (ap (λ (x : Core). seats_in x.layout c.record_of.result) same ∙ ap (seats_in old.layout) c.record_of.ensures)) in
    subst (λ (n : ℕ). IsAllowed old.book old.sessions old.site n c.args.operation) (sym seats)
    (accepted_allowed old c.self.invariant c.args.operation accepted)

pub invariant_of-self : goal.invariant_of-self
invariant_of-self c =
    let k = c.self.inside in
    let old : Core = record { layout = k.layout; site = k.site; book = k.book; sessions = k.sessions.sessions; room = k.sessions.room } in
    let same : c.args.self.now ≡ old = sym c.self.view_is in
    let accepted = subst (λ (x : Core). IsAccepted x c.args.operation) same c.requires.accepted in
    let seats = c.from-seats.ensures ∙ (c.seats.ensures ∙ (ap (λ (x : Core). seats_in x.layout c.record_of.result) same ∙ ap (seats_in old.layout) c.record_of.ensures)) in
    let is = c.self.invariant in
    is_core _ is.layout (after is.account (AskCall accepted.0))
    (did_as is.account old _ is.stands accepted.0 c.args.operation c.from-seats.result accepted.1 seats refl refl c.carry_out.ensures.book c.carry_out.ensures.counters c.carry_out.ensures.sessions)

pub returns : goal.returns
returns c = λ ask it a stands.
    let k = c.self.inside in
    let old : Core = record { layout = k.layout; site = k.site; book = k.book; sessions = k.sessions.sessions; room = k.sessions.room } in
    let same : c.args.self.now ≡ old = sym c.self.view_is in
    let seats = c.from-seats.ensures ∙ (c.seats.ensures ∙ (ap (λ (x : Core). seats_in x.layout c.record_of.result) same ∙ ap (seats_in old.layout) c.record_of.ensures)) in
    did_as a old _ (subst (Stands a) same stands) ask c.args.operation c.from-seats.result
    (subst (λ (x : Core). IsOperationOf x ask c.args.operation) same it) seats refl refl c.carry_out.ensures.book c.carry_out.ensures.counters c.carry_out.ensures.sessions
