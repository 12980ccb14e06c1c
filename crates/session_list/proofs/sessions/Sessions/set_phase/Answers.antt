-- The write under the pair changes the phase of its entry, which keeps its number.
use Rattle.std.proofs.Common.{◌≡◌, ap, sym, subst, ◌∙◌, IsSome, true≢false}
use Rattle.std.specs.Option.{option_map, option_copied_mut}
use Rattle.session_list.specs.declared.sessions.Place.{Place}
use Rattle.session_list.specs.declared.sessions.Sessions.TheInside.{Inside}
use Rattle.session_list.specs.Sessions.{Held, phase_in, with_phase}
use Rattle.session_list.specs.Kept.{IsKept, held_by}
use Rattle.session_list.proofs.KeptLemmas.{renews_under, place_with, phase_in-sessions_by, IsOnce-sessions_by}
use Rattle.session_list.proofs.SessionsLemmas.{phase_in-with_phase}
use Rattle.session_list.proofs.sessions.Sessions.set_phase.Goals as goal
use Rattle.session_list.proofs.sessions.Sessions.set_phase.Goals.{in-Some, in_default}

-- what the fields are after the change
record Changed (c : goal.Joined-get_mut) (k : Inside) : Type 0 where
  kept : IsKept k
  sessions : (held_by k).sessions ≡ with_phase c.args.self.now.sessions c.args.r c.args.h c.args.phase

step : (c : goal.Joined-get_mut) → Changed c c.match-get_mut.self-inside
step c =
    elim c.match-get_mut.branch [
      | in-Some w ↦
          let place = w.in-Some.place.now in
          let found = sym c.get_mut.ensures.value ∙ ap option_copied_mut w.in-Some.is in
          let wrote = (c.get_mut.follows.holds (place_with c.args.phase place)).0 in
          let renewed = renews_under _ _ _ c.args.r c.args.h c.args.phase place c.self.invariant found wrote in
          subst (Changed c) (sym w.self-inside-is) (record {
            kept = renewed.numbered;
            sessions = renewed.sessions ∙ ap (λ (v : Held). with_phase v.sessions c.args.r c.args.h c.args.phase) c.self.view_is;
          })
      | in_default w ↦
          let none = ap (option_map (λ (p : Place). p.phase)) (sym c.get_mut.ensures.value ∙ ap option_copied_mut w.in_default.is) in
          let read = sym (ap (λ (v : Held). phase_in v.sessions c.args.r c.args.h) c.self.view_is) ∙ phase_in-sessions_by _ _ c.self.invariant c.args.r c.args.h ∙ none in
          absurd (true≢false (sym (subst IsSome read c.requires)))
    ]

pub invariant_of-self : goal.invariant_of-self
invariant_of-self c = (step c).kept

pub returns-clause-sessions : goal.returns-clause-sessions
returns-clause-sessions c = (step c).sessions

pub returns-clause-phases : goal.returns-clause-phases
returns-clause-phases c =
    λ q g. ap (λ l. phase_in l q g) (step c).sessions
    ∙ phase_in-with_phase c.args.self.now.sessions c.args.r c.args.h c.args.phase q g c.requires

pub returns-clause-once : goal.returns-clause-once
returns-clause-once c = IsOnce-sessions_by _ _ (step c).kept
