-- A session whose place was there already stands a second time.
use Rattle.std.proofs.Common.{ap, sym, ◌∙◌, arith, is_some, true≢false}
use Rattle.store_rows.specs.declared.content.StoredSession.{StoredSession}
use Rattle.store_rows.specs.declared.content.Stage.TheVariants.{Reader}
use Rattle.store_content.proofs.IndexLemmas.{none_from, once_front, once_none, place_front}
use Rattle.store_content.proofs.index.places_of.Goals as goal

none : StoredSession
none = record { r = 0; h = 0; stage = Reader; place = 0 }

pub returns-then-is_some-clause-once : goal.returns-then-is_some-clause-once
unfolding none
returns-then-is_some-clause-once c = (
  λ e. absurd (true≢false (sym e)),
  λ once. absurd (
      let absent = once_none c.args.sessions.now c.sessions.left none (omega arith) c.sessions.invariant.within once in
      true≢false (sym c.if-is_some.true ∙ c.is_some.ensures ∙ ap is_some (c.in_ok-insert.ensures.old ∙ c.sessions.invariant.places _ _ ∙ absent))
      ),
)

pub sessions-preserved : goal.sessions-preserved
unfolding none
sessions-preserved c = record {
  within = omega arith;
  places = place_front c.args.sessions.now c.sessions.left none _ _ (omega arith) c.sessions.invariant.within (λ q. c.in_ok-insert.ensures.updates.0 q) c.sessions.invariant.places;
  once = once_front c.args.sessions.now c.sessions.left none (omega arith) c.sessions.invariant.within
      (sym (c.sessions.invariant.places _ _) ∙ sym c.in_ok-insert.ensures.old ∙ none_from _ (sym c.is_some.ensures ∙ c.if-is_some.false))
      c.sessions.invariant.once;
  unique = c.in_ok-insert.ensures.unique;
}
