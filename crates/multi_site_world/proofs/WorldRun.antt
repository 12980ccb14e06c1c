-- What the running world stands for after a list of events.
use Rattle.std.proofs.Common.{◌≡◌, Bool, true, false, cond, List, [], ◌∷◌, ◌++◌, length, refl, sym, ap, subst, ◌∙◌, length-append, arith}
use Rattle.std.proofs.lemmas.List.{append-nil}
use Rattle.std.proofs.lemmas.Bool.{cond-true, cond-false}
use Rattle.multi_site_world.specs.declared.event.Event.{Event}
use Rattle.multi_site_world.specs.declared.event.WorldReply.{WorldReply}
use Rattle.multi_site_world.specs.World.{World, happens, run, world_reply, replies}
use Rattle.multi_site_world.specs.Worlds.{WorldState, StandsForWorld, IsStep, IsRun, is_wanting, served_events, served_replies}
use Rattle.multi_site_world.specs.Safe.{IsSoundStep, AreSoundSteps}
use Rattle.multi_site_world.proofs.WorldCode.{run_more}

-- one more at the end of a list of which the first may be left out
more_after : {X : Type 0} → (b : Bool) (x : X) (xs ys t : List X) → xs ≡ ys ++ t → cond b xs (x ∷ xs) ≡ cond b ys (x ∷ ys) ++ t
more_after true x xs ys t same = same
more_after false x xs ys t same = ap (λ l. x ∷ l) same

served_more : (events : List Event) (answers : List WorldReply) (event : Event) (reply : WorldReply) → length answers ≡ length events → served_events (events ++ event ∷ []) (answers ++ reply ∷ []) ≡ served_events events answers ++ cond (is_wanting reply) [] (event ∷ [])
served_more [] [] event reply same = refl
served_more [] (r ∷ rs) event reply same = absurd (omega (arith, same))
served_more (e ∷ es) [] event reply same = absurd (omega (arith, same))
served_more (e ∷ es) (r ∷ rs) event reply same =
    more_after (is_wanting r) e _ (served_events es rs) _ (served_more es rs event reply (omega (arith, same)))

told_more : (answers : List WorldReply) (reply : WorldReply) → served_replies (answers ++ reply ∷ []) ≡ served_replies answers ++ cond (is_wanting reply) [] (reply ∷ [])
told_more [] reply = refl
told_more (r ∷ rs) reply = more_after (is_wanting r) r _ (served_replies rs) _ (told_more rs reply)

pub replies_more : (events : List Event) (event : Event) (w : World) → replies (events ++ event ∷ []) w ≡ replies events w ++ world_reply (run events w) event ∷ []
replies_more [] event w = refl
replies_more (e ∷ events) event w = ap (λ (l : List WorldReply). world_reply w e ∷ l) (replies_more events event (happens w e))

-- the run of no event
pub run_start : (start : World) (w : WorldState) → StandsForWorld start w → IsRun start [] w []
run_start start w stands = record { number = refl; answered = refl; world = stands }

-- one more event
pub run_step : (start : World) (events : List Event) (event : Event) (w new : WorldState) (answers : List WorldReply) (reply : WorldReply) → IsRun start events w answers → IsStep w new event reply → IsRun start (events ++ event ∷ []) new (answers ++ reply ∷ [])
run_step start events event w new answers reply is step = at (is_wanting reply) refl
  where
    served : List Event
    served = served_events events answers

    number : length (answers ++ reply ∷ []) ≡ length (events ++ event ∷ [])
    number = omega (arith, is.number, length-append answers (reply ∷ []), length-append events (event ∷ []))

    kept : (t : List Event) → cond (is_wanting reply) [] (event ∷ []) ≡ t → served_events (events ++ event ∷ []) (answers ++ reply ∷ []) ≡ served ++ t
    kept t e = served_more events answers event reply is.number ∙ ap (λ (l : List Event). served ++ l) e

    at : (b : Bool) → is_wanting reply ≡ b → IsRun start (events ++ event ∷ []) new (answers ++ reply ∷ [])
    at true e =
        let same : served_events (events ++ event ∷ []) (answers ++ reply ∷ []) ≡ served =
        kept [] (cond-true (is_wanting reply) [] (event ∷ []) e) ∙ append-nil served in
        let told : served_replies (answers ++ reply ∷ []) ≡ served_replies answers =
        told_more answers reply ∙ (ap (λ (l : List WorldReply). served_replies answers ++ l) (cond-true (is_wanting reply) [] (reply ∷ []) e) ∙ append-nil (served_replies answers)) in
        record {
          number = number;
          answered = told ∙ (is.answered ∙ ap (λ (l : List Event). replies l start) (sym same));
          world =
              subst (λ (l : List Event). StandsForWorld (run l start) new) (sym same)
              (subst (λ (m : World). StandsForWorld m new) (cond-true (is_wanting reply) (run served start) (happens (run served start) event) e) (step.world (run served start) is.world));
        }
    at false e =
        let same : served_events (events ++ event ∷ []) (answers ++ reply ∷ []) ≡ served ++ event ∷ [] =
        kept (event ∷ []) (cond-false (is_wanting reply) [] (event ∷ []) e) in
        let told : served_replies (answers ++ reply ∷ []) ≡ served_replies answers ++ reply ∷ [] =
        told_more answers reply ∙ ap (λ (l : List WorldReply). served_replies answers ++ l) (cond-false (is_wanting reply) [] (reply ∷ []) e) in
        record {
          number = number;
          answered =
              told
              ∙ (ap (λ (l : List WorldReply). l ++ reply ∷ []) is.answered
              ∙ (ap (λ (x : WorldReply). replies served start ++ x ∷ []) (step.answered e (run served start) is.world)
              ∙ (sym (replies_more served event start) ∙ ap (λ (l : List Event). replies l start) (sym same))));
          world =
              subst (λ (l : List Event). StandsForWorld (run l start) new) (sym same)
              (subst (λ (m : World). StandsForWorld m new)
              (cond-false (is_wanting reply) (run served start) (happens (run served start) event) e ∙ sym (run_more served event start))
              (step.world (run served start) is.world));
        }

-- one more event at the end of sound ones
pub sound_more : (events : List Event) (old w new : WorldState) (event : Event) (answers : List WorldReply) (reply : WorldReply) → AreSoundSteps old events answers w → IsSoundStep w new event reply → AreSoundSteps old (events ++ event ∷ []) (answers ++ reply ∷ []) new
sound_more [] old w new event [] reply same step = (new, subst (λ (x : WorldState). IsSoundStep x new event reply) (sym same) step, refl)
sound_more [] old w new event (r ∷ rs) reply none step = absurd none
sound_more (e ∷ es) old w new event [] reply none step = absurd none
sound_more (e ∷ es) old w new event (r ∷ rs) reply steps step = (steps.0, steps.1, sound_more es steps.0 w new event rs reply steps.2 step)
