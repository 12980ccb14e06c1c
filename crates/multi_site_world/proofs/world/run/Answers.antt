use Rattle.std.proofs.Common.{[], ◌∷◌, ◌++◌, List, get_or, take, refl, sym, subst}
use Rattle.std.proofs.lemmas.List.{take_more}
use Rattle.admission_model.specs.declared.ask.Ask.TheVariants.{Read}
use Rattle.multi_site_world.specs.declared.event.Event.{Event}
use Rattle.multi_site_world.specs.declared.event.Event.TheVariants.{Call}
use Rattle.multi_site_world.specs.declared.event.WorldReply.{WorldReply}
use Rattle.multi_site_world.specs.Worlds.{IsRun}
use Rattle.multi_site_world.specs.Safe.{AreSoundSteps}
use Rattle.multi_site_world.proofs.WorldRun.{run_start, run_step, sound_more}
use Rattle.multi_site_world.proofs.world.run.Goals as goal

pub loop-event-init : goal.loop-event-init
loop-event-init c = record {
  run = λ m stands. subst (IsRun m [] c.args.world.now) (sym c.new-replies.ensures.items) (run_start m c.args.world.now stands);
  safe = c.requires;
  steps = subst (λ (rs : List WorldReply). AreSoundSteps c.args.world.now [] rs c.args.world.now) (sym c.new-replies.ensures.items) refl;
}

pub loop-event-preserved : goal.loop-event-preserved
loop-event-preserved c =
    let events = c.args.events.now in
    let i = c.loop-event.event-index in
    let event : Event = get_or events i (Call 0 (Read 0 0)) in
    record {
      run = λ m stands.
          subst (λ (es : List Event). IsRun m es c.step-reply.new.self c.push.new.self.items) (sym (take_more events i (Call 0 (Read 0 0)) c.loop-event-test.true))
          (subst (λ (rs : List WorldReply). IsRun m (take i events ++ event ∷ []) c.step-reply.new.self rs) (sym c.in_ok-push.ensures.items)
          (run_step m (take i events) event c.loop-event.world c.step-reply.new.self c.loop-event.replies.items c.step-reply.result (c.loop-event.invariant.run m stands) c.step-reply.ensures.step));
      safe = c.step-reply.ensures.safe;
      steps =
          subst (λ (es : List Event). AreSoundSteps c.args.world.now es c.push.new.self.items c.step-reply.new.self) (sym (take_more events i (Call 0 (Read 0 0)) c.loop-event-test.true))
          (subst (λ (rs : List WorldReply). AreSoundSteps c.args.world.now (take i events ++ event ∷ []) rs c.step-reply.new.self) (sym c.in_ok-push.ensures.items)
          (sound_more (take i events) c.args.world.now c.loop-event.world c.step-reply.new.self event c.loop-event.replies.items c.step-reply.result c.loop-event.invariant.steps
          (record {
            step = c.step-reply.ensures.step;
            lawful = c.step-reply.ensures.lawful;
            safe = c.step-reply.ensures.safe;
            equal_books = c.step-reply.ensures.equal_books;
          })));
    }
