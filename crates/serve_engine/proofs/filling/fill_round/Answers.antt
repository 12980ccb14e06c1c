use Rattle.std.proofs.Common.{◌+◌, ◌-◌, ◌≤◌, ◌∙◌, ◌∷◌, [], ℕ, inl, inr, arith, refl}
use Rattle.line_conversation.specs.Turns.{Whole}
use Rattle.serve_engine.proofs.EndLemmas.{terms_there}
use Rattle.serve_engine.proofs.TakeLemmas.{more_room}
use Rattle.serve_engine.proofs.filling.fill_round.Goals as goal

pub loop-left-init : goal.loop-left-init
loop-left-init g c = record {
  filling = λ terms a k talk turns are f.
      let less : 1 ≤ c.args.most + 1 - c.args.most = omega arith in
      more_room g.K.Keeper g.B.Base.base g.C.Conversation terms a k talk turns c.args.held.now c.args.round.now c.args.conversation.now
      (Whole (g.C.Conversation.kept c.args.conversation.now) ∷ []) 1 (c.args.most + 1 - c.args.most) less f;
  room = omega arith;
  few = inr (omega arith);
  running = λ running. running;
  layout = refl;
  site = refl;
  honest = λ honest. honest;
}

pub loop-left-preserved : goal.loop-left-preserved
loop-left-preserved g c =
    let l = c.loop-left in
    let s = c.take_line.new in
    let most = c.args.most in
    let n : ℕ = most + 1 - l.left in
    record {
      filling = λ terms a k talk turns are f.
          let less : n + 1 ≤ most + 1 - (l.left - 1) = omega (arith, l.invariant.room, c.loop-left-test.true) in
          more_room g.K.Keeper g.B.Base.base g.C.Conversation terms a k talk turns s.held s.round s.conversation (Whole (g.C.Conversation.kept s.conversation) ∷ []) (n + 1) (most + 1 - (l.left - 1)) less
          (c.in-More.ensures.taken terms a k talk turns n (terms_there terms c.args.marker.now l.invariant.layout are) (l.invariant.filling terms a k talk turns are f));
      room = omega (arith, l.invariant.room);
      few = inl (omega (arith, l.invariant.room, c.loop-left-test.true));
      running = λ running. c.in-More.ensures.running (l.invariant.running running) (λ is. absurd (cc));
      layout = c.in-More.ensures.layout ∙ l.invariant.layout;
      site = c.in-More.ensures.site ∙ l.invariant.site;
      honest = λ honest. l.invariant.honest (c.in-More.ensures.honest honest);
    }

pub returns-in-Full-clause-filled : goal.returns-in-Full-clause-filled
returns-in-Full-clause-filled g c = λ terms a k talk turns are f.
    let l = c.loop-left in
    let n : ℕ = c.args.most + 1 - l.left in
    let most : n + 1 ≤ c.args.most = omega (arith, l.invariant.room, c.loop-left-test.true) in
    (n + 1, inl most, c.in-Full.ensures.taken terms a k talk turns n (terms_there terms c.args.marker.now l.invariant.layout are) (l.invariant.filling terms a k talk turns are f))

pub returns-in-Broken-clause-filled : goal.returns-in-Broken-clause-filled
returns-in-Broken-clause-filled g c = λ terms a k talk turns are f.
    let l = c.loop-left in
    let n : ℕ = c.args.most + 1 - l.left in
    let most : n + 1 ≤ c.args.most = omega (arith, l.invariant.room, c.loop-left-test.true) in
    (n + 1, inl most, c.in-Broken.ensures.taken terms a k talk turns n (terms_there terms c.args.marker.now l.invariant.layout are) (l.invariant.filling terms a k talk turns are f))

pub returns-clause-filled : goal.returns-clause-filled
returns-clause-filled g c = λ terms a k talk turns are f.
    let l = c.loop-left in
    let n : ℕ = c.args.most + 1 - l.left in
    (n, l.invariant.few, c.take_last.ensures.filled terms a k talk turns n (terms_there terms c.args.marker.now l.invariant.layout are) (l.invariant.filling terms a k talk turns are f))
