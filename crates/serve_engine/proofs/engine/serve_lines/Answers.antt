use Rattle.std.proofs.Common.{refl, sym, subst}
use Rattle.admission_core.specs.Kept.{durable_of}
use Rattle.exit_status.specs.declared.status.Status.{Status}
use Rattle.serve_engine.specs.Ending.{EndsSite}
use Rattle.serve_engine.proofs.EndLemmas.{works_first, ends_well, ends_early, terms_there}
use Rattle.serve_engine.proofs.engine.serve_lines.Goals as goal

pub loop-count-init : goal.loop-count-init
loop-count-init g c = record {
  works = λ terms a are stands.
      works_first g.K.Keeper g.K.LiveKeeper.is_outdated g.C.Conversation g.L.CallLog terms a
      c.args.live.now c.args.conversation.now c.args.log.now c.requires stands
      (g.met.C.Conversation.begins c.args.conversation.now) (g.met.L.CallLog.begins c.args.log.now);
  layout = refl;
  site = refl;
  honest = λ honest. honest;
}

pub returns-in-End-clause-ended : goal.returns-in-End-clause-ended
returns-in-End-clause-ended g c = λ terms a are stands.
    let live = c.args.live.now in
    let talk = c.args.conversation.now in
    let log = c.args.log.now in
    let l = c.loop-count in
    let s = c.take_turn.new in
    let both =
    c.in-End.ensures.turned terms a (durable_of a) live.keeper talk log l.count (terms_there terms c.args.marker.now l.invariant.layout are)
    (l.invariant.works terms a are stands) in
    subst (λ (x : Status). EndsSite g.K.Keeper g.K.LiveKeeper.is_outdated g.C.Conversation g.L.CallLog terms a (durable_of a) live.keeper s.live.keeper talk s.conversation log s.log x)
    (sym c.ended.ensures)
    (ends_well g.K.Keeper g.K.LiveKeeper.is_outdated g.C.Conversation g.L.CallLog terms a (durable_of a) live.keeper s.live talk s.conversation log s.log l.count both.0 both.1)

pub returns-in-Failed-clause-ended : goal.returns-in-Failed-clause-ended
returns-in-Failed-clause-ended g c = λ terms a are stands.
    let live = c.args.live.now in
    let talk = c.args.conversation.now in
    let log = c.args.log.now in
    let l = c.loop-count in
    let s = c.take_turn.new in
    ends_early g.K.Keeper g.K.LiveKeeper.is_outdated g.C.Conversation g.L.CallLog terms a (durable_of a) live.keeper s.live talk s.conversation log s.log
    (c.in-Failed.ensures.turned terms a (durable_of a) live.keeper talk log l.count (terms_there terms c.args.marker.now l.invariant.layout are)
    (l.invariant.works terms a are stands))
