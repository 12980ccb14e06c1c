use Rattle.std.proofs.Common.{◌++◌, ◌∙◌, List, ℕ, ap, refl}
use Rattle.std.specs.Prelude.{string_bytes}
use Rattle.admission_model.specs.View.{view_of}
use Rattle.admission_model.specs.Serving.{reply_of}
use Rattle.live_site.specs.Live.{line_of}
use Rattle.serve_engine.specs.declared.answering.Told.{Told}
use Rattle.serve_engine.specs.Answers.{too_many_line}
use Rattle.serve_engine.specs.Steps.{ServesLine}
use Rattle.serve_engine.proofs.ExchangeLemmas.{was_answered, too_many, too_many_untold, found_no_memory, met_fault, serves_no_more, lost_log, by_written}
use Rattle.serve_engine.proofs.SendLemmas.{unmarked_overfull}
use Rattle.serve_engine.proofs.answering.carry_out.Goals as goal

pub returns-in-Answered-clause-served : goal.returns-in-Answered-clause-served
returns-in-Answered-clause-served g c = λ terms layout line are marked asks a stands.
    was_answered g.K.Keeper g.K.LiveKeeper.is_outdated g.L.CallLog terms a c.args.live.now c.serve.new.self c.args.log.now c.serve.new.log line c.args.call.now
    (string_bytes c.args.text.now) (string_bytes c.serve.new.text) stands asks (string_bytes c.finish_mark.new.text)
    (λ is. c.finish_mark.ensures terms layout (view_of a) are (is ∙ ap (λ (t : List ℕ). t ++ line_of (reply_of (view_of a) c.args.call.now)) marked)) (c.in-Answered.ensures.served a stands) c.in-Answered.ensures.frozen

pub returns-in-Memory-clause-served : goal.returns-in-Memory-clause-served
returns-in-Memory-clause-served g c = λ terms layout line are marked asks a stands.
    found_no_memory g.K.Keeper g.K.LiveKeeper.is_outdated g.L.CallLog terms a c.args.live.now c.serve.new.self c.args.log.now c.serve.new.log line c.args.call.now
    (string_bytes c.args.text.now) (string_bytes c.serve.new.text) stands asks (c.in-Memory.ensures.served a stands) c.in-Memory.ensures.frozen

pub returns-in-StoreFault-clause-served : goal.returns-in-StoreFault-clause-served
returns-in-StoreFault-clause-served g c = λ terms layout line are marked asks a stands.
    met_fault g.K.Keeper g.K.LiveKeeper.is_outdated g.L.CallLog terms a c.args.live.now c.serve.new.self c.args.log.now c.serve.new.log line c.args.call.now
    (string_bytes c.args.text.now) (string_bytes c.serve.new.text) stands asks (c.in-StoreFault.ensures.served a stands) c.in-StoreFault.ensures.frozen

pub returns-in-Frozen-clause-served : goal.returns-in-Frozen-clause-served
returns-in-Frozen-clause-served g c = λ terms layout line are marked asks a stands.
    serves_no_more g.K.Keeper g.K.LiveKeeper.is_outdated g.L.CallLog terms a c.args.live.now c.serve.new.self c.args.log.now c.serve.new.log line c.args.call.now
    (string_bytes c.args.text.now) (string_bytes c.serve.new.text) stands asks (c.in-Frozen.ensures.served a stands) c.in-Frozen.ensures.frozen

pub returns-in-LogFailed-clause-served : goal.returns-in-LogFailed-clause-served
returns-in-LogFailed-clause-served g c = λ terms layout line are marked asks a stands.
    lost_log g.K.Keeper g.K.LiveKeeper.is_outdated g.L.CallLog terms a c.args.live.now c.serve.new.self c.args.log.now c.serve.new.log line c.args.call.now
    (string_bytes c.args.text.now) (string_bytes c.serve.new.text) stands asks (c.in-LogFailed.ensures.served a stands) c.in-LogFailed.ensures.frozen

pub returns-in-TooManySeats-clause-served : goal.returns-in-TooManySeats-clause-served
returns-in-TooManySeats-clause-served g c = λ terms layout line are marked asks a stands.
    let live = c.args.live.now in
    let new = c.serve.new.self in
    let before = string_bytes c.args.text.now in
    let text = string_bytes c.serve.new.text in
    let serving = c.in-TooManySeats.ensures.served a stands in
    let idle = c.in-TooManySeats.ensures.frozen in
    let r = c.in-TooManySeats.r in
    by_written (λ (told : Told) (t : List ℕ). ServesLine g.K.Keeper g.K.LiveKeeper.is_outdated g.L.CallLog terms a live new c.args.log.now c.serve.new.log line told t)
    c.push_too_many.result c.written.result (string_bytes c.push_too_many.new.text) (text ++ too_many_line r) c.written.ensures c.push_too_many.ensures
    (too_many g.K.Keeper g.K.LiveKeeper.is_outdated g.L.CallLog terms a live new c.args.log.now c.serve.new.log line c.args.call.now before text stands asks r (text ++ too_many_line r) (λ e. marked ∙ unmarked_overfull terms (view_of a) c.args.call.now r e) serving idle refl)
    (λ u. too_many_untold g.K.Keeper g.K.LiveKeeper.is_outdated g.L.CallLog terms a live new c.args.log.now c.serve.new.log line c.args.call.now before text stands asks r serving idle)
