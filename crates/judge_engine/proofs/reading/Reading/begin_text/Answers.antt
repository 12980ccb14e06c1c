use Rattle.std.proofs.Common.{rules, ◌≡◌, [], None, refl}
use Rattle.judge_engine.specs.declared.reading.Reading.{Reading}
use Rattle.judge_engine.proofs.ReadingLemmas.{text_end}
use Rattle.judge_engine.proofs.reading.Reading.begin_text.Goals as goal

pub returns : goal.returns
returns c = λ layout cut keeping earlier bytes ends.
    let old = c.args.self.now in
    let new : Reading = record old { site = None; lines = 0; pending = c.clear.new.self } in
    let empty : new.pending.items ≡ [] = search rules in
    text_end layout cut keeping earlier bytes old new c.requires ends refl refl refl empty refl refl
