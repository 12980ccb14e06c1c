use Rattle.std.proofs.Common.{rules, ◌≡◌, None, refl}
use Rattle.judge_engine.proofs.ReadingLemmas.{bytes_lines}
use Rattle.judge_engine.specs.declared.reading.Reading.{Reading}
use Rattle.judge_engine.proofs.reading.Reading.add.Goals as goal

pub returns-in_ok-extend_from_slice-in-Some : goal.returns-in_ok-extend_from_slice-in-Some
returns-in_ok-extend_from_slice-in-Some c = λ layout cut keeping earlier bytes reads.
    let old = c.args.self.now in
    let mid = c.read_pending.new.self in
    let new : Reading = record mid { pending = c.extend_from_slice.new.self } in
    let none : old.refused ≡ None = search rules in
    let rest : new.pending.items ≡ c.in-Some.rest.now = search rules in
    bytes_lines layout cut keeping earlier bytes c.args.part.now c.in-Some.lines.now c.in-Some.rest.now old mid new none c.in-Some.ensures.0 c.in-Some.ensures.1 reads
    (c.in_ok-read_pending-in-Some.ensures.read layout cut keeping earlier) refl refl refl refl refl rest
