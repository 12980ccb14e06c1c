use Rattle.std.proofs.Common.{rules, ◌≡◌, ◌<◌, length, arith}
use Rattle.transcript_reader.proofs.ShownLemmas.{first_listed, later_step}
use Rattle.transcript_reader.proofs.shown.behind_list.Goals as goal

pub loop-i-init : goal.loop-i-init
loop-i-init c = λ t e.
    let some : 0 < length c.args.numbers.now = search rules in
    first_listed c.args.literal.now c.args.numbers.now c.args.bytes.now c.in_ok-rest.rest.now t some c.in_ok-rest.ensures e

pub loop-i-preserved : goal.loop-i-preserved
loop-i-preserved c = λ t e.
    let more : c.loop-i.i < length c.args.numbers.now = search rules in
    c.loop-i.invariant t (later_step c.args.numbers.now c.loop-i.rest.now c.in_ok-rest-2.rest.now t c.loop-i.i more c.in_ok-rest-2.ensures e)
