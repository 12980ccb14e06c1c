use Rattle.std.proofs.Common.{◌<◌, length, get_or, arith}
use Rattle.std.proofs.lemmas.List.{length-set}
use Rattle.session_list.specs.declared.session.Phase.TheVariants.{Reader}
use Rattle.session_list.specs.declared.session.Session.{Session}
use Rattle.admission_model.specs.Account.{seats_in, weight}
use Rattle.admission_core.proofs.RestoringLists.{few_read, sums_read}
use Rattle.admission_core.proofs.restoring.sessions.seats_inside.Goals as goal

pub loop-session-preserved : goal.loop-session-preserved
loop-session-preserved c =
    let d : Session = record { r = 0; h = 0; phase = Reader } in
    let k = c.loop-session.session-index in
    let n = length c.args.layout.now.records in
    let there : (get_or c.args.sessions.now k d).r < n = (c.requires k d c.loop-session-test.true).0 in
    let place : c.from-r.result < length c.loop-session.sums.items = omega (arith, c.from-r.ensures, there, c.loop-session.invariant.size) in
    record {
      size = simp length-set c.loop-session.invariant.size;
      few = few_read c.loop-session.sums.items c.from-r.result c.index_mut.result.now c.weight_of.result k place c.index_mut.ensures.value
          (omega (arith, c.weight_of.ensures.few)) c.loop-session.invariant.few;
      sums = sums_read (λ r. weight (seats_in c.args.layout.now r)) n c.loop-session.sums.items c.args.sessions.now k d c.from-r.result c.index_mut.result.now c.weight_of.result c.loop-session-test.true
          c.from-r.ensures c.index_mut.ensures.value c.weight_of.ensures.weighs c.loop-session.invariant.size there c.loop-session.invariant.sums;
    }
