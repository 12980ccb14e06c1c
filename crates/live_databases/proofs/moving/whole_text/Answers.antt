use Rattle.std.proofs.Common.{Result, Err, inl, inr, ap, refl}
use Rattle.admission_core.specs.Kept.{DurableState}
use Rattle.durable_keeper.specs.declared.error.KeeperError.{KeeperError}
use Rattle.durable_keeper.specs.declared.error.KeeperError.TheVariants.{Memory}
use Rattle.desk_log.specs.Log.{begun}
use Rattle.live_databases.proofs.LiveLemmas.{found_one}
use Rattle.live_databases.proofs.MoveLemmas.{memory_is_none, memory_no_fault, ok_is_none}
use Rattle.live_databases.proofs.moving.whole_text.Goals as goal

abbrev error : KeeperError → Result DurableState KeeperError
error e = Err e

pub returns-in-Err-clause-told : goal.returns-in-Err-clause-told
returns-in-Err-clause-told g c = inl (record {
  error = c.in-Err.error;
  is_ended = c.unloaded.ensures;
  fault = λ is. c.in-Err.ensures.told (ap error is);
  no_fault = λ is. c.in-Err.ensures.sound (λ same. memory_no_fault (error c.in-Err.error) (ap error is) same);
})

pub returns-in-Err-restore-clause-told : goal.returns-in-Err-restore-clause-told
returns-in-Err-restore-clause-told g c = inr (record {
  first = c.in-Ok.first;
  given = λ d kept honest. found_one c.load_part.result c.in-Ok.first d c.in-Ok.is (c.load_part.ensures.found d kept honest);
  error = c.in-Err-restore.error;
  unfit = c.in-Err-restore.ensures.answer;
  is_ended = c.unfit.ensures;
})

pub returns-clause-told : goal.returns-clause-told
returns-clause-told g c = inl (record { error = Memory; is_ended = refl; fault = memory_is_none; no_fault = λ _. c.in-Ok.ensures.sound (λ same. ok_is_none _ _ same) })

pub returns-in-Ok-core_text-clause-told : goal.returns-in-Ok-core_text-clause-told
returns-in-Ok-core_text-clause-told g c =
    let core = c.in-Ok-restore.ensures.answer in
    record {
      first = c.in-Ok.first;
      given = λ d kept honest. found_one c.load_part.result c.in-Ok.first d c.in-Ok.is (c.load_part.ensures.found d kept honest);
      cells = core.cells;
      sessions = core.sessions;
      is_text = c.in-Ok-core_text.ensures (begun c.args.layout c.args.site c.in-Ok.first) core.stands;
    }
