use Rattle.std.proofs.Common.{inl, inr, refl}
use Rattle.live_databases.proofs.rounds.serve_rounds_over.Goals as goal

pub returns-in-Err : goal.returns-in-Err
returns-in-Err g c = inr (record {
  error = c.in-Err.error;
  opened = c.in-Err.ensures.opened;
  silent = refl;
  is_refused = c.refused_store.ensures;
})

pub returns : goal.returns
returns g c = inl (record {
  keeper = c.in-Ok.opened.0;
  made = c.in-Ok.opened.1;
  keeper_after = c.serve_together-status.result.1;
  status = c.serve_together-status.result.0;
  opened = c.in-Ok.ensures.opened;
  ends = c.serve_together-status.ensures.ended;
  is_status = refl;
  handed = c.into_connection.ensures;
})
