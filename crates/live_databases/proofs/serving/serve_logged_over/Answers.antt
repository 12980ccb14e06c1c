use Rattle.std.proofs.Common.{rules, inl, inr, refl}
use Rattle.live_databases.proofs.LiveLemmas.{found_one}
use Rattle.live_databases.proofs.serving.serve_logged_over.Goals as goal

pub returns-in-Err : goal.returns-in-Err
returns-in-Err g c = inr (inr (inr (record {
  error = c.in-Err.error;
  opened = c.in-Err.ensures.opened;
  silent = refl;
  is_refused = c.refused_store.ensures;
  unmade = refl;
})))

pub returns-in-Err-load : goal.returns-in-Err-load
returns-in-Err-load g c = inr (inr (inl (record {
  keeper = c.in-Ok.opened.0;
  keeper_now = c.load.new.self;
  opened = c.in-Ok.ensures.opened;
  keeps_on = search rules;
  error = c.in-Err-load.error;
  fault = search rules;
  no_fault = search rules;
  silent = refl;
  is_unloaded = search rules;
  handed = search rules;
})))

pub returns-in-Err-open_log : goal.returns-in-Err-open_log
returns-in-Err-open_log g c = inr (inl (record {
  keeper = c.in-Ok.opened.0;
  keeper_now = c.load.new.self;
  opened = c.in-Ok.ensures.opened;
  keeps_on = search rules;
  first = c.in-Ok-load.first;
  loaded = λ d kept honest. found_one c.load.result c.in-Ok-load.first d c.in-Ok-load.is (c.load.ensures.found d kept honest);
  error = c.in-Err-open_log.error;
  not_opened = search rules;
  silent = refl;
  is_unlogged = search rules;
  handed = search rules;
}))

pub returns : goal.returns
returns g c = inl (record {
  keeper = c.in-Ok.opened.0;
  keeper_now = c.load.new.self;
  keeper_after = c.serve_engine-status.result.1;
  opened = c.in-Ok.ensures.opened;
  keeps_on = search rules;
  first = c.in-Ok-load.first;
  loaded = λ d kept honest. found_one c.load.result c.in-Ok-load.first d c.in-Ok-load.is (c.load.ensures.found d kept honest);
  log = c.in-Ok-open_log.log;
  log_opened = search rules;
  log_after = c.serve_engine-status.new.log;
  status = c.serve_engine-status.result.0;
  ends = c.serve_engine-status.ensures.ended;
  is_status = refl;
  handed = c.into_connection-2.ensures;
})
