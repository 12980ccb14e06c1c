use Rattle.std.proofs.Common.{inl, inr, refl}
use Rattle.stored_site.proofs.serving.serve_over.Goals as goal

pub returns-in-Err : goal.returns-in-Err
returns-in-Err g c = inr (record {
  error = c.in-Err.error;
  opened = record {
    stored = c.in-Err.ensures.store;
    blank = c.in-Err.ensures.blank;
    settles = c.in-Err.ensures.settles;
    own = c.in-Err.ensures.own;
    settles_or = c.in-Err.ensures.settles_or;
    own_or = c.in-Err.ensures.own_or;
    left = c.in-Err.ensures.left;
    left_or = c.in-Err.ensures.left_or;
    fault = c.in-Err.ensures.fault;
    judged = c.in-Err.ensures.judged;
    current = c.in-Err.ensures.current;
    beside = c.in-Err.ensures.beside;
  };
  unread = refl;
  silent = refl;
  status = c.refusal_status.ensures;
})

pub returns : goal.returns
returns g c = inl (record {
  keeper = c.in-Ok.keeper;
  keeper_after = c.site_engine-ended.result.1;
  opened = record {
    stored = c.in-Ok.ensures.store;
    blank = c.in-Ok.ensures.blank;
    settles = c.in-Ok.ensures.settles;
    own = c.in-Ok.ensures.own;
    settles_or = c.in-Ok.ensures.settles_or;
    own_or = c.in-Ok.ensures.own_or;
    left = c.in-Ok.ensures.left;
    left_or = c.in-Ok.ensures.left_or;
    fault = c.in-Ok.ensures.fault;
    judged = c.in-Ok.ensures.judged;
    current = c.in-Ok.ensures.current;
    beside = c.in-Ok.ensures.beside;
  };
  ends = c.site_engine-ended.ensures.ended;
  handed = c.into_connection.ensures;
})
