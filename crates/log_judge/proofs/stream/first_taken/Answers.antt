use Rattle.std.proofs.Common.{List, subst, sym}
use Rattle.merge_core.specs.declared.delta.Row.{Row}
use Rattle.log_replay.proofs.ListLemmas.{parts, none_left}
use Rattle.log_judge.specs.Excess.{IsFirstAhead, NoneAhead}
use Rattle.log_judge.specs.Stream.{AreNotAhead}
use Rattle.log_judge.proofs.LogsLemmas.{found_next, found_one, found_none}
use Rattle.log_judge.proofs.stream.first_taken.Goals as goal

pub returns-in-Some-clause-found : goal.returns-in-Some-clause-found
returns-in-Some-clause-found c = λ accounts lists to taken told.
    let so = c.taken.invariant.found accounts lists to taken told in
    found_one c.args.tables.now lists accounts to told so.0 c.taken.rest.now _ c.it-item.result c.in-Some.named.rec c.in-Some.named.origin
    (parts c.taken.rest.now c.it-item.result c.in-len1-up.len_at_least c.it-item.is) so.1 so.2
    (subst (λ (rows : List Row). IsFirstAhead c.args.tables.now rows c.in-Some.named.rec c.in-Some.named.origin) c.rows.ensures.rows c.in-Some.ensures)

pub taken-preserved : goal.taken-preserved
taken-preserved c =
    let split = parts c.taken.rest.now c.it-item.result c.in-len1-up.len_at_least c.it-item.is in
    let here = subst (λ (rows : List Row). NoneAhead c.args.tables.now rows) c.rows.ensures.rows c.in_default-first_ahead.ensures in
    record {
      none = λ none. c.taken.invariant.none (subst (AreNotAhead c.args.tables.now) (sym split) (here, none));
      found = λ accounts lists to taken told.
          let so = c.taken.invariant.found accounts lists to taken told in
          found_next c.args.tables.now lists accounts to told so.0 c.taken.rest.now _ c.it-item.result split so.1 so.2 here;
    }

pub returns-clause-none : goal.returns-clause-none
returns-clause-none c = c.taken.invariant.none (subst (AreNotAhead c.args.tables.now) (sym (none_left c.taken.rest.now c.in_default.len_below)) tt)

pub returns-clause-found : goal.returns-clause-found
returns-clause-found c = λ accounts lists to taken told.
    let so = c.taken.invariant.found accounts lists to taken told in
    found_none c.args.tables.now lists accounts to told so.0 c.taken.rest.now (none_left c.taken.rest.now c.in_default.len_below) so.1 so.2
