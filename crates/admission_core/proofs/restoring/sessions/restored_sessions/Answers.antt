use Rattle.std.proofs.Common.{is_some, get_or, sym, ap, ◌∙◌}
use Rattle.std.proofs.lemmas.Bool.{false≢true}
use Rattle.admission_core.proofs.restoring.sessions.restored_sessions.Goals as goal

pub returns-then-not-all_add_up : goal.returns-then-not-all_add_up
returns-then-not-all_add_up c = λ agree.
    false≢true (sym c.if-not-all_add_up.true ∙ (c.all_add_up.ensures c.args.sessions.now
    (λ r below. ap (λ xs. get_or xs r 0) c.as_slice.ensures.value ∙ c.in_ok-inside.ensures.sums r below)
    (λ r below. ap (λ xs. get_or xs r 0) c.as_slice-2.ensures.value ∙ c.in_ok-unfinished.ensures.sums r below)).1 agree.sums)

pub returns : goal.returns
returns c = (
  record {
    each = c.are_sessions.ensures.0 c.if-not-are_sessions.false;
    once = c.in_ok-held.ensures.once.0 (ap is_some c.in-Some.is);
    sums = (c.all_add_up.ensures c.args.sessions.now
        (λ r below. ap (λ xs. get_or xs r 0) c.as_slice.ensures.value ∙ c.in_ok-inside.ensures.sums r below)
        (λ r below. ap (λ xs. get_or xs r 0) c.as_slice-2.ensures.value ∙ c.in_ok-unfinished.ensures.sums r below)).0 c.if-not-all_add_up.false;
  },
  rw c.in-Some.is at c.in_ok-held.ensures.sessions,
)
