use Rattle.std.proofs.Common.{inr, refl}
use Rattle.std.proofs.lemmas.Bool.{both_ways}
use Rattle.serve_engine.proofs.MovedLemmas.{taken_err, taken_ok}
use Rattle.serve_engine.proofs.moved_texts.sent_text.Goals as goal

pub returns-then-not-alone : goal.returns-then-not-alone
returns-then-not-alone c = record {
  moved = c.args.moved;
  at_moved = c.requires;
  sent = λ on is. absurd (both_ways _ c.if-not-alone.true on);
  together = λ _. refl;
  other = λ _. refl;
}

pub returns-then-not-is_other_group : goal.returns-then-not-is_other_group
returns-then-not-is_other_group c = record {
  moved = c.args.moved;
  at_moved = c.requires;
  sent = λ on is. absurd (both_ways _ c.if-not-is_other_group.true (c.is_other_group.ensures.1 is));
  together = λ _. refl;
  other = λ _. refl;
}

pub returns-in-Ok-taken : goal.returns-in-Ok-taken
returns-in-Ok-taken c = inr (c.if-not-alone.false, taken_ok _ _ _ _ c.in-Ok-taken.is c.in-Ok.ensures)

pub returns-in-Err : goal.returns-in-Err
returns-in-Err c = record {
  moved = c.args.moved;
  at_moved = c.requires;
  sent = λ on is. taken_err _ _ _ _ c.in-Err.is c.in-Ok.ensures;
  together = λ off. absurd (both_ways _ off c.if-not-alone.false);
  other = λ ne. absurd (ne (c.is_other_group.ensures.0 c.if-not-is_other_group.false));
}
