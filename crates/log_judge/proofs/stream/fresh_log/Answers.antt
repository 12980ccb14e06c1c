use Rattle.std.proofs.Common.{rules, refl, sym, ap, ◌∙◌, Option, ℕ}
use Rattle.log_replay.specs.Stream.{count_of, length_by}
use Rattle.log_judge.specs.Cut.{runs_at}
use Rattle.log_judge.proofs.StreamLemmas.{fresh_is}
use Rattle.log_judge.proofs.stream.fresh_log.Goals as goal

pub returns : goal.returns
returns c = λ keeping layout ts lengths i same.
    fresh_is keeping layout ts lengths i _ (c.new.ensures.replaying layout i (runs_at ts i)) c.new.ensures.start (search rules) refl
    (same ∙ ap (λ (o : Option ℕ). length_by o (count_of (runs_at ts i))) (sym c.new.ensures.cut))
