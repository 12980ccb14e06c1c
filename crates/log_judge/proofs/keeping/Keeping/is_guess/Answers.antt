use Rattle.std.proofs.Common.{List, sym, subst}
use Rattle.merge_core.specs.declared.delta.Row.{Row}
use Rattle.log_judge.specs.declared.keeping.Keeping.{Keeping}
use Rattle.log_judge.specs.Excess.{AreSame}
use Rattle.log_judge.specs.Stream.{IsGuess}
use Rattle.log_judge.proofs.KeepingLemmas.{same_tell}
use Rattle.log_judge.proofs.keeping.Keeping.is_guess.Goals as goal

pub returns-in-Above-clause-guess : goal.returns-in-Above-clause-guess
returns-in-Above-clause-guess c = λ accounts told.
    let it = same_tell c.in-Above.guess.items c.args.tables.now accounts told in (
      λ yes. subst (λ (k : Keeping). IsGuess k accounts) (sym c.in-Above.is) (it.0 (subst (λ (rows : List (List Row)). AreSame rows c.args.tables.now) c.as_slice.ensures.value (c.are_same.ensures.0 yes))),
      λ tells. c.are_same.ensures.1 (subst (λ (rows : List (List Row)). AreSame rows c.args.tables.now) (sym c.as_slice.ensures.value) (it.1 (subst (λ (k : Keeping). IsGuess k accounts) c.in-Above.is tells))),
    )
