use Rattle.std.proofs.Common.{◌∷◌, [], ◌++◌, refl, sym, subst}
use Rattle.log_file.specs.Logged.{LogState, HasLogged}
use Rattle.log_file.proofs.LogLemmas.{logged_less}
use Rattle.log_file.proofs.file_log.FileLogCallLog.take_back.Goals as goal

pub returns-clause-taken : goal.returns-clause-taken
returns-clause-taken g c = λ first before last logged done.
    let here = subst (λ (l : LogState g.row.F.Denot). HasLogged g.F.LogFile first (before ++ last ∷ []) l) (sym c.self.view_is) logged in
    logged_less g.F.LogFile first _ _ before last c.in-Some.last here c.in-Some.is (λ start steps did. c.cut.ensures.done start steps did c.if-not-cut.false) refl
    refl refl
