use Rattle.std.proofs.Common.{List, sym, subst}
use Rattle.std.proofs.lemmas.Bool.{some_since}
use Rattle.merge_core.specs.declared.delta.Row.{Row}
use Rattle.log_judge.specs.Cut.{cut_account}
use Rattle.log_judge.specs.Stream.{TellAll}
use Rattle.log_judge.proofs.LogsLemmas.{matched, never_open, open_untold, wrong_guess}
use Rattle.log_judge.proofs.stream.Logs.verdict.Goals as goal

pub returns-then-not-is_guess-clause-untold : goal.returns-then-not-is_guess-clause-untold
returns-then-not-is_guess-clause-untold c = λ ts cut all is_cut.
    let accounts = cut_account c.args.layout.now ts cut in
    let told = subst (λ (tables : List (List Row)). TellAll tables accounts) (sym c.as_slice.ensures.value) (c.in_ok-tables.ensures ts cut all is_cut c.in_default.ensures) in
    wrong_guess c.args.self.now.keeping c.args.self.now.sites.items accounts (λ guess. let yes = (c.is_guess.ensures.guess accounts told).1 guess in cc (yes, c.if-not-is_guess.true))

pub returns-clause-untold : goal.returns-clause-untold
returns-clause-untold c = λ ts cut all is_cut.
    let accounts = cut_account c.args.layout.now ts cut in
    let told = subst (λ (tables : List (List Row)). TellAll tables accounts) (sym c.as_slice-2.ensures.value) (c.in_ok-tables.ensures ts cut all is_cut c.in_default.ensures) in
    matched c.compared.result _ _ _ _ (λ gap. open_untold c.args.layout.now ts cut c.args.self.now c.as_slice-2.result.now accounts all told gap) (λ v right. tt) c.compared.ensures

pub returns-clause-all : goal.returns-clause-all
returns-clause-all c = λ all.
    some_since c.compared.result _ _ c.compared.ensures (λ gap. never_open c.args.layout.now c.requires.0 c.requires.1 c.args.self.now c.as_slice-2.result.now c.requires.2 all gap)
