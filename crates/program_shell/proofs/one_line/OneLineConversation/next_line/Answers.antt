use Rattle.std.proofs.Common.{true, refl, sym, subst}
use Rattle.program_shell.specs.OneLine.{OneLineState, TookPlace}
use Rattle.program_shell.proofs.TalkLemmas.{once_heard}
use Rattle.program_shell.proofs.one_line.OneLineConversation.next_line.Goals as goal

pub returns-clause-heard : goal.returns-clause-heard
returns-clause-heard g c = λ first before was.
    let i = c.self.inside in
    let old : OneLineState = record { line = i.line.now; taken = i.taken; sink = i.sink } in
    let new : OneLineState = record { line = i.line.now; taken = true; sink = i.sink } in
    once_heard first old new before (subst (λ (s : OneLineState). TookPlace first before s) (sym c.self.view_is) was) c.if-self.false refl refl refl
