use Rattle.std.proofs.Common.{refl, sym, subst}
use Rattle.line_conversation.proofs.AheadLemmas.{case_true}
use Rattle.program_shell.specs.OneLine.{OneLineState, TookPlace}
use Rattle.program_shell.proofs.TalkLemmas.{once_told}
use Rattle.program_shell.proofs.one_line.OneLineConversation.tell.Goals as goal

pub returns-clause-told : goal.returns-clause-told
returns-clause-told g c = λ first before was done.
    let i = c.self.inside in
    let old : OneLineState = record { line = i.line.now; taken = i.taken; sink = i.sink } in
    let new : OneLineState = record { line = i.line.now; taken = i.taken; sink = c.write_and_flush.new.self } in
    once_told first old new before (subst (λ (s : OneLineState). TookPlace first before s) (sym c.self.view_is) was) c.args.text.now refl refl
    (case_true _ _ _ done c.write_and_flush.ensures.written)
