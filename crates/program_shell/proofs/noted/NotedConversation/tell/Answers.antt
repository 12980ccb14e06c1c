use Rattle.std.proofs.Common.{sym, subst}
use Rattle.program_shell.specs.Notes.{NotedState, TookPlace}
use Rattle.program_shell.proofs.TalkLemmas.{noted_told}
use Rattle.program_shell.proofs.noted.NotedConversation.tell.Goals as goal

pub returns-clause-told : goal.returns-clause-told
returns-clause-told g c = λ first before was done.
    let i = c.self.inside in
    let notes = c.noted_of-refused in
    let old : NotedState g.row.C.Denot = record { talk = i.talk; refused = i.refused; outdated = i.outdated } in
    let new : NotedState g.row.C.Denot = record { talk = c.tell.new.self; refused = notes.result.0; outdated = notes.result.1 } in
    let taken = subst (λ (s : NotedState g.row.C.Denot). TookPlace g.C.Conversation first before s) (sym c.self.view_is) was in
    noted_told g.C.Conversation first old new before taken c.args.text.now notes.ensures.refused notes.ensures.outdated
    (c.tell.ensures.told first.talk before taken.talk c.if-not-tell.false)
