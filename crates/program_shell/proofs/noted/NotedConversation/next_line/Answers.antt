use Rattle.std.proofs.Common.{refl, sym, subst}
use Rattle.program_shell.specs.Notes.{NotedState, TookPlace}
use Rattle.program_shell.proofs.TalkLemmas.{noted_heard}
use Rattle.program_shell.proofs.noted.NotedConversation.next_line.Goals as goal

pub returns-clause-heard : goal.returns-clause-heard
returns-clause-heard g c = λ first before was.
    let i = c.self.inside in
    let old : NotedState g.row.C.Denot = record { talk = i.talk; refused = i.refused; outdated = i.outdated } in
    let new : NotedState g.row.C.Denot = record { talk = c.next_line.new.self; refused = i.refused; outdated = i.outdated } in
    let taken = subst (λ (s : NotedState g.row.C.Denot). TookPlace g.C.Conversation first before s) (sym c.self.view_is) was in
    noted_heard g.C.Conversation first old new before taken c.next_line.result (g.C.Conversation.kept c.next_line.new.self) refl refl
    (c.next_line.ensures.heard first.talk before taken.talk)
