use Rattle.std.proofs.Common.{rules, ◌≡◌, Option, None, subst}
use Rattle.join_engine.specs.declared.fault.Refusal.{Refusal}
use Rattle.text_input.specs.Lines.{lines_of}
use Rattle.join_engine.specs.Stops.{JoinsLines, JoinsPending, KnownOf}
use Rattle.join_engine.proofs.FrontLemmas.{known_all, known_refused, refused_of_all}
use Rattle.join_engine.proofs.joining.Joining.finish.Goals as goal

pub returns-in-Some : goal.returns-in-Some
returns-in-Some c = λ shape bytes known few.
    let self = c.args.self in
    refused_of_all shape bytes c.in-Some.refusal
    (subst (λ (it : Option Refusal). KnownOf shape bytes it self.pending.items self.joined self.book) c.in-Some.is known)

pub returns-in-Some-refused : goal.returns-in-Some-refused
returns-in-Some-refused c = λ shape bytes known few.
    let self = c.args.self in
    let waits : self.refused ≡ None = search rules in
    let joins : JoinsPending self c.join_pending.new.self = search rules in
    known_refused shape bytes self.pending.items self.joined self.book c.in-Some-refused.refusal c.join_pending.new.self.joined c.join_pending.new.self.book
    (subst (λ (it : Option Refusal). KnownOf shape bytes it self.pending.items self.joined self.book) waits known) few
    (subst (λ (it : Option Refusal). JoinsLines (lines_of self.pending.items) self.joined self.book it c.join_pending.new.self.joined c.join_pending.new.self.book) c.in-Some-refused.is joins.1)

pub returns-in-None : goal.returns-in-None
returns-in-None c = λ shape bytes known few.
    let self = c.args.self in
    let waits : self.refused ≡ None = search rules in
    let joins : JoinsPending self c.join_pending.new.self = search rules in
    known_all shape bytes self.pending.items self.joined self.book c.join_pending.new.self.joined c.join_pending.new.self.book
    (subst (λ (it : Option Refusal). KnownOf shape bytes it self.pending.items self.joined self.book) waits known)
    (subst (λ (it : Option Refusal). JoinsLines (lines_of self.pending.items) self.joined self.book it c.join_pending.new.self.joined c.join_pending.new.self.book) c.in-None.is joins.1)
