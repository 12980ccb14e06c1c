-- What a snapshot prepares: want of memory, or the rows that the model tells.
use Rattle.std.proofs.Common.{[], None, refl, sym, ap, subst, ◌∙◌}
use Rattle.admission_model.specs.declared.ask.Call.TheVariants.{Snapshot}
use Rattle.admission_model.specs.declared.reply.Reply.TheVariants.{Snapshot as SnapshotReply}
use Rattle.admission_model.specs.Merging.{snapshot_of}
use Rattle.admission_core.specs.Core.{Core, IsCore}
use Rattle.admission_core.specs.Prepared.{Prepared, IsReadyFor, IsChangeFor}
use Rattle.admission_core.proofs.CoreLemmas.{shows_account}
use Rattle.admission_core.proofs.ReadyLemmas.{ready_answer, ready_memory}
use Rattle.admission_core.proofs.ChangeLemmas.{memory_change, snapshot_change}
use Rattle.admission_core.proofs.site_core.SiteCore.prepare_snapshot.Goals as goal

pub returns-in_default-clause-ready : goal.returns-in_default-clause-ready
returns-in_default-clause-ready c =
    subst (IsReadyFor c.args.self.now Snapshot) (sym c.refused.ensures) (ready_memory c.args.self.now Snapshot refl)

pub returns-in_default-clause-change : goal.returns-in_default-clause-change
returns-in_default-clause-change c =
    subst (IsChangeFor c.args.self.now Snapshot) (sym c.refused.ensures) (memory_change c.args.self.now Snapshot)

pub returns-clause-ready : goal.returns-clause-ready
returns-clause-ready c =
    let now : Core = c.args.self.now in
    let is : IsCore now = subst IsCore c.self.view_is c.self.invariant in
    let told = c.in-Ok.ensures is.account is.stands ∙ ap snapshot_of (sym (shows_account is.account now is.stands)) in
    let p : Prepared = record { reply = SnapshotReply c.in-Ok.delta; change = record { cells = []; session = None }; operation = None; heard = None } in
    subst (IsReadyFor now Snapshot) (sym c.answered.ensures) (ready_answer now Snapshot p refl (ap SnapshotReply told) refl refl tt)

pub returns-clause-change : goal.returns-clause-change
returns-clause-change c =
    let now : Core = c.args.self.now in
    let is : IsCore now = subst IsCore c.self.view_is c.self.invariant in
    let told = c.in-Ok.ensures is.account is.stands ∙ ap snapshot_of (sym (shows_account is.account now is.stands)) in
    let p : Prepared = record { reply = SnapshotReply c.in-Ok.delta; change = record { cells = []; session = None }; operation = None; heard = None } in
    subst (IsChangeFor now Snapshot) (sym c.answered.ensures) (snapshot_change now p (ap SnapshotReply told) refl)
