-- What each kind of call prepares is the model's.
use Rattle.std.proofs.Common.{◌≡◌, false, sym, subst}
use Rattle.admission_model.specs.declared.ask.Call.{Call}
use Rattle.admission_model.specs.declared.ask.Call.TheVariants.{Ask as AskCall, Merge, Snapshot}
use Rattle.admission_model.specs.Account.{Account}
use Rattle.admission_model.specs.View.{view_of}
use Rattle.admission_model.specs.Serving.{reply_of}
use Rattle.admission_core.specs.Core.{Core, IsCore, Stands, is_memory}
use Rattle.admission_core.specs.Prepared.{Prepared, IsChangeFor}
use Rattle.admission_core.proofs.ChangeLemmas.{replies, change_rising}
use Rattle.admission_core.proofs.site_core.SiteCore.prepare.Goals as goal

-- the answer to a call is the model's, want of memory aside
abbrev Replies : Core → Prepared → Call → Type 0
Replies old p call = is_memory p.reply ≡ false → (a : Account) → Stands a old → p.reply ≡ reply_of (view_of a) call

pub returns-in-Ask-clause-reply : goal.returns-in-Ask-clause-reply
returns-in-Ask-clause-reply c =
    let old : Core = c.args.self.now in
    let p = c.prepare_ask in
    subst (Replies old p.result) (sym c.in-Ask.is) (replies old p.new.self (AskCall c.in-Ask.ask) p.result p.ensures.content p.ensures.ready)

pub returns-in-Ask-clause-change : goal.returns-in-Ask-clause-change
returns-in-Ask-clause-change c =
    subst (λ (call : Call). IsChangeFor c.args.self.now call c.prepare_ask.result) (sym c.in-Ask.is) c.prepare_ask.ensures.change

pub returns-in-Merge-clause-reply : goal.returns-in-Merge-clause-reply
returns-in-Merge-clause-reply c =
    let old : Core = c.args.self.now in
    let p = c.prepare_merge in
    subst (Replies old p.result) (sym c.in-Merge.is) (replies old p.new.self (Merge c.in-Merge.delta) p.result p.ensures.content p.ensures.ready)

pub returns-in-Merge-clause-change : goal.returns-in-Merge-clause-change
returns-in-Merge-clause-change c =
    subst (λ (call : Call). IsChangeFor c.args.self.now call c.prepare_merge.result) (sym c.in-Merge.is) c.prepare_merge.ensures.change

pub returns-in-Snapshot-clause-reply : goal.returns-in-Snapshot-clause-reply
returns-in-Snapshot-clause-reply c =
    let old : Core = c.args.self.now in
    let p = c.prepare_snapshot in
    subst (Replies old p.result) (sym c.in-Snapshot.is) (replies old p.new.self Snapshot p.result p.ensures.content p.ensures.ready)

pub returns-in-Snapshot-clause-change : goal.returns-in-Snapshot-clause-change
returns-in-Snapshot-clause-change c =
    subst (λ (call : Call). IsChangeFor c.args.self.now call c.prepare_snapshot.result) (sym c.in-Snapshot.is) c.prepare_snapshot.ensures.change

pub returns-in-Ask-clause-rising : goal.returns-in-Ask-clause-rising
returns-in-Ask-clause-rising c =
    change_rising c.args.self.now (subst IsCore c.self.view_is c.self.invariant) (AskCall c.in-Ask.ask) c.prepare_ask.result c.prepare_ask.ensures.change

pub returns-in-Merge-clause-rising : goal.returns-in-Merge-clause-rising
returns-in-Merge-clause-rising c =
    change_rising c.args.self.now (subst IsCore c.self.view_is c.self.invariant) (Merge c.in-Merge.delta) c.prepare_merge.result c.prepare_merge.ensures.change

pub returns-in-Snapshot-clause-rising : goal.returns-in-Snapshot-clause-rising
returns-in-Snapshot-clause-rising c =
    change_rising c.args.self.now (subst IsCore c.self.view_is c.self.invariant) Snapshot c.prepare_snapshot.result c.prepare_snapshot.ensures.change
