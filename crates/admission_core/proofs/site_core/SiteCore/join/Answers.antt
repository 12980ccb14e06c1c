-- A delta that nothing refuses is one that the book takes, and leaves a core that stands for the account that
-- heard it.
use Rattle.std.proofs.Common.{◌≡◌, None, refl, subst, sym, ap, ◌∙◌}
use Rattle.merge_core.specs.Book.{counter_of}
use Rattle.merge_core.specs.Layout.{Shape, shape_of}
use Rattle.merge_core.specs.Moved.{raised_by}
use Rattle.admission_model.specs.declared.ask.Call.TheVariants.{Merge}
use Rattle.admission_model.specs.Serving.{reason, after}
use Rattle.admission_core.specs.Core.{Core, Stands, core_view}
use Rattle.admission_core.proofs.CoreLemmas.{is_core}
use Rattle.admission_core.proofs.StandsLemmas.{joined, mergeable}
use Rattle.admission_core.proofs.site_core.SiteCore.join.Goals as goal

pub join-requires : goal.join-requires
join-requires c =
    let k = c.self.inside in
    let old : Core = record { layout = k.layout; site = k.site; book = k.book; sessions = k.sessions.sessions; room = k.sessions.room } in
    let free = subst (λ (x : Core). reason (core_view x) (Merge c.args.delta.now) ≡ None) (sym c.self.view_is) c.requires in
    mergeable old c.self.invariant c.args.delta.now free

pub invariant_of-self : goal.invariant_of-self
invariant_of-self c =
    let k = c.self.inside in
    let old : Core = record { layout = k.layout; site = k.site; book = k.book; sessions = k.sessions.sessions; room = k.sessions.room } in
    let free = subst (λ (x : Core). reason (core_view x) (Merge c.args.delta.now) ≡ None) (sym c.self.view_is) c.requires in
    let is = c.self.invariant in
    is_core _ is.layout (after is.account (Merge c.args.delta.now))
    (joined is.account old _ is.stands c.args.delta.now free refl refl refl c.join.ensures.book c.join.ensures.counters)

pub returns-clause-account : goal.returns-clause-account
returns-clause-account c = λ a stands.
    let k = c.self.inside in
    let old : Core = record { layout = k.layout; site = k.site; book = k.book; sessions = k.sessions.sessions; room = k.sessions.room } in
    let free = subst (λ (x : Core). reason (core_view x) (Merge c.args.delta.now) ≡ None) (sym c.self.view_is) c.requires in
    joined a old _ (subst (Stands a) (sym c.self.view_is) stands) c.args.delta.now free refl refl refl c.join.ensures.book c.join.ensures.counters

pub returns-clause-risen : goal.returns-clause-risen
returns-clause-risen c =
    let k = c.self.inside in
    let old : Core = record { layout = k.layout; site = k.site; book = k.book; sessions = k.sessions.sessions; room = k.sessions.room } in
    let risen : c.join.result ≡ raised_by (shape_of old.layout) (counter_of old.book) c.args.delta.now.rows =
    c.join.ensures.risen ∙ ap (λ (shape : Shape). raised_by shape (counter_of old.book) c.args.delta.now.rows) (sym c.self.invariant.stands.shape) in
    risen ∙ ap (λ (x : Core). raised_by (shape_of x.layout) (counter_of x.book) c.args.delta.now.rows) c.self.view_is
