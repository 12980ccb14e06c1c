use Rattle.std.proofs.Common.{rules, ◌≡◌, List, [], ◌∷◌, Vec, Global, length, refl, sym, ap, subst, ◌∙◌}
use Rattle.std.specs.Prelude.{All}
use Rattle.desk_log.specs.Desk.{DeskState}
use Rattle.desk_log.specs.declared.transcript.Transcript.{Transcript}
use Rattle.session_book.specs.Sites.{SiteState, AreAll, BearsOut, IsSameOpening, IsDeskAstray, IsRunOf, IsClosed, IsCloseFault}
use Rattle.session_book.specs.Passes.{PassState, receipts_in}
use Rattle.session_book.proofs.SiteLemmas.{closed, all_there, some_missing, refused}
use Rattle.session_book.proofs.site.Site.close.Goals as goal

pub returns-then-not-are_all : goal.returns-then-not-are_all
returns-then-not-are_all g c = (
  some_missing c.are_all.result c.self.inside.passes c.args.self.passes c.as_slice.result.now c.args.passes.items c.are_all.ensures (ap (λ (s : SiteState). s.passes) c.self.view_is) c.as_slice.ensures.value c.if-not-are_all.true,
  refl,
  refl,
)

pub returns-in-Err : goal.returns-in-Err
returns-in-Err g c =
    let k = c.self.inside in
    let s : SiteState = record { layout = k.layout; site = k.site; first = k.first; limit = k.limit; passes = k.passes } in
    let all : AreAll s.passes c.args.passes.items =
    all_there c.are_all.result k.passes k.passes c.as_slice.result.now c.args.passes.items c.are_all.ensures refl c.as_slice.ensures.value c.if-not-are_all.false in
    let given : c.audit-passes.result.items ≡ c.args.passes.items = ap (λ (v : Vec PassState Global). v.items) c.audit-passes.ensures.passes in
    let count : length c.desk.result.now.log.entries ≡ receipts_in c.args.passes.items = search rules in
    let fault : IsCloseFault s c.args.passes.items c.in-Err.error =
    refused s c.args.passes.items c.desk.result.now c.in-Err.error c.in-Err.ensures.all_there
    (λ pass at is. subst (λ (ps : List PassState). IsDeskAstray c.desk.result.now s.layout s.site s.first s.limit ps pass at) (c.as_slice-2.ensures.value ∙ given) (c.in-Err.ensures.astray pass at is))
    count all in
    (subst (λ (x : SiteState). IsCloseFault x c.args.passes.items c.in-Err.error) c.self.view_is fault, c.self.view_is, c.audit-passes.ensures.passes)

pub returns : goal.returns
returns g c =
    let k = c.self.inside in
    let s : SiteState = record { layout = k.layout; site = k.site; first = k.first; limit = k.limit; passes = k.passes } in
    let d : DeskState g.row.K.Denot = c.audit-passes.new.self in
    let given : c.audit-passes.result.items ≡ c.args.passes.items = ap (λ (v : Vec PassState Global). v.items) c.audit-passes.ensures.passes in
    let keeper : g.row.K.Denot = c.into_run-run.result.1 in
    let all : AreAll s.passes c.args.passes.items =
    all_there c.are_all.result k.passes k.passes c.as_slice.result.now c.args.passes.items c.are_all.ensures refl c.as_slice.ensures.value c.if-not-are_all.false in
    let opening : IsSameOpening d k.layout k.site k.first k.limit =
    subst (λ (x : DeskState g.row.K.Denot). IsSameOpening x k.layout k.site k.first k.limit) c.desk.ensures c.in-Ok.ensures.opening in
    let each : All (BearsOut k.limit d.log.entries) c.args.passes.items =
    subst (λ (x : DeskState g.row.K.Denot). All (BearsOut k.limit x.log.entries) c.args.passes.items) c.desk.ensures
    (subst (λ (ps : List PassState). All (BearsOut k.limit c.desk.result.now.log.entries) ps) (c.as_slice-2.ensures.value ∙ given) c.in-Ok.ensures.each) in
    let run : IsClosed g.K.Keeper g.L.Opening.kept s c.args.passes.items (record { site = k.site; runs = c.into_run-run.result.0 ∷ [] }) keeper =
    closed g.K.Keeper g.L.Opening.kept _ s c.self.invariant c.args.passes.items d c.into_run-run.result.0 keeper opening each all (subst (λ (ps : List PassState). IsRunOf d ps c.into_run-run.result.0) given c.into_run-run.ensures.run) c.into_run-run.ensures.made_for c.into_run-run.ensures.keeps in
    subst (λ (x : Transcript). IsClosed g.K.Keeper g.L.Opening.kept c.args.self c.args.passes.items x keeper) (sym c.transcript_of.ensures)
    (subst (λ (x : SiteState). IsClosed g.K.Keeper g.L.Opening.kept x c.args.passes.items (record { site = k.site; runs = c.into_run-run.result.0 ∷ [] }) keeper) c.self.view_is run)
