use Rattle.std.proofs.Common.{arith, rules}
use Rattle.session_book.specs.Sites.{AreFew}
use Rattle.session_book.proofs.LockedLemmas.{locked_begun}
use Rattle.session_book.proofs.SiteLemmas.{new_site}
use Rattle.session_book.proofs.site.Site.open.Goals as goal

pub returns : goal.returns
returns g c =
    let few : AreFew c.args.passes = record { some = omega arith; few = omega arith } in (
      few,
      c.in_ok-desk.ensures.0,
      new_site g.K.Keeper c.args.keeper c.args.layout c.args.site c.args.passes c.args.limit c.in_ok-desk.desk c.in-Ok.layout c.in-Ok.first c.in_ok-desk.ensures.1 c.in-Ok.ensures.layout c.in-Ok.ensures.first,
      c.in-Ok-passes_of.ensures.passes,
    )

pub new-requires : goal.new-requires
new-requires g c = locked_begun g.K.Keeper g.L.Opening.kept c.args.keeper c.args.layout c.args.site c.args.limit c.in_ok-desk.desk c.open-counted.result.0.total c.passes_of.new.rest.parts c.passes_of.new.rest.amount c.requires.kept
    c.in_ok-desk.ensures.1 c.open-counted.ensures.total c.in-Ok-passes_of.ensures.parts c.passes_of.ensures.amount

pub returns-then-passes-eq0 : goal.returns-then-passes-eq0
returns-then-passes-eq0 g c = search rules

pub invariant_of-site : goal.invariant_of-site
invariant_of-site g c = search rules
