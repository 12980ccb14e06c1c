use Rattle.std.proofs.Common.{◌≡◌, arith}
use Rattle.std.proofs.lemmas.Bool.{false≢true}
use Rattle.site_store.proofs.SiteTextLemmas.{names, parts, unread}
use Rattle.site_store.proofs.opening.names_site.Goals as goal

pub returns-in_default : goal.returns-in_default
returns-in_default c = (
  λ off. absurd (false≢true off),
  λ is. absurd (unread c.in_default.field-0 c.args.site c.args.text.now (omega arith) c.in_default.ensures.no_memory c.in_default.ensures.read is),
)

pub returns-then-number-from : goal.returns-then-number-from
returns-then-number-from c =
    let same : c.in-Ok.number ≡ c.args.site = grind (arith, c.if-number-from.true, c.from.ensures) in (
      λ apart. names c.args.site c.in-Ok.number c.args.text.now c.in-Ok.behind.now c.in-Ok.ensures.read same (c.is_apart.ensures.0 apart),
      λ is. c.is_apart.ensures.1 (parts c.args.site c.in-Ok.number c.args.text.now c.in-Ok.behind.now (omega arith) c.in-Ok.ensures.read is).1,
    )

pub returns-else-number-from : goal.returns-else-number-from
returns-else-number-from c = (
  λ on. absurd (grind (arith, c.if-number-from.false, on)),
  λ is. absurd (grind (arith, c.if-number-from.false, c.from.ensures, (parts c.args.site c.in-Ok.number c.args.text.now c.in-Ok.behind.now (omega arith) c.in-Ok.ensures.read is).0)),
)
