use Rattle.std.proofs.Common.{◌≡◌, subst, ap, arith}
use Rattle.merge_core.specs.Layout.{IsLayout}
use Rattle.merge_core.specs.Book.{BookState}
use Rattle.admission_core.specs.Core.{IsCore}
use Rattle.admission_core.proofs.CoreLemmas.{is_core}
use Rattle.log_replay.proofs.own.own_rows.Goals as goal

pub own_row-requires-clause-site : goal.own_row-requires-clause-site
own_row-requires-clause-site c =
    let is : IsCore c.args.core.now = is_core c.args.core.now (subst IsLayout c.layout.ensures c.sites.ensures.layout) c.requires.0 c.requires.1 in
    let sites : c.book-book.result.now.sites ≡ c.args.core.now.book.sites = ap (λ (b : BookState). b.sites) c.book-book.ensures in
    omega (arith, sites, is.site_there, is.sites, c.site-site.ensures)
