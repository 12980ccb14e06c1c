-- The core of the start stands for the account of the start.
use Rattle.std.proofs.Common.{refl, subst}
use Rattle.merge_core.specs.Layout.{IsLayout}
use Rattle.admission_model.specs.Account.{begin, start_origin}
use Rattle.admission_core.proofs.BegunLemmas.{stands_begun}
use Rattle.admission_core.proofs.CoreLemmas.{is_core}
use Rattle.admission_core.proofs.site_core.SiteCore.new.Goals as goal

pub returns : goal.returns
returns c =
    stands_begun c.args.layout _ c.requires refl c.in_ok-book.ensures.book c.in_ok-book.ensures.shape c.new.ensures c.in_ok-book.ensures.counters

pub invariant_of-result : goal.invariant_of-result
invariant_of-result c =
    is_core _ (subst IsLayout c.layout.view_is c.layout.invariant) (begin (start_origin c.args.layout c.args.site))
    (stands_begun c.args.layout _ c.requires refl c.in_ok-book.ensures.book c.in_ok-book.ensures.shape c.new.ensures c.in_ok-book.ensures.counters)
