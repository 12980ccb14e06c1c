use Rattle.std.proofs.Common.{◌≡◌, length, ap, refl, arith}
use Rattle.std.proofs.lemmas.Bool.Decides.{nat_tests}
use Rattle.std.proofs.lemmas.List.Elements.{recursion_from_All}
use Rattle.merge_core.proofs.delta.order.is_row.Goals as goal

pub returns : goal.returns
returns c =
    let sizes : length c.as_slice-out.result.now ≡ length c.args.row.now.out = ap length c.as_slice-out.ensures.counters in (
      λ _. record {
        record_number = omega arith;
        site_number = omega arith;
        some_sites = grind (arith, nat_tests, sizes);
        few_sites = omega arith;
        out_fits = recursion_from_All _ _ c.as_slice-out.ensures.fits;
        taken_fits = omega arith;
        ann_fits = omega arith;
        fin_fits = omega arith;
      },
      λ _. refl,
    )
