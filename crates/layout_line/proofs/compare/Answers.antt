use Rattle.std.proofs.Common.{◌≡◌, ◌++◌, ◌<◌, ◌^◌, ℕ, decimal, arith}
use Rattle.layout_line.specs.Line.{IsEarlierLine, records_text}
use Rattle.layout_line.proofs.LineLemmas.{records_free, other_sites}
use Rattle.layout_line.proofs.compare.Goals as goal

pub sites_before-requires : goal.sites_before-requires
sites_before-requires c = grind (arith, records_free c.args.layout.now.records)

pub returns : goal.returns
returns c =
    let t = records_text c.args.layout.now.records in
    let found : c.args.line.now ≡ decimal c.in-Some.sites ++ t = grind (arith, c.in-Some.ensures.number) in
    let one : (n : ℕ) → n < 2 ^ 64 → c.args.line.now ≡ decimal n ++ t → c.in-Some.sites ≡ n =
    λ n small is. other_sites c.args.line.now t c.in-Some.sites n (records_free c.args.layout.now.records) (omega arith) small found is in (
      λ is. grind (arith, one c.args.layout.now.sites (omega arith) is),
      λ n it. grind (arith, one n (omega (arith, it.earlier.fewer_sites)) it.is_its),
    )
