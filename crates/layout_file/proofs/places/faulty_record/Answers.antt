use Rattle.std.proofs.Common.{rules}
use Rattle.layout_file.proofs.PlaceLemmas.{first_found, none_found}
use Rattle.layout_file.proofs.places.faulty_record.Goals as goal

pub returns-then-has_fault : goal.returns-then-has_fault
returns-then-has_fault c =
    first_found c.args.error c.args.sites c.args.records.now c.loop-i.i c.index-records-i.result (search rules) (search rules) c.loop-i.invariant (search rules)

pub loop-i-preserved : goal.loop-i-preserved
loop-i-preserved c =
    none_found c.args.error c.args.sites c.args.records.now c.loop-i.i c.index-records-i.result (search rules) (search rules) c.loop-i.invariant (search rules)
