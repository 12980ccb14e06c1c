use Rattle.serve_engine.proofs.MarkLemmas.{no_checksum, no_records}
use Rattle.serve_engine.proofs.taking.parts_of.Goals as goal

pub returns-in_default-digits_at : goal.returns-in_default-digits_at
returns-in_default-digits_at c =
    no_records c.args.bytes.now c.in-Some.group.now c.in-Some.rest.now c.in-Some.ensures.0 c.in-Some.ensures.1 c.in_default-digits_at.ensures

pub returns-in_default-digits_at-2 : goal.returns-in_default-digits_at-2
returns-in_default-digits_at-2 c =
    no_checksum c.args.bytes.now c.in-Some.group.now c.in-Some-digits_at.records.now c.in-Some.rest.now c.in-Some-digits_at.more.now
    c.in-Some.ensures.0 c.in-Some.ensures.1 c.in-Some-digits_at.ensures.0 c.in-Some-digits_at.ensures.1 c.in_default-digits_at-2.ensures
