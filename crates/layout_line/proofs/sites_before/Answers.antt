use Rattle.std.proofs.Common.{arith}
use Rattle.layout_line.proofs.LineLemmas.{unread, one_reading}
use Rattle.text_parts.proofs.NumberLaws.{number_takes}
use Rattle.layout_line.proofs.sites_before.Goals as goal

pub returns-in_default-clause-none : goal.returns-in_default-clause-none
returns-in_default-clause-none c = λ _ n small is. unread c.in_default.field-0 c.args.line.now c.args.records.now n c.in_default.ensures.no_memory c.in_default.ensures.read c.requires small is

pub returns-then-is_same-clause-number : goal.returns-then-is_same-clause-number
returns-then-is_same-clause-number c = grind (arith, (number_takes c.args.line.now c.in-Ok.sites c.in-Ok.behind.now c.in-Ok.ensures.read).0)

pub returns-clause-none : goal.returns-clause-none
returns-clause-none c = λ _ n small is. grind (arith, one_reading c.args.line.now c.in-Ok.behind.now c.args.records.now c.in-Ok.sites n c.in-Ok.ensures.read c.requires small is)
