use Rattle.layout_file.proofs.LayoutLemmas.{keys_counted}
use Rattle.layout_file.proofs.reading.key_count.Goals as goal

pub returns-in-Some : goal.returns-in-Some
returns-in-Some c = keys_counted _ c.in-Some.table.now.entries c.len.result c.in-Some.ensures c.len.ensures.len
