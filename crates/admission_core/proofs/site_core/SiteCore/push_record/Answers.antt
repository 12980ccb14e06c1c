use Rattle.std.proofs.Common.{ap, arith}
use Rattle.admission_core.specs.Core.{Core, IsCore}
use Rattle.admission_core.proofs.JoiningLemmas.{joined_book}
use Rattle.admission_core.proofs.site_core.SiteCore.push_record.Goals as goal

pub push_column-requires-clause-cell : goal.push_column-requires-clause-cell
push_column-requires-clause-cell c =
    let is : IsCore c.args.self.now = rw (← c.self.view_is) c.self.invariant in
    omega (arith, (joined_book c.args.self.now is).site_there, ap (λ (x : Core). x.site) c.self.view_is)
