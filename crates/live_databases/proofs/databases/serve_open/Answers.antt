use Rattle.std.proofs.Common.{inl, inr}
use Rattle.live_databases.proofs.databases.serve_open.Goals as goal

pub returns : goal.returns
returns g c = rw c.in-Some.is (inl c.serve_logged_over.ensures)
