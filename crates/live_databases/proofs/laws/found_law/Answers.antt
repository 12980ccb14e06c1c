use Rattle.live_databases.proofs.FoundLemmas.{keeps_found}
use Rattle.live_databases.proofs.laws.found_law.Goals as goal

pub returns : goal.returns
returns g c = record {
  store = λ image held db it finds holds stored. keeps_found {g = g.D.Disk} g.met.D.Disk.seen_may_stay image held db it finds holds stored;
}
