-- Which site is served, and how (the project's own).
use Rattle.std.specs.Prelude.{ℕ, List, Option}
use Rattle.std.specs.Option.{option_copied}
use Rattle.serve_engine.specs.declared.marks.Marking.{Marking}
use Rattle.site_store.specs.declared.served.Permission.{Permission}
use Rattle.live_databases.specs.declared.serving.Service.{Service}

-- a site, its group if it has one, whether deltas travel with a mark, and what the opening of its store may write
pub record Served : Type 0 where
  pub site : ℕ
  pub group : Option (List ℕ)
  pub marking : Marking
  pub permission : Permission

-- the same of what the code has
abbrev pub served_by : Service → Served
served_by s = record { site = s.site; group = option_copied s.group; marking = s.marking; permission = s.permission }
