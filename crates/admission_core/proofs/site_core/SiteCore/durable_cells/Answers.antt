use Rattle.admission_core.proofs.site_core.SiteCore.durable_cells.Goals as goal

pub returns : goal.returns
returns c = rw (← c.self.view_is) c.kept_cells.ensures
