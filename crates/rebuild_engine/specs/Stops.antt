-- What stops a rebuild whose deltas are refused. For private clauses.
use Rattle.site_rebuild.specs.declared.rebuilding.RebuildError.{RebuildError}
use Rattle.site_rebuild.specs.declared.rebuilding.RebuildError.TheVariants.{Memory}
use Rattle.rebuild_engine.specs.declared.rebuilding.RebuildStop.{RebuildStop}
use Rattle.rebuild_engine.specs.declared.rebuilding.RebuildStop.TheVariants.{NoRoom, Site}

abbrev pub stop_of : RebuildError → RebuildStop
stop_of Memory = NoRoom
stop_of error = Site error
