use Rattle.std.proofs.Common.{rules}
use Rattle.multi_site_world.proofs.world.sites.merged.Goals as goal

pub merge_accepted-requires : goal.merge_accepted-requires
merge_accepted-requires c = search rules
