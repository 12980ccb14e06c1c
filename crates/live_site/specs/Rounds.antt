-- A site that begins again from its store.
use Rattle.std.specs.Prelude.{◌≡◌, ◌<◌, Bool, true, false}
use Rattle.durable_keeper.specs.declared.keeper.Keeper.{Ghosts}
use Rattle.desk_log.specs.Desk.{KeepsOn}
use Rattle.live_site.specs.Live.{LiveState, IsFreshSite}

module _ {K : Type 0} where
  -- it did not begin: it serves no more, and its keeper keeps what it kept
  pub record StaysStopped (g : Ghosts K) (old new : LiveState K) : Type 0 where
    pub keeps_on : KeepsOn g old.keeper new.keeper
    pub core : new.core ≡ old.core
    pub stopped : new.frozen ≡ true

  -- whether it began again as a site that is opened
  abbrev pub BeginsAgain : Ghosts K → LiveState K → LiveState K → Bool → Type 0
  BeginsAgain g old new true = (old.core.site < old.core.layout.sites) × IsFreshSite g old.keeper old.core.layout old.core.site new
  BeginsAgain g old new false = StaysStopped g old new
