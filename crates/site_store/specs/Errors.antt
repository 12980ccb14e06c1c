-- What a refusal of the tables is to a keeper, and to an opening.
use Rattle.store_tables.specs.declared.error.TableError.{TableError}
use Rattle.store_tables.specs.declared.error.TableError.TheVariants as tables
use Rattle.durable_keeper.specs.declared.error.KeeperError.{KeeperError}
use Rattle.durable_keeper.specs.declared.error.KeeperError.TheVariants as keeper
use Rattle.site_store.specs.declared.error.StoreOpenError.{StoreOpenError}
use Rattle.site_store.specs.declared.error.StoreOpenError.TheVariants as opening
use Rattle.site_store.specs.declared.error.ServedError.{ServedError}
use Rattle.site_store.specs.declared.error.ServedError.TheVariants as served

-- a store that is none any more has failed
abbrev pub keeper_error : TableError → KeeperError
keeper_error tables.BadStore = keeper.StoreFault
keeper_error tables.Memory = keeper.Memory
keeper_error tables.StoreFault = keeper.StoreFault

abbrev pub open_error : TableError → StoreOpenError
open_error tables.BadStore = opening.BadStore
open_error tables.Memory = opening.Memory
open_error tables.StoreFault = opening.StoreFault

-- what a refusal of an opening is to one for a service
abbrev pub served_error : StoreOpenError → ServedError
served_error opening.BadStore = served.BadStore
served_error opening.WrongSite = served.WrongSite
served_error opening.WrongGroup = served.WrongGroup
served_error opening.WrongLayout = served.WrongLayout
served_error opening.StoreFault = served.StoreFault
served_error opening.Memory = served.Memory

-- what a refusal of a marked store by what it holds is told as: the mark is told before the layout
abbrev pub marked_error : StoreOpenError → ServedError
marked_error opening.BadStore = served.BadStore
marked_error opening.WrongSite = served.WrongSite
marked_error opening.WrongGroup = served.WrongGroup
marked_error opening.WrongLayout = served.Outdated
marked_error opening.StoreFault = served.StoreFault
marked_error opening.Memory = served.Memory
