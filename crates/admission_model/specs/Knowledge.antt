-- What a site knows: the units that the grants, its beginning, its own operations or a delta named. As
-- numbers, by the greatest unit known of each counter; as sets, by who names a unit (Shapiro et al., 2011:
-- a join semilattice of sets of operations, of which the counters are the representation).
use Rattle.std.specs.Prelude.{◌≡◌, ℕ, ◌==◌, ◌⊎◌, max, IsTrue, List, [], ◌∷◌, if◌then◌else◌}
use Rattle.merge_core.specs.declared.cell.Cell.{Cell}
use Rattle.merge_core.specs.declared.delta.Row.{Row}
use Rattle.merge_core.specs.Layout.{shape_of, at_sites}
use Rattle.merge_core.specs.Rows.{start_counter}
use Rattle.merge_core.specs.Changes.{keeps_counter}
use Rattle.merge_core.specs.Naming.{shown_by, ReachesUnit, RowsName}
use Rattle.admission_model.specs.Account.{Origin, Account, Heard, HeardRows, StartedAgain, DurablePart, own, sessions_of}

-- a counter that a restart keeps, or else its start
abbrev pub kept_or_start : Origin → (ℕ → ℕ → Cell → ℕ) → ℕ → ℕ → Cell → ℕ
kept_or_start o counters r s cell =
    if keeps_counter o.site s cell then counters r s cell else start_counter (shape_of o.layout) r s cell

-- the counters that a site was told of: by its beginning, then raised by each delta and cut by each restart
abbrev pub told_after : Origin → List Heard → ℕ → ℕ → Cell → ℕ
told_after o [] r s cell = kept_or_start o o.base.counters r s cell
told_after o (HeardRows rows ∷ heard) r s cell = max (told_after o heard r s cell) (shown_by (shape_of o.layout) rows r s cell)
told_after o (StartedAgain ∷ heard) r s cell = kept_or_start o (told_after o heard) r s cell

-- the counters that an account was told of
abbrev pub told : Account → ℕ → ℕ → Cell → ℕ
told a r s cell = told_after a.origin a.heard r s cell

-- the known counters: the site's own row is what it did, any other row what it was told
abbrev pub known : Account → ℕ → ℕ → Cell → ℕ
known a r s cell = if s == a.origin.site then own a r cell else told a r s cell

-- a delta that was heard, and not forgotten by a later restart, names the unit
abbrev pub HeardUnit : Origin → List Heard → ℕ → ℕ → Cell → ℕ → Type 0
HeardUnit o [] r s cell k = ⊥
HeardUnit o (HeardRows rows ∷ heard) r s cell k = RowsName (shape_of o.layout) rows r s cell k ⊎ HeardUnit o heard r s cell k
HeardUnit o (StartedAgain ∷ heard) r s cell k = IsTrue (keeps_counter o.site s cell) × HeardUnit o heard r s cell k

-- the site knows the k-th unit of a counter where a source names it: the grants, the beginning, the site's
-- own operations, or a delta
abbrev pub SourceNames : Account → ℕ → ℕ → Cell → ℕ → Type 0
SourceNames a r s cell k =
    ReachesUnit (start_counter (shape_of a.origin.layout) r s cell) k
    ⊎ ((IsTrue (keeps_counter a.origin.site s cell) × ReachesUnit (a.origin.base.counters r s cell) k)
    ⊎ (((s ≡ a.origin.site) × ReachesUnit (own a r cell) k)
    ⊎ HeardUnit a.origin a.heard r s cell k))

-- the site has heard a delta's rows
abbrev pub hears : Account → List Row → Account
hears a rows = record a { heard = HeardRows rows ∷ a.heard }

-- the site has heard these deltas, the last of the list first
abbrev pub hears_all : Account → List (List Row) → Account
hears_all a [] = a
hears_all a (rows ∷ deltas) = hears (hears_all a deltas) rows

-- the site was started again: sessions and own operations stay, other knowledge is cut to what is kept
abbrev pub restarted : Account → Account
restarted a = record a { heard = StartedAgain ∷ a.heard }

-- the site was started again under its layout with n sites
abbrev pub grown : ℕ → Account → Account
grown n a = record a { sites = n; heard = StartedAgain ∷ a.heard }

-- what a stop leaves of the site: what a restart keeps, and the sessions in order
abbrev pub durable_part : Account → DurablePart
durable_part a = record { counters = kept_or_start a.origin (known a); sessions = sessions_of a }

-- where the site begins from what a stop left, under its layout with n sites
abbrev pub resumed : ℕ → Account → Origin
resumed n a = record { layout = at_sites n a.origin.layout; site = a.origin.site; base = durable_part a }
