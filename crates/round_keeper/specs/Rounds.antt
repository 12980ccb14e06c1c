-- What a keeper keeps after changes that are committed together (group commit; this project's own words).
use Rattle.std.specs.Prelude.{◌≡◌, List, [], ◌∷◌, None}
use Rattle.admission_core.specs.Kept.{DurableState, ChangeState}
use Rattle.durable_keeper.specs.Keeping.{changed}

-- a durable part with exactly these changes made, the first one first
abbrev pub changed_all : List ChangeState → DurableState → DurableState
changed_all [] d = d
changed_all (c ∷ cs) d = changed_all cs (changed c d)

-- a change that changes nothing
abbrev pub ChangesNothing : ChangeState → Type 0
ChangesNothing c = (c.cells ≡ []) × (c.session ≡ None)
