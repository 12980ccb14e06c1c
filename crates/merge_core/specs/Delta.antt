-- Deltas: rows of counters that one site sends another (the delta-states of Almeida, Shoker and Baquero,
-- "Delta state replicated data types", 2018, cut along the rows of the bounded counter's matrix).
use Rattle.std.specs.Prelude.{ℕ, ◌≡◌, ◌^◌, ◌<◌, ◌≤◌, ◌⊎◌, List, [], ◌∷◌, length}
use Rattle.std.specs.List.{AllByRecursion}
use Rattle.merge_core.specs.declared.delta.Row.{Row}

-- a delta as contracts see it: the label of the site that made it, and its rows
pub record DeltaState : Type 0 where
  pub from : ℕ
  pub rows : List Row

-- a row stands before another: by record, then by site
abbrev pub ComesBefore : Row → Row → Type 0
ComesBefore p q = (p.r < q.r) ⊎ ((p.r ≡ q.r) × (p.s < q.s))

-- rows rise strictly, so that no record and site stands twice
abbrev pub IsRising : List Row → Type 0
IsRising [] = Unit {0}
IsRising (p ∷ ps) = AllByRecursion (ComesBefore p) ps × IsRising ps

-- a row whose numbers some layout may have: a record, a site, 1 to 16 sites' counters, each of 64 bits
pub record IsRow (p : Row) : Type 0 where
  pub record_number : p.r < 256
  pub site_number : p.s < 16
  pub some_sites : 1 ≤ length p.out
  pub few_sites : length p.out ≤ 16
  pub out_fits : AllByRecursion (λ n. n < 2 ^ 64) p.out
  pub taken_fits : p.taken < 2 ^ 64
  pub ann_fits : p.ann < 2 ^ 64
  pub fin_fits : p.fin < 2 ^ 64

-- a delta: the label is a site's number, the rows rise, and each is a row
pub record IsDelta (d : DeltaState) : Type 0 where
  pub from_site : d.from < 16
  pub rising : IsRising d.rows
  pub rows : AllByRecursion IsRow d.rows
