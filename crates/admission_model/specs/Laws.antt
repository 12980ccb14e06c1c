-- The statements of one site's laws.
use Rattle.std.specs.Prelude.{◌≡◌, ◌≢◌, ◌↔◌, ℕ, ◌==◌, ◌&&◌, if◌then◌else◌, ◌+◌, ◌-◌, ◌<◌, ◌≤◌, ◌⊎◌, List, [], ◌∷◌, length, None}
use Rattle.merge_core.specs.declared.cell.Cell.{Cell}
use Rattle.merge_core.specs.declared.cell.Cell.TheVariants.{Out, Taken, Ann, Fin}
use Rattle.merge_core.specs.declared.delta.Row.{Row}
use Rattle.merge_core.specs.Layout.{Shape, shape_of}
use Rattle.merge_core.specs.Counts.{counter_limit}
use Rattle.merge_core.specs.Rows.{grant}
use Rattle.merge_core.specs.Naming.{ReachesUnit, RowsName}
use Rattle.admission_model.specs.declared.reply.Plan.{Plan}
use Rattle.merge_core.specs.Sums.{total_others}
use Rattle.admission_model.specs.Account.{Account, DurablePart, seats_in, record_of, rise_of, layout_of, own, inside, writers_here, phase_of, sessions_of}
use Rattle.admission_model.specs.declared.operation.Operation.{Operation}
use Rattle.session_list.specs.declared.session.Session.{Session}
use Rattle.admission_model.specs.Knowledge.{known, SourceNames}
use Rattle.admission_model.specs.View.{View, view_of, rights_of}
use Rattle.admission_model.specs.Replies.{holder_limit}

-- the counter is the greatest unit known
abbrev pub CountsUnits : Account → Type 0
CountsUnits a = (r s : ℕ) (cell : Cell) (k : ℕ) → ReachesUnit (known a r s cell) k ↔ SourceNames a r s cell k

-- seats that the site knows it was sent, and seats that it gave away
abbrev pub received : Account → ℕ → ℕ
received a r = total_others a.sites a.origin.site (λ j. known a r j (Out a.origin.site))

abbrev pub given : Account → ℕ → ℕ
given a r = total_others a.sites a.origin.site (λ j. own a r (Out j))

-- The rights counted by sessions are the bounded counter's formula over the known counters; the seats
-- inside are those taken and not left; announced and not finished are the writers that wait or write.
pub record CountsSessions (a : Account) (r : ℕ) : Type 0 where
  pub affordable : given a r + inside a r ≤ grant (shape_of a.origin.layout) r a.origin.site + received a r
  pub rights : rights_of (view_of a) r ≡ (grant (shape_of a.origin.layout) r a.origin.site + received a r) - (given a r + inside a r)
  pub inside : own a r Taken - (own a r (Out a.origin.site) - grant (shape_of a.origin.layout) r a.origin.site) ≡ inside a r
  pub writers : own a r Ann - own a r Fin ≡ writers_here a r

-- two sites know the same units
abbrev pub SourcesAgree : Account → Account → Type 0
SourcesAgree a b = (r s : ℕ) (cell : Cell) (k : ℕ) → SourceNames a r s cell k ↔ SourceNames b r s cell k

-- two sites know the same counters
abbrev pub SameCounters : Account → Account → Type 0
SameCounters a b = (r s : ℕ) (cell : Cell) → known a r s cell ≡ known b r s cell

-- the site knows of a writer of record r that site s announced and has not finished
abbrev pub KnowsUnfinished : Account → ℕ → ℕ → Type 0
KnowsUnfinished a r s = known a r s Fin < known a r s Ann

-- by how much an operation raises a counter that the site knows: its own row's at the operation's record
abbrev pub raised_to : Account → Operation → ℕ → ℕ → Cell → ℕ
raised_to a operation r s cell =
    if (s == a.origin.site) && (record_of operation == r) then rise_of (seats_in a.origin.layout) a.origin.site (phase_of a) operation cell else 0

-- some delta of a list names the unit
abbrev pub SomeDeltaNames : Shape → List (List Row) → ℕ → ℕ → Cell → ℕ → Type 0
SomeDeltaNames shape [] r s cell k = ⊥
SomeDeltaNames shape (rows ∷ deltas) r s cell k = RowsName shape rows r s cell k ⊎ SomeDeltaNames shape deltas r s cell k

-- two lists of deltas name the same units: as any order, grouping or repetition of the same deltas does
abbrev pub DeltasAgree : Shape → List (List Row) → List (List Row) → Type 0
DeltasAgree shape first second = (r s : ℕ) (cell : Cell) (k : ℕ) → SomeDeltaNames shape first r s cell k ↔ SomeDeltaNames shape second r s cell k

-- s is the least site that shows an unfinished writer
pub record IsFirstUnfinished (v : View) (r s : ℕ) : Type 0 where
  pub there : s < v.layout.sites
  pub unfinished : v.counter r s Fin < v.counter r s Ann
  pub least : (t : ℕ) → t < s → v.counter r t Ann ≤ v.counter r t Fin

-- nothing that a reader is told before notices are read refuses it
pub record MayAsk (v : View) (r h : ℕ) : Type 0 where
  pub record_there : r < length v.layout.records
  pub holder : h ≤ holder_limit
  pub not_here : v.phase r h ≡ None
  pub room : v.counter r v.site Taken + 1 ≤ counter_limit

-- a plan sends seats to another site of the layout, and no more than the site has rights to
pub record IsFeasible (v : View) (r : ℕ) (plan : Plan) : Type 0 where
  pub there : plan.to < v.layout.sites
  pub elsewhere : plan.to ≢ v.site
  pub some : 0 < plan.seats
  pub enough : plan.seats ≤ rights_of v r

-- two views that differ in notices alone
pub record DifferInNotices (v w : View) : Type 0 where
  pub layout : w.layout ≡ v.layout
  pub site : w.site ≡ v.site
  pub phase : (r h : ℕ) → w.phase r h ≡ v.phase r h
  pub outs : (r s j : ℕ) → w.counter r s (Out j) ≡ v.counter r s (Out j)
  pub takens : (r s : ℕ) → w.counter r s Taken ≡ v.counter r s Taken

-- an account shows a site's layout, number, phases, order of sessions and counters: all that a site decides by
pub record StandsFor (v : View) (order : List Session) (a : Account) : Type 0 where
  pub layout : v.layout ≡ layout_of a
  pub site : v.site ≡ a.origin.site
  pub phases : (r h : ℕ) → v.phase r h ≡ phase_of a r h
  pub order_kept : order ≡ sessions_of a
  pub counters : (r s : ℕ) (cell : Cell) → v.counter r s cell ≡ known a r s cell

-- two accounts show the same
abbrev pub ShowTheSame : Account → Account → Type 0
ShowTheSame a b = StandsFor (view_of a) (sessions_of a) b

-- two durable parts hold the same
pub record KeepTheSame (p q : DurablePart) : Type 0 where
  pub counters : (r s : ℕ) (cell : Cell) → p.counters r s cell ≡ q.counters r s cell
  pub sessions : p.sessions ≡ q.sessions
