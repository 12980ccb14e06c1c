-- Judging the logs of all sites as their entries come, whatever comes behind them: of the transcripts, these entries of the
-- runs that have begun, and these runs, are still to come.
use Rattle.std.specs.Prelude.{◌≡◌, ℕ, ◌+◌, ◌-◌, ◌<◌, ◌≤◌, min, Bool, true, false, List, [], ◌∷◌, ◌++◌, length, slice_index, slice_index_or, Option, None, Some, IsSome}
use Rattle.merge_core.specs.declared.cell.Cell.{Cell}
use Rattle.merge_core.specs.declared.delta.Row.{Row}
use Rattle.merge_core.specs.Layout.{LayoutState}
use Rattle.merge_core.specs.Rows.{counter_in, counters_of}
use Rattle.admission_model.specs.Account.{Account, own}
use Rattle.desk_log.specs.declared.entry.Entry.{Entry}
use Rattle.desk_log.specs.declared.transcript.Run.{Run}
use Rattle.desk_log.specs.declared.transcript.Transcript.{Transcript}
use Rattle.multi_site_world.specs.Laws.{StandsIn}
use Rattle.log_replay.specs.Replay.{TellsOwn}
use Rattle.admission_core.specs.Core.{Core}
use Rattle.log_replay.specs.Stream.{HasEnded, IsClear, IsReplaying, count_of, left_of, length_by}
use Rattle.log_judge.specs.declared.stream.Taken.{Taken}
use Rattle.log_judge.specs.declared.stream.SiteLog.{SiteLog}
use Rattle.log_judge.specs.declared.stream.Logs.{Logs}
use Rattle.log_judge.specs.declared.keeping.Keeping.{Keeping}
use Rattle.log_judge.specs.declared.keeping.Keeping.TheVariants as way
use Rattle.log_judge.specs.Excess.{NoneAhead, own_in}
use Rattle.log_judge.specs.Cut.{cut_account, merge_rows, runs_at, site_brought}

-- no row tells more than its site has done
abbrev pub AreDone : (ℕ → Account) → List Row → Type 0
AreDone accounts rows = (q : Row) → StandsIn q rows → (cell : Cell) → counter_in (counters_of q) cell ≤ own (accounts q.s) q.r cell

-- Of lists of rows, from one of them up to another, all those that tell more than was done are among these.
abbrev pub AreTaken : (ℕ → Account) → List (List Row) → ℕ → ℕ → List Taken → Type 0
AreTaken accounts lists from to [] = (k : ℕ) → from ≤ k → k < to → AreDone accounts (slice_index_or lists k [])
AreTaken accounts lists from to (t ∷ ts) =
    (from ≤ t.at) × (t.at < to) × (slice_index_or lists t.at [] ≡ t.delta.rows)
    × ((k : ℕ) → from ≤ k → k < t.at → AreDone accounts (slice_index_or lists k [])) × AreTaken accounts lists (t.at + 1) to ts

-- Up to one of the lists they are, or up to the first one that was not kept for want of room.
abbrev pub AreTakenTo : (ℕ → Account) → List (List Row) → ℕ → Option ℕ → List Taken → Type 0
AreTakenTo accounts lists to None taken = AreTaken accounts lists 0 to taken
AreTakenTo accounts lists to (Some dropped) taken = (dropped < to) × AreTaken accounts lists 0 dropped taken

-- the same of what is kept of a log
abbrev pub AreKept : (ℕ → Account) → List (List Row) → ℕ → SiteLog → Type 0
AreKept accounts lists to log = AreTakenTo accounts lists to log.dropped log.taken.items

-- no merge has a row above the tables
abbrev pub AreNotAhead : List (List Row) → List Taken → Type 0
AreNotAhead tables [] = Unit {0}
AreNotAhead tables (t ∷ ts) = NoneAhead tables t.delta.rows × AreNotAhead tables ts

-- each merge has one
abbrev pub AreAhead : List (List Row) → List Taken → Type 0
AreAhead tables [] = Unit {0}
AreAhead tables (t ∷ ts) = (¬ NoneAhead tables t.delta.rows) × AreAhead tables ts

-- no merge tells more than was done
abbrev pub AllDone : (ℕ → Account) → List Taken → Type 0
AllDone accounts [] = Unit {0}
AllDone accounts (t ∷ ts) = AreDone accounts t.delta.rows × AllDone accounts ts

-- tables that tell the own counters of all accounts
abbrev pub TellAll : List (List Row) → (ℕ → Account) → Type 0
TellAll tables accounts = (s r : ℕ) (cell : Cell) → counter_in (counters_of (own_in tables s r)) cell ≡ own (accounts s) r cell

-- merges were kept by tables that tell these accounts, if by any
abbrev pub IsGuess : Keeping → (ℕ → Account) → Type 0
IsGuess way.All accounts = Unit {0}
IsGuess (way.First most) accounts = Unit {0}
IsGuess (way.Above tables) accounts = TellAll tables.items accounts

-- at most so many are kept, and so many where one was not kept for want of room
abbrev pub HasRoomFor : ℕ → Option ℕ → List Taken → Type 0
HasRoomFor most dropped taken = (length taken ≤ most) × (IsSome dropped → length taken ≡ most)

-- what is kept of a log is what was asked for
abbrev pub FitsKeeping : Keeping → Option ℕ → List Taken → Type 0
FitsKeeping way.All dropped taken = dropped ≡ None
FitsKeeping (way.First most) dropped taken = HasRoomFor most dropped taken
FitsKeeping (way.Above tables) dropped taken = HasRoomFor 1 dropped taken × AreAhead tables.items taken

-- the same of a log
abbrev pub IsFitting : Keeping → SiteLog → Type 0
IsFitting keeping log = FitsKeeping keeping log.dropped log.taken.items

-- a merge of these rows and this number is the last one that is kept
pub record Pushes (old new : SiteLog) (at : ℕ) (rows : List Row) : Type 0 where
  pub same : new.replay ≡ old.replay
  pub dropped : new.dropped ≡ old.dropped
  pub it : Taken
  pub items : new.taken.items ≡ old.taken.items ++ it ∷ []
  pub at_is : it.at ≡ at
  pub rows_are : it.delta.rows ≡ rows

-- it is kept where fewer than so many are, or its number is remembered
pub record KeepsWithin (most : ℕ) (old new : SiteLog) (at : ℕ) (rows : List Row) : Type 0 where
  pub same : new.replay ≡ old.replay
  pub kept : (accounts : ℕ → Account) (lists : List (List Row)) → slice_index_or lists at [] ≡ rows → AreKept accounts lists at old → AreKept accounts lists (at + 1) new
  pub room : HasRoomFor most old.dropped old.taken.items → HasRoomFor most new.dropped new.taken.items
  pub ahead : (tables : List (List Row)) → (¬ NoneAhead tables rows) → AreAhead tables old.taken.items → AreAhead tables new.taken.items

-- it is kept as was asked for
pub record Keeps (keeping : Keeping) (old new : SiteLog) (at : ℕ) (rows : List Row) : Type 0 where
  pub same : new.replay ≡ old.replay
  pub kept : IsFitting keeping old → (accounts : ℕ → Account) (lists : List (List Row)) → IsGuess keeping accounts → slice_index_or lists at [] ≡ rows
      → AreKept accounts lists at old → AreKept accounts lists (at + 1) new
  pub fits : IsFitting keeping old → IsFitting keeping new

-- the rows that the entry of this number brought are kept, if it is before the cut
pub record Takes (keeping : Keeping) (old new : SiteLog) (at : ℕ) (rows : List Row) : Type 0 where
  pub same : new.replay ≡ old.replay
  pub kept : IsFitting keeping old → (accounts : ℕ → Account) (lists : List (List Row)) (all : ℕ) → IsGuess keeping accounts → at < all → slice_index_or lists at [] ≡ rows
      → AreKept accounts lists (min at (length_by old.replay.cut all)) old → AreKept accounts lists (min (at + 1) (length_by old.replay.cut all)) new
  pub fits : IsFitting keeping old → IsFitting keeping new

-- those of an entry that was handed back are, if they are asked for
abbrev pub TakesBack : Keeping → SiteLog → SiteLog → ℕ → Bool → Option Entry → Type 0
TakesBack keeping old new at true (Some e) = Takes keeping old new at (merge_rows e.call)
TakesBack keeping old new at true None = new ≡ old
TakesBack keeping old new at false back = new ≡ old

-- those of the calls in doubt that were carried out are: there is one at most
abbrev pub TakesKept : Keeping → SiteLog → SiteLog → ℕ → List Entry → Type 0
TakesKept keeping old new at [] = new ≡ old
TakesKept keeping old new at (e ∷ []) = Takes keeping old new (at - 1) (merge_rows e.call)
TakesKept keeping old new at (e ∷ (d ∷ more)) = (new.replay ≡ old.replay) × (IsFitting keeping old → IsFitting keeping new)

-- how many entries of a site are judged: all but one in doubt
abbrev pub settled_in : SiteLog → ℕ
settled_in log = log.replay.at - length (left_of log.replay.stage)

-- what is known of the log of site i, of which these entries and runs are still to come
pub record IsLog (layout : LayoutState) (ts : List Transcript) (cut : List ℕ) (i : ℕ) (keeping : Keeping) (more : List Entry) (later : List Run) (log : SiteLog) : Type 0 where
  pub replaying : IsReplaying layout i (runs_at ts i) more later log.replay
  pub length_is : slice_index cut i ≡ length_by log.replay.cut (count_of (runs_at ts i))
  pub fits : IsFitting keeping log
  pub taken : (¬ HasEnded log.replay.stage) → IsGuess keeping (cut_account layout ts cut)
      → AreKept (cut_account layout ts cut) (site_brought layout ts i) (min (settled_in log) (slice_index cut i)) log

-- what is known of the logs of all sites: of the transcripts, and of a cut through them
pub record AreLogs (layout : LayoutState) (ts : List Transcript) (cut : List ℕ) (more : ℕ → List Entry) (later : ℕ → List Run) (logs : Logs) : Type 0 where
  pub sites : length logs.sites.items ≡ layout.sites
  pub number : length ts ≡ layout.sites
  pub each : (i : ℕ) → i < length logs.sites.items → (none : SiteLog) → IsLog layout ts cut i logs.keeping (more i) (later i) (slice_index_or logs.sites.items i none)

-- these are logs of some transcripts, for some cut
abbrev pub AreOfSome : Logs → Type 0
AreOfSome logs = (layout : LayoutState) × (ts : List Transcript) × (cut : List ℕ) × (more : ℕ → List Entry) × (later : ℕ → List Run) × AreLogs layout ts cut more later logs

-- whatever transcripts and cut these are logs of, this holds of the accounts at the cut
abbrev pub AtTheirCut : Logs → ((ℕ → Account) → Type 0) → Type 0
AtTheirCut logs P = (layout : LayoutState) (ts : List Transcript) (cut : List ℕ) (more : ℕ → List Entry) (later : ℕ → List Run) → AreLogs layout ts cut more later logs → P (cut_account layout ts cut)

-- the last run of a site has begun with this core, and no call is in doubt
abbrev pub IsClearAt : Core → ℕ → Logs → Type 0
IsClearAt core site logs = (none : SiteLog) → IsClear core (slice_index_or logs.sites.items site none).replay.stage

-- nothing is to come
abbrev pub no_entries : ℕ → List Entry
no_entries i = []

abbrev pub no_more_runs : ℕ → List Run
no_more_runs i = []

-- all entries came
abbrev pub AreAllLogs : LayoutState → List Transcript → List ℕ → Logs → Type 0
AreAllLogs layout ts cut logs = AreLogs layout ts cut no_entries no_more_runs logs

-- no log has a fault
abbrev pub HasNoFault : List SiteLog → Type 0
HasNoFault logs = (i : ℕ) → i < length logs → (none : SiteLog) → ¬ HasEnded (slice_index_or logs i none).replay.stage

-- the own rows of each site at the cut
pub record AreTables (layout : LayoutState) (ts : List Transcript) (cut : List ℕ) (n : ℕ) (tables : List (List Row)) : Type 0 where
  pub number : length tables ≡ n
  pub own_rows : (i : ℕ) → i < n → TellsOwn (length layout.records) (slice_index_or tables i []) (cut_account layout ts cut i)

-- A log lacks a merge that was not kept, and no merge that was kept of it or of those before it has a row above the tables.
pub record IsOpen (tables : List (List Row)) (logs : List SiteLog) : Type 0 where
  pub site : ℕ
  pub there : site < length logs
  pub dropped : (none : SiteLog) → IsSome (slice_index_or logs site none).dropped
  pub none_ahead : (j : ℕ) → j ≤ site → (none : SiteLog) → AreNotAhead tables (slice_index_or logs j none).taken.items

-- A log lacks a merge that was not kept for want of room, and no merge that was kept of it or of those before it tells more
-- than was done at the cut.
pub record LacksMerge (logs : List SiteLog) (accounts : ℕ → Account) : Type 0 where
  pub site : ℕ
  pub there : site < length logs
  pub dropped : (none : SiteLog) → IsSome (slice_index_or logs site none).dropped
  pub all_done : (j : ℕ) → j ≤ site → (none : SiteLog) → AllDone accounts (slice_index_or logs j none).taken.items

-- where the verdict is not known: never, where all is kept; or a merge is lacking; or the tables are not those at the cut
abbrev pub IsUntold : Keeping → List SiteLog → (ℕ → Account) → Type 0
IsUntold way.All logs accounts = ⊥
IsUntold (way.First most) logs accounts = LacksMerge logs accounts
IsUntold (way.Above tables) logs accounts = ¬ TellAll tables.items accounts
