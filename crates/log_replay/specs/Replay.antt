-- What replaying the transcript of one site comes to, step by step (no public contract cites these).
use Rattle.std.specs.Prelude.{◌≡◌, ℕ, zero, suc, ◌+◌, ◌<◌, ◌≤◌, Bool, true, false, if◌then◌else◌, List, [], ◌∷◌, length, None, Option, Some, slice_index_or}
use Rattle.merge_core.specs.declared.cell.Cell.{Cell}
use Rattle.merge_core.specs.declared.delta.Row.{Row}
use Rattle.merge_core.specs.Layout.{LayoutState, at_sites, layout_fault}
use Rattle.merge_core.specs.Rows.{counter_in, counters_of}
use Rattle.admission_model.specs.Account.{Account, own, start_origin}
use Rattle.admission_model.specs.View.{view_of}
use Rattle.admission_model.specs.Serving.{after, reply_of}
use Rattle.admission_core.specs.Core.{Core, Stands}
use Rattle.admission_core.specs.Kept.{DurableState, durable_of}
use Rattle.desk_log.specs.declared.entry.Entry.{Entry}
use Rattle.desk_log.specs.declared.transcript.Run.{Run}
use Rattle.desk_log.specs.Log.{is_fault, IsInDoubt, IsLegal}
use Rattle.log_replay.specs.declared.replay.Replayed.{Replayed}
use Rattle.log_replay.specs.declared.replay.Replayed.TheVariants.{Legal, BadJoint, BadReply}
use Rattle.log_replay.specs.declared.replay.RunEnd.{RunEnd}
use Rattle.log_replay.specs.declared.replay.RunEnd.TheVariants.{NoJoint, NoReply, Passed}
use Rattle.log_replay.specs.declared.replay.Step.{Step}
use Rattle.log_replay.specs.declared.replay.Step.TheVariants.{Goes, Ends}
use Rattle.log_replay.specs.Legal.{is_same_part, started, was_kept, after_run, Begins, AreLegal, IsBadJoint, IsFirstBad, IsBadReply, first_sites, start_account, account_at}

-- Entries are answered as in the model: n of them lead from one account to another, and these are left.
abbrev pub IsWay : Account → List Entry → ℕ → Account → List Entry → Type 0
IsWay a es zero b rest = (b ≡ a) × (rest ≡ es)
IsWay a [] (suc n) b rest = ⊥
IsWay a (e ∷ es) (suc n) b rest = (e.reply ≡ reply_of (view_of a) e.call) × IsWay (after a e.call) es n b rest

-- no entry is left, or the first one has another reply than the model's
abbrev pub IsStop : Account → List Entry → Type 0
IsStop b [] = Unit {0}
IsStop b (e ∷ later) = ¬ (e.reply ≡ reply_of (view_of b) e.call)

-- nothing is left, or the first entry has the store's fault for a reply, so that it was not carried out
abbrev pub IsEndable : List Entry → Type 0
IsEndable [] = Unit {0}
IsEndable (e ∷ later) = is_fault e.reply ≡ true

-- A core has followed the first n entries, as far as their replies are the model's. Where the next one was carried out, it
-- may be any core.
pub record IsFollowed (a : Account) (es : List Entry) (n : ℕ) (c : Core) : Type 0 where
  pub reached : Account
  pub left : List Entry
  pub way : IsWay a es n reached left
  pub stands : IsEndable left → Stands reached c
  pub stop : IsStop reached left

-- what is left of a run's entries may end it: nothing, or one call in doubt
abbrev pub IsEnd : Account → List Entry → Type 0
IsEnd b [] = Unit {0}
IsEnd b (e ∷ later) = IsInDoubt b e.call e.reply × (later ≡ [])

-- the account where a call in doubt at the end was carried out
abbrev pub tried_at : Account → List Entry → Account
tried_at b [] = b
tried_at b (e ∷ later) = after b e.call

-- rows tell the own counters of an account, record by record
pub record TellsOwn (records : ℕ) (rows : List Row) (a : Account) : Type 0 where
  pub number : length rows ≡ records
  pub tells : (r : ℕ) → r < records → (none : Row) (cell : Cell) → counter_in (counters_of (slice_index_or rows r none)) cell ≡ own a r cell

-- The cut is so many entries ahead, or the own rows there were taken.
abbrev pub IsMarked : ℕ → Account → Account → List Run → ℕ → Option (List Row) → Type 0
IsMarked records target b later left None = target ≡ account_at b left later
IsMarked records target b later left (Some rows) = TellsOwn records rows target

-- the site may know so many sites
pub record FitsSites (layout : LayoutState) (i n : ℕ) : Type 0 where
  pub site_there : i < n
  pub no_more : n ≤ layout.sites
  pub records_fit : layout_fault n layout.records ≡ None

-- a site with this core may know so many sites in its next run: no fewer than before
pub record FitsNext (layout : LayoutState) (core : Core) (n : ℕ) : Type 0 where
  pub no_fewer : core.layout.sites ≤ n
  pub fits : FitsSites layout core.site n

-- whether a durable part is what the account with the call in doubt leaves, or else what that without it leaves
abbrev pub IsKept : Account → Account → DurableState → Option Bool → Type 0
IsKept b t first (Some true) = first ≡ durable_of t
IsKept b t first (Some false) = (¬ (first ≡ durable_of t)) × (first ≡ durable_of b)
IsKept b t first None = (¬ (first ≡ durable_of t)) × (¬ (first ≡ durable_of b))

-- the account before a run, by those without and with a call in doubt
abbrev pub settled : Account → Account → Run → Account
settled b t run = if is_same_part run.first (durable_of t) then t else b

-- the answer to a run after these accounts: its core, and whether the call in doubt was carried out
abbrev pub IsJoint : LayoutState → ℕ → Account → Account → Run → Option (Core × Bool) → Type 0
IsJoint layout i b t run None = ¬ Begins layout i (settled b t run) run
IsJoint layout i b t run (Some (c, kept)) =
    Begins layout i (settled b t run) run × (kept ≡ is_same_part run.first (durable_of t)) × Stands (started (settled b t run) run) c

-- a core stands before runs: it has begun the first one, or stands for the account where there is none
abbrev pub IsBefore : LayoutState → ℕ → Account → List Run → Core → Type 0
IsBefore layout i a [] c = Stands a c
IsBefore layout i a (run ∷ later) c = Begins layout i a run × Stands (started a run) c

-- there is a first run, and it does not begin where the site was
abbrev pub IsNoBegin : LayoutState → ℕ → Account → List Run → Type 0
IsNoBegin layout i a [] = ⊥
IsNoBegin layout i a (run ∷ later) = ¬ Begins layout i a run

-- a core before the first of these runs, if it begins where the site was
abbrev pub IsFirstCore : LayoutState → ℕ → Account → List Run → Option Core → Type 0
IsFirstCore layout i a runs None = IsNoBegin layout i a runs
IsFirstCore layout i a runs (Some c) = IsBefore layout i a runs c

-- what comes after these accounts: the core before the first of these runs
abbrev pub IsNext : LayoutState → ℕ → Account → Account → List Run → RunEnd → Type 0
IsNext layout i b t later (NoReply n) = ⊥
IsNext layout i b t [] NoJoint = ⊥
IsNext layout i b t [] (Passed c kept) = Stands b c × (kept ≡ false)
IsNext layout i b t (run ∷ later) NoJoint = ¬ Begins layout i (settled b t run) run
IsNext layout i b t (run ∷ later) (Passed c kept) =
    Begins layout i (settled b t run) run × (kept ≡ is_same_part run.first (durable_of t)) × Stands (started (settled b t run) run) c

-- the run was passed
abbrev pub IsGood : RunEnd → Type 0
IsGood (NoReply n) = ⊥
IsGood NoJoint = ⊥
IsGood (Passed core kept) = Unit {0}

-- how a run that these follow ended
abbrev pub IsRunEnd : LayoutState → ℕ → Account → Run → List Run → RunEnd → Type 0
IsRunEnd layout i a run later (NoReply n) = IsFirstBad (started a run) run.entries n
IsRunEnd layout i a run later NoJoint = IsLegal (started a run) run.entries × IsNoBegin layout i (after_run a run later) later
IsRunEnd layout i a run later (Passed core kept) =
    IsLegal (started a run) run.entries × (kept ≡ was_kept a run later) × IsBefore layout i (after_run a run later) later core

-- whether the last call of each run, if it is in doubt, was carried out
abbrev pub flags_of : Account → List Run → List Bool
flags_of a [] = []
flags_of a (run ∷ later) = was_kept a run later ∷ flags_of (after_run a run later) later

-- Legal runs lead from one account to another, with these flags and so many entries, and these runs are left.
abbrev pub IsPath : LayoutState → ℕ → Account → List Run → List Bool → ℕ → Account → List Run → Type 0
IsPath layout i a runs [] at b rest = (at ≡ 0) × (b ≡ a) × (rest ≡ runs)
IsPath layout i a [] (flag ∷ flags) at b rest = ⊥
IsPath layout i a (run ∷ later) (flag ∷ flags) at b rest =
    Begins layout i a run
    × (IsLegal (started a run) run.entries
    × ((flag ≡ was_kept a run later)
    × ((n : ℕ) × ((at ≡ length run.entries + n) × IsPath layout i (after_run a run later) later flags n b rest))))

-- the answer to a transcript and its cut
abbrev pub IsReplayed : LayoutState → ℕ → List Run → ℕ → Replayed → Type 0
IsReplayed layout i runs cut (Legal history) =
    AreLegal layout i (start_account layout i runs) runs
    × (history.kept ≡ flags_of (start_account layout i runs) runs)
    × TellsOwn (length layout.records) history.own (account_at (start_account layout i runs) cut runs)
IsReplayed layout i runs cut BadJoint = IsBadJoint layout i (start_account layout i runs) runs
IsReplayed layout i runs cut (BadReply at) = IsBadReply layout i (start_account layout i runs) runs at

-- A core stands before the runs that are left, of those of site i; the flags and the number of entries of those before it
-- were kept; and the cut is so many entries ahead, or the own rows there were taken.
pub record IsOnPath (layout : LayoutState) (i : ℕ) (runs : List Run) (cut : ℕ) (rest : List Run) (core : Core) (kept : List Bool) (at left : ℕ) (own : Option (List Row)) : Type 0 where
  pub account : Account
  pub origin : account.origin ≡ start_origin (at_sites (first_sites layout runs) layout) i
  pub path : IsPath layout i (start_account layout i runs) runs kept at account rest
  pub before : IsBefore layout i account rest core
  pub marked : IsMarked (length layout.records) (account_at (start_account layout i runs) cut runs) account rest left own

-- a run was passed, or has the first fault
abbrev pub IsStep : LayoutState → ℕ → List Run → ℕ → List Run → List Bool → ℕ → ℕ → Option (List Row) → Step → Type 0
IsStep layout i runs cut later kept at left own (Goes core) = IsOnPath layout i runs cut later core kept at left own
IsStep layout i runs cut later kept at left own (Ends replayed) = IsReplayed layout i runs cut replayed
