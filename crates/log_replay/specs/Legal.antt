-- What the closed logs of a site may be: runs, of which each begins with what the ones before it left, and each reply
-- is the model's (a legal sequential history, Herlihy and Wing, 1990, over restarts). Nothing is stored: every account
-- here is read off the runs.
use Rattle.std.specs.Prelude.{◌≡◌, ℕ, zero, suc, ◌+◌, ◌-◌, ◌≤◌, ◌<◌, ◌==◌, ◌⊎◌, Bool, true, false, ◌&&◌, nat_lt, if◌then◌else◌, List, [], ◌∷◌, take, length, None}
use Rattle.merge_core.specs.Layout.{LayoutState, layout_fault, at_sites}
use Rattle.session_list.specs.declared.session.Session.{Session}
use Rattle.admission_model.specs.declared.durable.DurableCell.{DurableCell}
use Rattle.admission_model.specs.Account.{Account, begin, start_origin, is_key}
use Rattle.admission_model.specs.Knowledge.{grown}
use Rattle.admission_model.specs.View.{view_of}
use Rattle.admission_model.specs.Serving.{after, reply_of}
use Rattle.admission_model.specs.Durable.{is_same_place, is_same_phase}
use Rattle.admission_core.specs.Kept.{DurableState, durable_of}
use Rattle.desk_log.specs.declared.entry.Entry.{Entry}
use Rattle.desk_log.specs.declared.transcript.Run.{Run}
use Rattle.desk_log.specs.Log.{account_after, account_tried, IsInDoubt, IsLegal}

-- two counters of a durable part are the same
abbrev pub is_same_cell : DurableCell → DurableCell → Bool
is_same_cell c d = is_same_place c d && (c.value == d.value)

-- two sessions are the same
abbrev pub is_same_session : Session → Session → Bool
is_same_session s t = is_key s.r s.h t.r t.h && is_same_phase s.phase t.phase

-- two lists have the same elements in the same order
abbrev pub are_same : {X : Type 0} → (X → X → Bool) → List X → List X → Bool
are_same same [] [] = true
are_same same (x ∷ xs) (y ∷ ys) = same x y && are_same same xs ys
are_same same _ _ = false

-- two durable parts are the same
unfoldable pub is_same_part : DurableState → DurableState → Bool
is_same_part d e = are_same is_same_cell d.cells e.cells && are_same is_same_session d.sessions e.sessions

-- the account when a run has begun: the site is started again under its layout with the run's number of sites
abbrev pub started : Account → Run → Account
started a run = grown run.sites a

-- the account after the calls of a run that were answered
abbrev pub answered_in : Account → Run → Account
answered_in a run = account_after (started a run) run.entries

-- the same where a call in doubt was carried out too
abbrev pub tried_in : Account → Run → Account
tried_in a run = account_tried (started a run) run.entries

-- the first of these runs begins with the durable part; without one it is not known
abbrev pub begins_with : DurableState → List Run → Bool
begins_with d [] = false
begins_with d (run ∷ later) = is_same_part run.first d

-- a call in doubt counts as carried out where the next run begins with the durable part after it
abbrev pub was_kept : Account → Run → List Run → Bool
was_kept a run later = begins_with (durable_of (tried_in a run)) later

-- the account after a run that these follow
unfoldable pub after_run : Account → Run → List Run → Account
after_run a run later = if was_kept a run later then tried_in a run else answered_in a run

-- The account after the first n entries. A cut at the end of a run counts as one before the next run's first entry, so
-- that a call in doubt which was carried out is within it.
abbrev pub account_at : Account → ℕ → List Run → Account
account_at a n [] = a
account_at a n (run ∷ later) =
    if nat_lt n (length run.entries) then account_after (started a run) (take n run.entries)
    else account_at (after_run a run later) (n - length run.entries) later

-- The run begins where the site was: the site is one of its sites, it has no fewer sites than the one before it and no
-- more than the layout, the same records are a layout at so many sites, and its first durable part is the account's.
pub record Begins (layout : LayoutState) (i : ℕ) (a : Account) (run : Run) : Type 0 where
  pub site_there : i < run.sites
  pub no_fewer : a.sites ≤ run.sites
  pub no_more : run.sites ≤ layout.sites
  pub records_fit : layout_fault run.sites layout.records ≡ None
  pub first_part : run.first ≡ durable_of a

-- runs are legal from an account
abbrev pub AreLegal : LayoutState → ℕ → Account → List Run → Type 0
AreLegal layout i a [] = Unit {0}
AreLegal layout i a (run ∷ later) =
    Begins layout i a run × (IsLegal (started a run) run.entries × AreLegal layout i (after_run a run later) later)

-- the first fault of runs is a run that does not begin where the site was
abbrev pub IsBadJoint : LayoutState → ℕ → Account → List Run → Type 0
IsBadJoint layout i a [] = ⊥
IsBadJoint layout i a (run ∷ later) =
    (¬ Begins layout i a run)
    ⊎ (Begins layout i a run × (IsLegal (started a run) run.entries × IsBadJoint layout i (after_run a run later) later))

-- the entry that these follow can't stand: its reply is not the model's, nor is it the last one of its run and in doubt
pub record CannotStand (a : Account) (e : Entry) (later : List Entry) : Type 0 where
  pub other_reply : ¬ (e.reply ≡ reply_of (view_of a) e.call)
  pub no_doubt : ¬ (IsInDoubt a e.call e.reply × (later ≡ []))

-- the first entry that can't stand has the number
abbrev pub IsFirstBad : Account → List Entry → ℕ → Type 0
IsFirstBad a [] n = ⊥
IsFirstBad a (e ∷ later) zero = CannotStand a e later
IsFirstBad a (e ∷ later) (suc n) = (e.reply ≡ reply_of (view_of a) e.call) × IsFirstBad (after a e.call) later n

-- the first fault of runs is an entry that can't stand, of this number over all runs
abbrev pub IsBadReply : LayoutState → ℕ → Account → List Run → ℕ → Type 0
IsBadReply layout i a [] at = ⊥
IsBadReply layout i a (run ∷ later) at =
    Begins layout i a run
    × (IsFirstBad (started a run) run.entries at
    ⊎ (IsLegal (started a run) run.entries
    × ((n : ℕ) × ((at ≡ length run.entries + n) × IsBadReply layout i (after_run a run later) later n))))

-- the number of sites that the first run has; without a run the layout's
abbrev pub first_sites : LayoutState → List Run → ℕ
first_sites layout [] = layout.sites
first_sites layout (run ∷ later) = run.sites

-- where the runs of site i begin: nothing was done, and the grants stand
abbrev pub start_account : LayoutState → ℕ → List Run → Account
start_account layout i runs = begin (start_origin (at_sites (first_sites layout runs) layout) i)
