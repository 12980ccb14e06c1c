-- The notices of writers: at each site how many were announced and how many finished, two grow-only
-- counters (Shapiro et al., 2011) that carry the second problem of Courtois, Heymans and Parnas (1971).
use Rattle.std.specs.Prelude.{◌≡◌, ℕ, ◌+◌, ◌-◌, ◌<◌, ◌≤◌, List, length, max, nat_le, if◌then◌else◌, slice_index, slice_set, Option, Some, None}
use Rattle.grow_counters.specs.Counts.{counter_limit, rise_count, maxima}
use Rattle.writer_notices.specs.declared.notices.NoticeError.{NoticeError}
use Rattle.writer_notices.specs.declared.notices.NoticeError.TheVariants.{CounterFull, TooManyWriters}

-- the notices as contracts see them: one counter for each site, twice
pub record NoticeState : Type 0 where
  pub announced : List ℕ
  pub finished : List ℕ

-- one counter of each kind for each of at most 16 sites; no site finished more than it announced, and none
-- is past the limit
pub record IsNotices (n : NoticeState) : Type 0 where
  pub few_sites : length n.announced ≤ 16
  pub same_length : length n.finished ≡ length n.announced
  pub in_order : (s : ℕ) → slice_index n.finished s ≤ slice_index n.announced s
  pub limited : (s : ℕ) → slice_index n.announced s ≤ counter_limit

-- how many writers of a site announced themselves and have not finished
abbrev pub open_count : NoticeState → ℕ → ℕ
open_count n s = slice_index n.announced s - slice_index n.finished s

-- a site has an unfinished writer
abbrev pub IsOpen : NoticeState → ℕ → Type 0
IsOpen n s = slice_index n.finished s < slice_index n.announced s

-- the least site with an unfinished writer
pub record IsLeastOpen (n : NoticeState) (s : ℕ) : Type 0 where
  pub has_writer : IsOpen n s
  pub least : (t : ℕ) → IsOpen n t → s ≤ t

-- the unfinished writers that a site has at most
abbrev pub most_writers : ℕ
most_writers = 64

-- why no writer is announced: the counter is at its limit, or the site has all its unfinished writers
abbrev pub announce_fault : NoticeState → ℕ → Option NoticeError
announce_fault n s =
    if nat_le counter_limit (slice_index n.announced s) then Some CounterFull else (
    if nat_le most_writers (open_count n s) then Some TooManyWriters else None)

-- one writer more is announced at a site
abbrev pub announced_at : NoticeState → ℕ → NoticeState
announced_at n s = record { announced = slice_set n.announced s (slice_index n.announced s + 1); finished = n.finished }

-- one writer more is finished at a site
abbrev pub finished_at : NoticeState → ℕ → NoticeState
finished_at n s = record { announced = n.announced; finished = slice_set n.finished s (slice_index n.finished s + 1) }

-- the join of two states, counter by counter
abbrev pub joined : NoticeState → NoticeState → NoticeState
joined n m = record { announced = maxima n.announced m.announced; finished = maxima n.finished m.finished }

-- the join with the counters of one site
abbrev pub joined_at : NoticeState → ℕ → ℕ → ℕ → NoticeState
joined_at n s ann fin =
    record { announced = slice_set n.announced s (max (slice_index n.announced s) ann); finished = slice_set n.finished s (max (slice_index n.finished s) fin) }

-- how many counters of the new state are above those of the old one
abbrev pub notice_rises : NoticeState → NoticeState → ℕ
notice_rises old new = rise_count old.announced new.announced + rise_count old.finished new.finished
