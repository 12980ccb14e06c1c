-- The notices so far are put, and there is room for the rest.
use Rattle.std.proofs.Common.{◌≡◌, ℕ, ◌+◌, ◌≤◌, length, take, List}
use Rattle.std.specs.Map.{lookup}
use Rattle.indexmap.specs.IndexMap.{spare}
use Rattle.store_rows.specs.declared.content.StoredNotice.{StoredNotice}
use Rattle.store_rows.specs.Rows.{notice_before}
use Rattle.store_rows.specs.Sorted.{put_all}
use Rattle.store_content.specs.Content.{notice_in}
use Rattle.store_content.specs.Known.{same_key}
use Rattle.store_content.proofs.index.put_notices.Given as goal

abbrev pub invariant-loop-notice : goal.invariant-loop-notice
invariant-loop-notice l = record {
  room : length l.rows ≤ spare l.known + l.notice-index;
  put : (ns : List StoredNotice) → ((r j : ℕ) → lookup (same_key (r, j)) l.initial.known.entries ≡ notice_in ns r j)
      → (r j : ℕ) → lookup (same_key (r, j)) l.known.entries ≡ notice_in (put_all notice_before (take l.notice-index l.rows) ns) r j;
}
