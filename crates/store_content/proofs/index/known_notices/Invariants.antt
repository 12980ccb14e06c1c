-- The notices so far, from the last on.
use Rattle.std.proofs.Common.{◌≡◌, ℕ, ◌≤◌, length, drop}
use Rattle.std.specs.Map.{lookup}
use Rattle.store_content.specs.Content.{notice_in}
use Rattle.store_content.specs.Known.{same_key}
use Rattle.store_content.proofs.index.known_notices.Given as goal

abbrev pub invariant-notices : goal.invariant-notices
invariant-notices l = record {
  within : l.left ≤ length l.notices;
  known : (r j : ℕ) → lookup (same_key (r, j)) l.known.entries ≡ notice_in (drop l.left l.notices) r j;
}

abbrev pub decreases-notices : goal.decreases-notices
decreases-notices l = l.left
