-- The places so far, from the last session on, where no holder stands twice at a record.
use Rattle.std.proofs.Common.{◌≡◌, ℕ, ◌≤◌, length, drop}
use Rattle.std.specs.List.{IsDistinct}
use Rattle.std.specs.Map.{keys_of, lookup}
use Rattle.store_content.specs.Content.{IsOnce, place_in}
use Rattle.store_content.specs.Known.{same_key}
use Rattle.store_content.proofs.index.places_of.Given as goal

abbrev pub invariant-sessions : goal.invariant-sessions
invariant-sessions l = record {
  within : l.left ≤ length l.sessions;
  places : (r h : ℕ) → lookup (same_key (r, h)) l.places.entries ≡ place_in (drop l.left l.sessions) r h;
  once : IsOnce (drop l.left l.sessions);
  unique : IsDistinct same_key (keys_of l.places.entries);
}

abbrev pub decreases-sessions : goal.decreases-sessions
decreases-sessions l = l.left
