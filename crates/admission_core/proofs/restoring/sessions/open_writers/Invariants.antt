use Rattle.std.proofs.Common.{◌≡◌, ℕ, ◌*◌, ◌<◌, ◌≤◌, length, get_or, take}
use Rattle.admission_model.specs.Account.{session_total, writers}
use Rattle.admission_core.proofs.restoring.sessions.open_writers.Given as goal

abbrev pub invariant-loop-session : goal.invariant-loop-session
invariant-loop-session l = record {
  size : length l.sums.items ≡ length l.layout.records;
  few : (r : ℕ) → get_or l.sums.items r 0 ≤ 65535 * l.session-index;
  sums : (r : ℕ) → r < length l.layout.records → get_or l.sums.items r 0 ≡ session_total (writers) r (take l.session-index l.sessions);
}
