-- What the links between two sites leave, which run in rounds (this project's own).
use Rattle.std.specs.Prelude.{◌≡◌, ℕ, zero, suc, ◌+◌, ◌<◌, ◌≤◌, ◌%◌, List, [], ◌∷◌, ◌++◌}
use Rattle.admission_model.specs.declared.ask.Ask.{Ask}
use Rattle.admission_model.specs.declared.ask.Ask.TheVariants.{Help}
use Rattle.session_book.specs.Passes.{PassState}
use Rattle.ordered_link.specs.Rule.{link_capacity}
use Rattle.ruled_pair.specs.declared.pair.RuledEnd.{RuledEnd}
use Rattle.ruled_pair.specs.declared.pair.PairReport.{PairReport}
use Rattle.ruled_pair.specs.Pairs.{IsPairReport}
use Rattle.run_engine.specs.declared.tasks.AlwaysOpen.{AlwaysOpen}
use Rattle.run_engine.specs.Callers.{HasAsked}
use Rattle.run_engine.specs.Gates.{always_answers}

-- the asks for help of so many turns, from this one on: of so many records they take one after another, and begin anew
abbrev pub helps : ℕ → ℕ → ℕ → List Ask
helps records from zero = []
helps records from (suc n) = helps records from n ++ Help ((from + n) % records) ∷ []

-- A site was asked to help each record whose turn comes in so many turns, from this one on, and each ask left a receipt, in
-- this order. Where a round has a turn for each record, nothing was asked.
pub record HasHelped (records from turns : ℕ) (old new : PassState) : Type 0 where
  pub many : link_capacity ≤ records → HasAsked (helps records from turns) old new
  pub few : records < link_capacity → new ≡ old

-- a round: how many turns it had, the passes of both outboxes once their sites had been asked to help, and the reports of
-- both links
pub record Round : Type 0 where
  pub turns : ℕ
  pub asked : PassState
  pub peer_asked : PassState
  pub there : PairReport
  pub back : PairReport

-- how many turns rounds had
abbrev pub turns_in : List Round → ℕ
turns_in [] = 0
turns_in (r ∷ rs) = turns_in rs + r.turns

-- A round whose first turn has this number in the run. Both sites were asked to help the records whose turns come; then both
-- links ran, by the gates of the ends, and their texts fit a link.
pub record IsRound {L M : Type 0} (records peer_records from : ℕ) (old new : RuledEnd L AlwaysOpen) (peer_old peer_new : RuledEnd M AlwaysOpen) (r : Round) : Type 0 where
  pub fits : r.turns + 1 ≤ link_capacity
  pub helped : HasHelped records from r.turns old.out_pass r.asked
  pub peer_helped : HasHelped peer_records from r.turns peer_old.out_pass r.peer_asked
  pub there : IsPairReport always_answers records r.turns r.asked new.out_pass peer_old.in_pass peer_new.in_pass old.gate new.gate r.there
  pub back : IsPairReport always_answers peer_records r.turns r.peer_asked peer_new.out_pass old.in_pass new.in_pass peer_old.gate peer_new.gate r.back

-- rounds one after another, the latest first
abbrev pub AreRounds : {L M : Type 0} → ℕ → ℕ → RuledEnd L AlwaysOpen → RuledEnd L AlwaysOpen → RuledEnd M AlwaysOpen → RuledEnd M AlwaysOpen → List Round → Type 0
AreRounds records peer_records old new peer_old peer_new [] = (new ≡ old) × (peer_new ≡ peer_old)
AreRounds {L} {M} records peer_records old new peer_old peer_new (r ∷ rs) =
    (mid : RuledEnd L AlwaysOpen) × (peer_mid : RuledEnd M AlwaysOpen) × AreRounds records peer_records old mid peer_old peer_mid rs
    × IsRound records peer_records (turns_in rs) mid new peer_mid peer_new r

-- the links of two sites, with so many records, have run so many turns, and leave these ends
pub record HaveRounds {L M : Type 0} (records peer_records turns : ℕ) (old new : RuledEnd L AlwaysOpen) (peer_old peer_new : RuledEnd M AlwaysOpen) : Type 0 where
  pub rounds : List Round
  pub count : turns_in rounds ≡ turns
  pub each : AreRounds records peer_records old new peer_old peer_new rounds
