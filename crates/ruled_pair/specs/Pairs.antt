-- What the runners of a direction leave, and what its report says (this project's own).
use Rattle.std.specs.Prelude.{◌≡◌, ◌≢◌, ◌+◌, ◌<◌, ◌≤◌, ◌⊎◌, ℕ, Bool, true, false, List, [], ◌++◌, length, map, string_bytes, Option}
use Rattle.merge_core.specs.Delta.{DeltaState}
use Rattle.session_book.specs.declared.pass.Receipt.{Receipt}
use Rattle.session_book.specs.Passes.{PassState}
use Rattle.exchange_threads.specs.declared.report.OutReport.{OutReport}
use Rattle.exchange_threads.specs.declared.report.InReport.{InReport}
use Rattle.ordered_link.specs.Rule.{link_capacity}
use Rattle.exchange_threads.specs.Turns.{IsMarked}
use Rattle.exchange_threads.specs.Outbox.{HasRunOut}
use Rattle.exchange_threads.specs.Inbox.{HasRunIn}
use Rattle.ruled_pair.specs.declared.outlet.RuledOutlet.{RuledOutlet}
use Rattle.ruled_pair.specs.declared.inlet.RuledInlet.{RuledInlet}
use Rattle.ruled_pair.specs.declared.pair.Direction.{Direction}
use Rattle.ruled_pair.specs.declared.pair.PairReport.{PairReport}
use Rattle.ruled_pair.specs.declared.pair.PairError.{PairError}
use Rattle.ruled_pair.specs.declared.pair.PairError.TheVariants.{NoLink, Memory}
use Rattle.ruled_pair.specs.Sent.{AreSent}
use Rattle.ruled_pair.specs.Heard.{AreHeard}

-- nothing was put yet, the link is open, and the pass has so many receipts
pub record IsFreshOutlet (e : RuledOutlet) (count : ℕ) : Type 0 where
  pub first : e.first ≡ count
  pub put : e.put.items ≡ []
  pub sent_at : e.sent_at.items ≡ []
  pub link : e.putter.put ≡ []
  pub unfinished : e.putter.finished ≡ false
  pub none_late : e.putter.late ≡ []
  pub open_yet : e.putter.closed ≡ false

-- nothing was taken yet, the link is open, and the pass has so many receipts
pub record IsFreshInlet (e : RuledInlet) (count : ℕ) : Type 0 where
  pub first : e.first ≡ count
  pub taken : e.taken.items ≡ []
  pub fates : e.fates.items ≡ []
  pub link : e.taker.taken ≡ []
  pub going : e.taker.ended ≡ false
  pub open_yet : e.taker.receives ≡ true

-- the report of a sending end is right, and tells what was put; the link was told that no text follows, and none did, or its
-- taker is gone
pub record HasSent (old new : RuledOutlet) (rs : List Receipt) (n : ℕ) : Type 0 where
  pub first : new.first ≡ old.first
  pub link : new.putter.link ≡ old.putter.link
  pub last : Option DeltaState
  pub sent : AreSent rs new.first new.sent_at.items (map string_bytes new.put.items) n last
  pub put : new.putter.put ≡ map string_bytes new.put.items
  pub finished : (new.putter.finished ≡ true) ⊎ (new.putter.closed ≡ true)
  pub none_late : new.putter.late ≡ []

-- the report of a receiving end is right, and tells what was taken; the end is closed
pub record HasTaken (old new : RuledInlet) (p : PassState) (m : ℕ) : Type 0 where
  pub first : new.first ≡ old.first
  pub link : new.taker.link ≡ old.taker.link
  pub ended : Bool
  pub heard : AreHeard p.receipts new.first (map string_bytes new.taken.items) new.fates.items m ended
  pub marked : ended ≡ true → IsMarked p
  pub taken : new.taker.taken ≡ map string_bytes new.taken.items
  pub closed : new.taker.receives ≡ false

-- both ends of a new link, for passes that have so many receipts
pub record IsFresh (d : Direction) (out_count in_count : ℕ) : Type 0 where
  pub outlet : IsFreshOutlet d.outlet out_count
  pub inlet : IsFreshInlet d.inlet in_count
  pub link : d.outlet.putter.link ≡ d.inlet.taker.link

-- An outbox made all its turns, or its site had stopped or its log was full, or its link was closed, and then was not told
-- that no text follows.
abbrev pub MayEndOut : ℕ → PassState → RuledOutlet → OutReport → Type 0
MayEndOut asked p e r = (r.turns ≡ asked) ⊎ (IsMarked p ⊎ (e.putter.finished ≡ false))

-- An inbox made all its turns, in each of which it took a text or met want of memory; or its site had stopped or its log was
-- full; or its link told that no text follows.
abbrev pub MayEndIn : ℕ → PassState → RuledInlet → InReport → Type 0
MayEndIn asked p e r = (asked ≤ r.taken + r.memory) ⊎ (IsMarked p ⊎ (e.taker.finished ≡ true))

-- both runners of a direction have run, the outbox by the answers of this gate
pub record HasRunBoth {G : Type 0} (answers : G → ℕ → Bool → G → Type 0) (records asked : ℕ)
    (out_old out_new in_old in_new : PassState) (gate_old gate_new : G) (old new : Direction) (out : OutReport) (got : InReport) : Type 0 where
  pub ran_out : HasRunOut answers records out_old out_new gate_old gate_new asked out
  pub ran_in : HasRunIn (map string_bytes new.inlet.taken.items) in_old in_new asked got
  pub sent : HasSent old.outlet new.outlet out_new.receipts out.sent
  pub taken : HasTaken old.inlet new.inlet in_new got.memory
  pub end_out : MayEndOut asked out_new new.outlet out
  pub end_in : MayEndIn asked in_new new.inlet got

-- a report has what both ends of a direction kept, of which the link's rule says this
pub record IsReportOf (d : Direction) (out : OutReport) (got : InReport) (r : PairReport) : Type 0 where
  pub rest : List (List ℕ)
  pub link : d.outlet.putter.put ≡ d.inlet.taker.taken ++ rest
  pub left : length rest ≤ link_capacity
  pub all : d.inlet.taker.finished ≡ true → (d.outlet.putter.finished ≡ true) × (d.outlet.putter.late ≡ [] → rest ≡ [])
  pub kept : r ≡ record { put = d.outlet.put; taken = d.inlet.taken; sent_at = d.outlet.sent_at; fates = d.inlet.fates; out = out; got = got }

-- What was taken is a prefix of what was put, byte for byte, and lacks at most as many texts as a link holds; and both
-- runners' reports are right of their passes, the outbox's by the answers of the gate that was handed in, the inbox's of the
-- texts that are listed as taken. An outbox that made fewer turns than it was asked for found its site stopped or its log
-- full, or its inbox did, or met want of memory. An inbox made all its turns, in each of which it took a text or met want of
-- memory; or it found its site stopped or its log full; or it took every text that was put.
pub record IsPairReport {G : Type 0} (answers : G → ℕ → Bool → G → Type 0) (records asked : ℕ) (out_old out_new in_old in_new : PassState) (gate_old gate_new : G) (r : PairReport) : Type 0 where
  pub rest : List (List ℕ)
  pub link : map string_bytes r.put.items ≡ map string_bytes r.taken.items ++ rest
  pub left : length rest ≤ link_capacity
  pub ran_out : HasRunOut answers records out_old out_new gate_old gate_new asked r.out
  pub ran_in : HasRunIn (map string_bytes r.taken.items) in_old in_new asked r.got
  pub last : Option DeltaState
  pub sent : AreSent out_new.receipts (length out_old.receipts) r.sent_at.items (map string_bytes r.put.items) r.out.sent last
  pub ended : Bool
  pub heard : AreHeard in_new.receipts (length in_old.receipts) (map string_bytes r.taken.items) r.fates.items r.got.memory ended
  pub marked : ended ≡ true → IsMarked in_new
  pub end_out : (r.out.turns ≡ asked) ⊎ (IsMarked out_new ⊎ (IsMarked in_new ⊎ (0 < r.got.memory)))
  pub end_in : (asked ≤ r.got.taken + r.got.memory) ⊎ (IsMarked in_new ⊎ (rest ≡ []))

-- why no runner was started: both sites have one number; or memory ran out, where they have not
abbrev pub IsRefusal : ℕ → ℕ → PairError → Type 0
IsRefusal first second NoLink = first ≡ second
IsRefusal first second Memory = first ≢ second
