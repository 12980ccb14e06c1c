-- What a caller of a site holds: its receipts, and whether it was told that the site has stopped or that its log is full.
use Rattle.std.specs.Prelude.{◌≡◌, ◌≢◌, ℕ, zero, suc, ◌+◌, ◌==◌, ◌||◌, Bool, true, false, List, [], ◌∷◌, ◌++◌, length, if◌then◌else◌}
use Rattle.admission_model.specs.declared.ask.Call.{Call}
use Rattle.admission_model.specs.declared.reply.Refusal.TheVariants.{Frozen, LogFull}
use Rattle.admission_model.specs.declared.reply.Reply.{Reply}
use Rattle.admission_model.specs.declared.reply.Reply.TheVariants.{Refused}
use Rattle.desk_log.specs.declared.entry.Entry.{Entry}
use Rattle.desk_log.specs.Log.{is_logged}
use Rattle.session_book.specs.declared.pass.Receipt.{Receipt}

-- a pass as contracts see it
pub record PassState : Type 0 where
  pub number : ℕ
  pub receipts : List Receipt
  pub frozen : Bool
  pub log_full : Bool

-- the reply tells that the site has stopped
abbrev pub is_frozen_reply : Reply → Bool
is_frozen_reply (Refused Frozen) = true
is_frozen_reply _ = false

-- the reply tells that the log is full
abbrev pub is_full_reply : Reply → Bool
is_full_reply (Refused LogFull) = true
is_full_reply _ = false

-- a pass that was given out
abbrev pub new_pass : ℕ → PassState
new_pass n = record { number = n; receipts = []; frozen = false; log_full = false }

-- A pass after a call was answered: a logged reply leaves a receipt, and a frozen site and a full log leave a mark.
abbrev pub pass_after : PassState → Call → Reply → PassState
pass_after p call reply = record {
  number = p.number;
  receipts = if is_logged reply then p.receipts ++ record { call = call; reply = reply } ∷ [] else p.receipts;
  frozen = p.frozen || is_frozen_reply reply;
  log_full = p.log_full || is_full_reply reply;
}

-- the receipts that a log has of the pass with a number
abbrev pub receipts_of : ℕ → List Entry → List Receipt
receipts_of n [] = []
receipts_of n (e ∷ es) =
    if e.pass == n then (record { call = e.call; reply = e.reply } ∷ receipts_of n es) else receipts_of n es

-- two lists of receipts are alike before this place and no further: there a pair differs, or a list has ended
abbrev pub IsFirstOther : List Receipt → List Receipt → ℕ → Type 0
IsFirstOther qs [] at = at ≡ 0
IsFirstOther [] (r ∷ rs) at = at ≡ 0
IsFirstOther (q ∷ qs) (r ∷ rs) zero = q ≢ r
IsFirstOther (q ∷ qs) (r ∷ rs) (suc at) = (q ≡ r) × IsFirstOther qs rs at

-- how many receipts passes have together
abbrev pub receipts_in : List PassState → ℕ
receipts_in [] = 0
receipts_in (p ∷ ps) = length p.receipts + receipts_in ps
