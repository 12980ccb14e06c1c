-- A site's log: every call that was served, with its pass and its reply, oldest first; and the account that the log
-- tells. The account is never stored: it is where the opening began, and what the entries say was done and heard.
use Rattle.std.specs.Prelude.{◌≡◌, ℕ, ◌⊎◌, Bool, true, false, List, [], ◌∷◌, ◌++◌, if◌then◌else◌}
use Rattle.merge_core.specs.Layout.{LayoutState}
use Rattle.admission_model.specs.declared.ask.Call.{Call}
use Rattle.admission_model.specs.declared.reply.Refusal.TheVariants.{Memory, Frozen, LogFull, StoreFault}
use Rattle.admission_model.specs.declared.reply.Reply.{Reply}
use Rattle.admission_model.specs.declared.reply.Reply.TheVariants.{Refused}
use Rattle.admission_model.specs.Account.{Account, begin}
use Rattle.admission_model.specs.View.{view_of}
use Rattle.admission_model.specs.Serving.{after, reply_of}
use Rattle.admission_model.specs.Durable.{change_between, IsEmpty}
use Rattle.admission_model.specs.Restoring.{origin_from}
use Rattle.admission_core.specs.Kept.{DurableState}
use Rattle.desk_log.specs.declared.entry.Entry.{Entry}

-- the reply is the store's fault: whether the call was kept is in doubt
abbrev pub is_fault : Reply → Bool
is_fault (Refused StoreFault) = true
is_fault _ = false

-- the reply is logged: a call that found no memory, a frozen desk or a full log leaves no entry
abbrev pub is_logged : Reply → Bool
is_logged (Refused Memory) = false
is_logged (Refused Frozen) = false
is_logged (Refused LogFull) = false
is_logged _ = true

-- the last reply of a log is the store's fault; before any entry it is as told
abbrev pub ends_in_fault : Bool → List Entry → Bool
ends_in_fault b [] = b
ends_in_fault b (e ∷ es) = ends_in_fault (is_fault e.reply) es

-- the account that begins from a durable part
abbrev pub begun : LayoutState → ℕ → DurableState → Account
begun layout i d = begin (origin_from layout i d.cells d.sessions)

-- the account after an entry: a call in doubt leaves it as it was
abbrev pub after_entry : Account → Entry → Account
after_entry a e = if is_fault e.reply then a else after a e.call

-- the account after a log
abbrev pub account_after : Account → List Entry → Account
account_after a [] = a
account_after a (e ∷ es) = account_after (after_entry a e) es

-- the account after a log where a call in doubt was kept
abbrev pub account_tried : Account → List Entry → Account
account_tried a [] = a
account_tried a (e ∷ es) = account_tried (after a e.call) es

-- a call that is answered with the store's fault changes the durable part, else no store is called
pub record IsInDoubt (a : Account) (call : Call) (reply : Reply) : Type 0 where
  pub fault : is_fault reply ≡ true
  pub changes : ¬ IsEmpty (change_between a (after a call))

-- A log is legal from an account (a legal sequential history, Herlihy and Wing, 1990): each reply is the model's at the
-- account of the entries before it, but a last one may be the store's fault.
abbrev pub IsLegal : Account → List Entry → Type 0
IsLegal a [] = Unit {0}
IsLegal a (e ∷ es) =
    ((e.reply ≡ reply_of (view_of a) e.call) × IsLegal (after a e.call) es)
    ⊎ (IsInDoubt a e.call e.reply × (es ≡ []))

-- what an opening began with, its entries, and how many of them there may be
pub record LogState : Type 0 where
  pub first : DurableState
  pub entries : List Entry
  pub limit : ℕ

-- the log after a call was answered
abbrev pub log_with : ℕ → Call → Reply → LogState → LogState
log_with pass call reply log =
    if is_logged reply then record log { entries = log.entries ++ record { pass = pass; call = call; reply = reply } ∷ [] } else log
