-- The desk of a site: its core, what keeps its durable part, and its log.
use Rattle.std.specs.Prelude.{◌≡◌, ℕ, ◌<◌, ◌≤◌, ◌⊎◌, Bool, true, false, [], length, if◌then◌else◌, Option, Some, None, Result, Ok, Err}
use Rattle.merge_core.specs.Layout.{LayoutState, IsLayout}
use Rattle.admission_model.specs.declared.ask.Ask.{Ask}
use Rattle.admission_model.specs.declared.ask.Call.{Call}
use Rattle.admission_model.specs.declared.ask.Call.TheVariants.{Ask as AskCall}
use Rattle.admission_model.specs.declared.reply.Refusal.{Refusal}
use Rattle.admission_model.specs.declared.reply.Refusal.TheVariants.{Memory as NoMemory, Frozen, LogFull, StoreFault as NoStore}
use Rattle.admission_model.specs.declared.reply.Reply.{Reply}
use Rattle.admission_model.specs.declared.reply.Reply.TheVariants.{Refused}
use Rattle.admission_model.specs.Account.{Account}
use Rattle.admission_model.specs.View.{view_of}
use Rattle.admission_model.specs.Serving.{after, reason, reply_of}
use Rattle.admission_model.specs.Durable.{change_between, IsEmpty}
use Rattle.admission_model.specs.Restoring.{AreCells, AreSessions}
use Rattle.admission_core.specs.Core.{Core, Stands, SameContent}
use Rattle.admission_core.specs.Kept.{DurableState, ChangeState, durable_of}
use Rattle.admission_core.specs.declared.restoring.RestoreError.{RestoreError}
use Rattle.admission_core.specs.declared.restoring.RestoreError.TheVariants.{BadSite as NoSuchSite, WrongCounters as NoCounters, WrongSessions as NoSessions, Memory as NoRoom}
use Rattle.durable_keeper.specs.Keeping.{changed}
use Rattle.durable_keeper.specs.declared.error.KeeperError.{KeeperError}
use Rattle.durable_keeper.specs.declared.error.KeeperError.TheVariants.{Memory as NoSpace, StoreFault as Failed}
use Rattle.durable_keeper.specs.declared.keeper.Keeper.{Ghosts}
use Rattle.desk_log.specs.declared.error.OpenError.{OpenError}
use Rattle.desk_log.specs.declared.error.OpenError.TheVariants.{BadSite, BadPasses, BadLimit, StoreFault, WrongCounters, WrongSessions, Memory}
use Rattle.desk_log.specs.declared.step.Served.{Served}
use Rattle.desk_log.specs.Log.{LogState, is_fault, is_logged, ends_in_fault, begun, account_after, account_tried, IsInDoubt, IsLegal, log_with}

-- a desk as contracts see it: the core, the keeper now and as the opening left it, and the log
pub record DeskState (K : Type 0) : Type 0 where
  pub core : Core
  pub keeper : K
  pub opened : K
  pub log : LogState

-- the numbers of an opening are good
pub record AreGood (layout : LayoutState) (i limit : ℕ) : Type 0 where
  pub site_there : i < layout.sites
  pub least : 16 ≤ limit
  pub most : limit ≤ 65536

-- The reply to a call at an open desk: the model's, or want of memory, or the store's fault where the durable part
-- would change. Want of memory may stand in place of a refusal of a merge, whose delta is copied first.
abbrev pub IsReply : Account → Call → Reply → Type 0
IsReply a call reply =
    (reply ≡ reply_of (view_of a) call) ⊎ ((reply ≡ Refused NoMemory) ⊎ IsInDoubt a call reply)

-- the copy for the log is the reply, and so is the one for a receipt where it is wanted
pub record IsCopied (wanted : Bool) (s : Served) : Type 0 where
  pub logged : s.logged ≡ s.reply
  pub receipt : wanted ≡ true → s.receipt ≡ Some s.reply

-- the copy for a receipt of a reply that is logged
abbrev pub receipt_of : Reply → Option Reply
receipt_of reply = if is_logged reply then Some reply else None

-- a keeper's refusal, as an opening tells it
abbrev pub load_fault : KeeperError → OpenError
load_fault NoSpace = Memory
load_fault Failed = StoreFault

-- a wrong durable part, as an opening tells it
abbrev pub restore_fault : RestoreError → OpenError
restore_fault NoSuchSite = BadSite
restore_fault NoCounters = WrongCounters
restore_fault NoSessions = WrongSessions
restore_fault NoRoom = Memory

module _ {K : Type 0} where
  -- the account that the opening began with
  abbrev pub first_account : DeskState K → Account
  first_account d = begun d.core.layout d.core.site d.log.first

  -- the account of the log
  abbrev pub account_of : DeskState K → Account
  account_of d = account_after (first_account d) d.log.entries

  -- the account of the log where a call in doubt was kept
  abbrev pub account_if_kept : DeskState K → Account
  account_if_kept d = account_tried (first_account d) d.log.entries

  -- the desk has stopped: its log ends in the store's fault
  abbrev pub is_frozen : DeskState K → Bool
  is_frozen d = ends_in_fault false d.log.entries

  -- the desk serves: it has not stopped, and its log has a place
  pub record IsOpen (d : DeskState K) : Type 0 where
    pub running : is_frozen d ≡ false
    pub place : length d.log.entries < d.log.limit

  -- what a crash leaves: the durable part of an account, or with a call in doubt that of one of two
  abbrev pub Leaves : Ghosts K → Bool → K → Account → Account → Type 0
  Leaves g false keeper a b = g.keeps keeper (durable_of a)
  Leaves g true keeper a b = g.keeps_either keeper (durable_of a) (durable_of b)

  -- the keeper was made for this site of this layout
  pub record IsMadeFor (g : Ghosts K) (keeper : K) (layout : LayoutState) (i : ℕ) : Type 0 where
    pub for_layout : g.layout keeper ≡ layout
    pub for_site : g.site keeper ≡ i

  -- Every desk: its log is legal, and its core stands for the log's account; unless it is frozen its keeper has told
  -- no fault; and where the keeper kept what the opening began with, a crash leaves the durable part of the log's
  -- account, and once the desk is frozen that or the one where the call in doubt was kept.
  pub record IsDesk (g : Ghosts K) (d : DeskState K) : Type 0 where
    pub layout : IsLayout d.core.layout
    pub made_for : IsMadeFor g d.keeper d.core.layout d.core.site
    pub legal : IsLegal (first_account d) d.log.entries
    pub stands : Stands (account_of d) d.core
    pub no_fault : is_frozen d ≡ false → g.faults_of d.keeper ≡ 0
    pub honest : g.is_honest d.keeper → g.is_honest d.opened
    pub kept : g.keeps d.opened d.log.first → Leaves g (is_frozen d) d.keeper (account_of d) (account_if_kept d)

  -- what a keeper kept, it keeps, and it is made for the same site
  pub record KeepsOn (g : Ghosts K) (old new : K) : Type 0 where
    pub keeps : (d : DurableState) → g.keeps old d → g.keeps new d
    pub either : (d e : DurableState) → g.keeps_either old d e → g.keeps_either new d e
    pub honest : g.is_honest new → g.is_honest old
    pub layout : g.layout new ≡ g.layout old
    pub site : g.site new ≡ g.site old

  -- what the keeper gave back is what it kept, while its device is honest
  abbrev pub Finds : Ghosts K → K → K → (DurableState → Type 0) → Type 0
  Finds g old new P = (d : DurableState) → g.keeps old d → g.is_honest new → P d

  -- What a keeper keeps after a change: with it, without it after want of memory, and one of the two after a fault.
  -- Neither refusal comes where nothing changes.
  pub record HasKept (g : Ghosts K) (old new : K) (change : ChangeState) : Type 0 where
    pub keeps : (d : DurableState) → g.keeps old d → g.keeps new (changed change d)
    pub no_fault : g.faults_of new ≡ 0

  pub record HasNotKept (g : Ghosts K) (old new : K) (change : ChangeState) : Type 0 where
    pub keeps : (d : DurableState) → g.keeps old d → g.keeps new d
    pub no_fault : g.faults_of new ≡ 0
    pub changes : ¬ ((change.cells ≡ []) × (change.session ≡ None))

  pub record MayHaveKept (g : Ghosts K) (old new : K) (change : ChangeState) : Type 0 where
    pub keeps : (d : DurableState) → g.keeps old d → g.keeps_either new d (changed change d)
    pub told : g.faults_of new ≡ 1
    pub changes : ¬ ((change.cells ≡ []) × (change.session ≡ None))

  abbrev pub KeepsChange : Ghosts K → K → K → ChangeState → Result (Unit {0}) KeeperError → Type 0
  KeepsChange g old new change (Ok _) = HasKept g old new change
  KeepsChange g old new change (Err NoSpace) = HasNotKept g old new change
  KeepsChange g old new change (Err Failed) = MayHaveKept g old new change

  -- a core and a log that begin with what the keeper kept
  pub record IsBegin (g : Ghosts K) (old new : K) (layout : LayoutState) (i limit : ℕ) (c : Core) (log : LogState) : Type 0 where
    pub cells : AreCells layout i log.first.cells
    pub sessions : AreSessions layout i log.first.cells log.first.sessions
    pub stands : Stands (begun layout i log.first) c
    pub none : log.entries ≡ []
    pub places : log.limit ≡ limit
    pub found : Finds g old new (λ e. log.first ≡ e)
    pub no_fault : g.faults_of new ≡ 0

  -- why there are none; want of memory never stands in place of the store's fault
  abbrev pub IsNoBegin : Ghosts K → K → K → LayoutState → ℕ → OpenError → Type 0
  IsNoBegin g old new layout i BadSite = ⊥
  IsNoBegin g old new layout i BadPasses = ⊥
  IsNoBegin g old new layout i BadLimit = ⊥
  IsNoBegin g old new layout i StoreFault = g.faults_of new ≡ 1
  IsNoBegin g old new layout i WrongCounters = Finds g old new (λ d. ¬ AreCells layout i d.cells)
  IsNoBegin g old new layout i WrongSessions =
      Finds g old new (λ d. AreCells layout i d.cells × (¬ AreSessions layout i d.cells d.sessions))
  IsNoBegin g old new layout i Memory = g.faults_of new ≡ 0

  -- the answer to what a keeper gives back
  abbrev pub IsBegun : Ghosts K → K → K → LayoutState → ℕ → ℕ → Result (Core × LogState) OpenError → Type 0
  IsBegun g old new layout i limit (Ok (c, log)) = KeepsOn g old new × IsBegin g old new layout i limit c log
  IsBegun g old new layout i limit (Err e) = KeepsOn g old new × IsNoBegin g old new layout i e

  -- a desk was opened: its log has so many places and no entry, and it begins with what the keeper kept
  pub record IsFresh (g : Ghosts K) (keeper : K) (layout : LayoutState) (i limit : ℕ) (d : DeskState K) : Type 0 where
    pub of_layout : d.core.layout ≡ layout
    pub of_site : d.core.site ≡ i
    pub none : d.log.entries ≡ []
    pub places : d.log.limit ≡ limit
    pub opened : d.opened ≡ d.keeper
    pub cells : AreCells layout i d.log.first.cells
    pub sessions : AreSessions layout i d.log.first.cells d.log.first.sessions
    pub keeps_on : KeepsOn g keeper d.keeper
    pub found : Finds g keeper d.keeper (λ e. d.log.first ≡ e)

  -- what is wrong with an opening, and the keeper that is handed back
  abbrev pub IsOpenFault : Ghosts K → K → K → LayoutState → ℕ → ℕ → OpenError → Type 0
  IsOpenFault g keeper back layout i limit BadSite = (¬ (i < layout.sites)) × (back ≡ keeper)
  IsOpenFault g keeper back layout i limit BadPasses = ⊥
  IsOpenFault g keeper back layout i limit BadLimit = (i < layout.sites) × (¬ AreGood layout i limit) × (back ≡ keeper)
  IsOpenFault g keeper back layout i limit e = AreGood layout i limit × IsNoBegin g keeper back layout i e

  -- the answer to an opening: a desk, or what is wrong, with the keeper
  abbrev pub IsOpened : Ghosts K → K → LayoutState → ℕ → ℕ → Result (DeskState K) (OpenError × K) → Type 0
  IsOpened g keeper layout i limit (Ok d) = AreGood layout i limit × IsFresh g keeper layout i limit d
  IsOpened g keeper layout i limit (Err (e, back)) = KeepsOn g keeper back × IsOpenFault g keeper back layout i limit e

  -- a call that found no memory: nothing refuses it, the core is as it was, its room aside, and so is what is kept
  pub record IsUnserved (g : Ghosts K) (a : Account) (c d : Core) (old new : K) (call : Call) : Type 0 where
    pub free : reason (view_of a) call ≡ None
    pub core : SameContent c d
    pub kept : g.keeps old (durable_of a) → g.keeps new (durable_of a)
    pub no_fault : g.faults_of new ≡ 0

  -- a call in doubt: the core is as it was, its room aside, and what is kept is the old or the new
  pub record IsDoubted (g : Ghosts K) (a : Account) (c d : Core) (old new : K) (call : Call) (reply : Reply) : Type 0 where
    pub fault : reply ≡ Refused NoStore
    pub changes : ¬ IsEmpty (change_between a (after a call))
    pub core : SameContent c d
    pub kept : g.keeps old (durable_of a) → g.keeps_either new (durable_of a) (durable_of (after a call))
    pub told : g.faults_of new ≡ 1

  -- a call that was answered and kept
  pub record IsAnswered (g : Ghosts K) (a : Account) (c d : Core) (old new : K) (call : Call) (reply : Reply) : Type 0 where
    pub model : reply ≡ reply_of (view_of a) call
    pub stands : Stands (after a call) d
    pub refused : (refusal : Refusal) → reply ≡ Refused refusal → SameContent c d
    pub kept : g.keeps old (durable_of a) → g.keeps new (durable_of (after a call))
    pub no_fault : g.faults_of new ≡ 0

  -- the outcome of a call at a core that stands for the account
  abbrev pub IsStep : Ghosts K → Account → Core → Core → K → K → Call → Option Served → Type 0
  IsStep g a c d old new call None = IsUnserved g a c d old new call
  IsStep g a c d old new call (Some s) = IsAnswered g a c d old new call s.reply ⊎ IsDoubted g a c d old new call s.reply

  -- One call at a desk. A frozen desk serves no more, and a full log takes no more: both stay as they are. Else the
  -- reply is the model's at the log's account, want of memory or the store's fault, of which neither stands in place of
  -- a refusal, but that want of memory may before a merge's delta is copied. The log gets exactly an entry for the
  -- call where the reply is logged. After a refusal the core is as it was, its room aside. Where the durable part of
  -- the log's account was kept, a crash then leaves that of the account after the call; and after the store's fault
  -- that of the account before the call or after it. The store's fault is answered only where the keeper told one, and
  -- the call that is then in doubt is this one. Where the durable part does not change, the keeper is as it was.
  pub record IsServing (g : Ghosts K) (old new : DeskState K) (pass : ℕ) (call : Call) (reply : Reply) : Type 0 where
    pub frozen : is_frozen old ≡ true → (reply ≡ Refused Frozen) × (new ≡ old)
    pub only_frozen : reply ≡ Refused Frozen → is_frozen old ≡ true
    pub full : is_frozen old ≡ false → old.log.limit ≤ length old.log.entries → (reply ≡ Refused LogFull) × (new ≡ old)
    pub only_full : reply ≡ Refused LogFull → (is_frozen old ≡ false) × (old.log.limit ≤ length old.log.entries)
    pub answered : IsOpen old → IsReply (account_of old) call reply
    pub certain : IsOpen old → (refusal : Refusal) → reason (view_of (account_of old)) call ≡ Some refusal
        → (reply ≡ Refused refusal) ⊎ (reply ≡ Refused NoMemory)
    pub asked : IsOpen old → (ask : Ask) → call ≡ AskCall ask → (refusal : Refusal)
        → reason (view_of (account_of old)) call ≡ Some refusal → reply ≡ Refused refusal
    pub logged : new.log ≡ log_with pass call reply old.log
    pub layout : new.core.layout ≡ old.core.layout
    pub site : new.core.site ≡ old.core.site
    pub opened : new.opened ≡ old.opened
    pub honest : g.is_honest new.keeper → g.is_honest old.keeper
    pub told : is_fault reply ≡ true → g.faults_of new.keeper ≡ 1
    pub in_doubt : IsOpen old → is_fault reply ≡ true → account_if_kept new ≡ after (account_of old) call
    pub refused : (refusal : Refusal) → reply ≡ Refused refusal → SameContent old.core new.core
    pub idle : IsEmpty (change_between (account_of old) (after (account_of old) call)) → new.keeper ≡ old.keeper
    pub crash : IsOpen old → g.keeps old.keeper (durable_of (account_of old))
        → Leaves g (is_fault reply) new.keeper (account_of new) (after (account_of old) call)
