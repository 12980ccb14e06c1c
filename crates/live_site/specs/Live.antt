-- A site at work, as contracts see it, and what a call leaves.
use Rattle.std.specs.Prelude.{◌≡◌, ◌⊎◌, ℕ, ◌<◌, Bool, true, false, List, [], ◌∷◌, ◌++◌, codes, Some, None, Result, Ok, Err}
use Rattle.merge_core.specs.Layout.{LayoutState, IsLayout}
use Rattle.admission_model.specs.declared.ask.Call.{Call}
use Rattle.admission_model.specs.declared.reply.Refusal.TheVariants.{OwnRowAhead, StoreFault as NoStore}
use Rattle.admission_model.specs.declared.reply.Reply.{Reply}
use Rattle.admission_model.specs.declared.reply.Reply.TheVariants.{Refused}
use Rattle.admission_model.specs.Account.{Account}
use Rattle.admission_model.specs.View.{view_of}
use Rattle.admission_model.specs.Serving.{after, reason, reply_of}
use Rattle.admission_model.specs.Durable.{change_between, IsEmpty}
use Rattle.admission_model.specs.Restoring.{AreCells, AreSessions}
use Rattle.admission_core.specs.Core.{Core, IsCore, Stands, SameContent}
use Rattle.admission_core.specs.Kept.{DurableState, durable_of}
use Rattle.script_text.specs.Replies.{reply_text}
use Rattle.durable_keeper.specs.declared.keeper.Keeper.{Ghosts}
use Rattle.desk_log.specs.declared.entry.Entry.{Entry}
use Rattle.desk_log.specs.declared.error.OpenError.{OpenError}
use Rattle.desk_log.specs.declared.error.OpenError.TheVariants.{BadSite, BadPasses, BadLimit}
use Rattle.desk_log.specs.Log.{begun}
use Rattle.desk_log.specs.Desk.{Finds, IsAnswered, IsDoubted, IsMadeFor, IsNoBegin, KeepsOn}
use Rattle.live_site.specs.declared.call_log.CallLog.{Ghosts as LogGhosts}
use Rattle.live_site.specs.declared.live_site.Outcome.{Outcome}
use Rattle.live_site.specs.declared.live_site.Outcome.TheVariants.{Answered, TooManySeats, Memory, StoreFault, Frozen, LogFailed}
use Rattle.live_site.specs.Entries.{entry_of}
use Rattle.live_site.specs.Overfull.{Fits, overfull_in}

-- a site at work: its core, what keeps its durable part, and whether it serves no more
pub record LiveState (K : Type 0) : Type 0 where
  pub core : Core
  pub keeper : K
  pub frozen : Bool

-- a reply as a line
abbrev pub line_of : Reply → List ℕ
line_of reply = reply_text reply ++ codes "\n"

-- A delta that tells more of the site's own row than the site did shows that its store is older than what others have
-- seen: behind it the site serves no more.
abbrev pub is_outdated : Reply → Bool
is_outdated (Refused (OwnRowAhead r)) = true
is_outdated _ = false

-- whether the site serves no more after the call
abbrev pub freezes : Account → Call → Outcome → Bool
freezes a call Answered = is_outdated (reply_of (view_of a) call)
freezes a call StoreFault = true
freezes a call _ = false

module _ {L : Type 0} where
  -- the log was handed the call and its reply
  abbrev pub Enters : LogGhosts L → L → L → Call → Reply → Type 0
  Enters h old new call reply = (first : L) (before : List Entry) → h.took first before old → h.took first (before ++ entry_of call reply ∷ []) new

  -- the log was handed nothing that was not taken back
  abbrev pub Stays : LogGhosts L → L → L → Type 0
  Stays h old new = (first : L) (before : List Entry) → h.took first before old → h.took first before new

module _ {K : Type 0} where
  -- every site at work: its core is one of a layout, its keeper was made for it, and has told no fault while it serves
  pub record IsLive (g : Ghosts K) (s : LiveState K) : Type 0 where
    pub layout : IsLayout s.core.layout
    pub core : IsCore s.core
    pub made_for : IsMadeFor g s.keeper s.core.layout s.core.site
    pub no_fault : s.frozen ≡ false → g.faults_of s.keeper ≡ 0

  -- a core that begins with what the keeper kept
  pub record BeginsCore (g : Ghosts K) (old new : K) (layout : LayoutState) (i : ℕ) (c : Core) : Type 0 where
    pub first : DurableState
    pub cells : AreCells layout i first.cells
    pub sessions : AreSessions layout i first.cells first.sessions
    pub stands : Stands (begun layout i first) c
    pub found : Finds g old new (λ d. first ≡ d)
    pub no_fault : g.faults_of new ≡ 0

  -- the answer to what a keeper gives back
  abbrev pub IsBegunCore : Ghosts K → K → K → LayoutState → ℕ → Result Core OpenError → Type 0
  IsBegunCore g old new layout i (Ok c) = KeepsOn g old new × BeginsCore g old new layout i c
  IsBegunCore g old new layout i (Err e) = KeepsOn g old new × IsNoBegin g old new layout i e

  -- a site was opened: it serves, and begins with what its keeper kept
  pub record IsFreshSite (g : Ghosts K) (keeper : K) (layout : LayoutState) (i : ℕ) (s : LiveState K) : Type 0 where
    pub running : s.frozen ≡ false
    pub of_layout : s.core.layout ≡ layout
    pub of_site : s.core.site ≡ i
    pub keeps_on : KeepsOn g keeper s.keeper
    pub begins : BeginsCore g keeper s.keeper layout i s.core

  -- why a site was not opened, and the keeper that is handed back
  abbrev pub IsSiteFault : Ghosts K → K → K → LayoutState → ℕ → OpenError → Type 0
  IsSiteFault g keeper back layout i BadSite = (¬ (i < layout.sites)) × (back ≡ keeper)
  IsSiteFault g keeper back layout i BadPasses = ⊥
  IsSiteFault g keeper back layout i BadLimit = ⊥
  IsSiteFault g keeper back layout i e = (i < layout.sites) × IsNoBegin g keeper back layout i e

  -- the answer to an opening
  abbrev pub IsOpenedSite : Ghosts K → K → LayoutState → ℕ → Result (LiveState K) (OpenError × K) → Type 0
  IsOpenedSite g keeper layout i (Ok s) = (i < layout.sites) × IsFreshSite g keeper layout i s
  IsOpenedSite g keeper layout i (Err (e, back)) = KeepsOn g keeper back × IsSiteFault g keeper back layout i e

-- what a call leaves at a core, its keeper and a log, by the outcome, at an account for which the core stands
module _ {K L : Type 0} where
  -- it was answered: the text got the model's reply and LF, the log was handed both, the change is kept, the core is the one
  -- after the call; and where the reply shows that the store is outdated, it is marked so
  pub record WasAnswered (g : Ghosts K) (m : K → Type 0) (h : LogGhosts L) (a : Account) (c d : Core) (old new : K) (log log_after : L) (call : Call) (text text_after : List ℕ) : Type 0 where
    pub answered : IsAnswered g a c d old new call (reply_of (view_of a) call)
    pub fits : Fits a call
    pub written : text_after ≡ text ++ line_of (reply_of (view_of a) call)
    pub marked : is_outdated (reply_of (view_of a) call) ≡ true → g.keeps old (durable_of a) → m new
    pub logged : Enters h log log_after call (reply_of (view_of a) call)

  -- it would give more rights than there are seats: nothing changed
  pub record WasTooMany (a : Account) (c d : Core) (old new : K) (log log_after : L) (call : Call) (text text_after : List ℕ) (r : ℕ) : Type 0 where
    pub free : reason (view_of a) call ≡ None
    pub overfull : overfull_in (view_of a) call ≡ Some r
    pub core : SameContent c d
    pub keeper : new ≡ old
    pub unlogged : log_after ≡ log
    pub unwritten : text_after ≡ text

  -- it found no memory: nothing changed, and the log took nothing
  pub record WasUnserved (g : Ghosts K) (h : LogGhosts L) (a : Account) (c d : Core) (old new : K) (log log_after : L) : Type 0 where
    pub core : SameContent c d
    pub kept : g.keeps old (durable_of a) → g.keeps new (durable_of a)
    pub no_fault : g.faults_of new ≡ 0
    pub unlogged : Stays h log log_after

  -- the store failed: the log was handed the call and the model's reply, and what is kept is the old or the new
  pub record WasDoubted (g : Ghosts K) (h : LogGhosts L) (a : Account) (c d : Core) (old new : K) (log log_after : L) (call : Call) : Type 0 where
    pub doubted : IsDoubted g a c d old new call (Refused NoStore)
    pub fits : Fits a call
    pub logged : Enters h log log_after call (reply_of (view_of a) call)

  -- the reply would show that the store is outdated, and the store failed where it was to be marked so: the log was handed
  -- the call and the model's reply, and what is kept stays
  pub record WasUnmarked (g : Ghosts K) (h : LogGhosts L) (a : Account) (c d : Core) (old new : K) (log log_after : L) (call : Call) : Type 0 where
    pub outdated : is_outdated (reply_of (view_of a) call) ≡ true
    pub fits : Fits a call
    pub core : SameContent c d
    pub kept : g.keeps old (durable_of a) → g.keeps new (durable_of a)
    pub told : g.faults_of new ≡ 1
    pub logged : Enters h log log_after call (reply_of (view_of a) call)

  -- the log failed: nothing changed
  pub record WasUnlogged (g : Ghosts K) (h : LogGhosts L) (a : Account) (c d : Core) (old new : K) (log log_after : L) : Type 0 where
    pub core : SameContent c d
    pub kept : g.keeps old (durable_of a) → g.keeps new (durable_of a)
    pub no_fault : g.faults_of new ≡ 0
    pub failed : h.has_failed log_after

  abbrev pub IsLiveStep : Ghosts K → (K → Type 0) → LogGhosts L → Account → Core → Core → K → K → L → L → Call → List ℕ → List ℕ → Outcome → Type 0
  IsLiveStep g m h a c d old new log log_after call text text_after Answered = WasAnswered g m h a c d old new log log_after call text text_after
  IsLiveStep g m h a c d old new log log_after call text text_after (TooManySeats r) = WasTooMany a c d old new log log_after call text text_after r
  IsLiveStep g m h a c d old new log log_after call text text_after Memory = WasUnserved g h a c d old new log log_after
  IsLiveStep g m h a c d old new log log_after call text text_after StoreFault = WasDoubted g h a c d old new log log_after call ⊎ WasUnmarked g h a c d old new log log_after call
  IsLiveStep g m h a c d old new log log_after call text text_after LogFailed = WasUnlogged g h a c d old new log log_after
  IsLiveStep g m h a c d old new log log_after call text text_after Frozen = ⊥

  -- One call at a site that serves, for every account that its core stands for. Where the durable part does not change, and the
  -- reply does not show that the store is outdated, the keeper is as it was.
  pub record IsServingSite (g : Ghosts K) (m : K → Type 0) (h : LogGhosts L) (a : Account) (old new : LiveState K)
      (log log_after : L) (call : Call) (text text_after : List ℕ) (outcome : Outcome) : Type 0 where
    pub step : IsLiveStep g m h a old.core new.core old.keeper new.keeper log log_after call text text_after outcome
    pub freezing : new.frozen ≡ freezes a call outcome
    pub idle : is_outdated (reply_of (view_of a) call) ≡ false → IsEmpty (change_between a (after a call)) → new.keeper ≡ old.keeper

  -- at one that serves no more nothing happens
  pub record StaysFrozen (old new : LiveState K) (log log_after : L) (outcome : Outcome) : Type 0 where
    pub answer : outcome ≡ Frozen
    pub site : new ≡ old
    pub unlogged : log_after ≡ log
