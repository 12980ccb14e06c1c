-- What the service did, by the status that it ended with.
use Rattle.std.specs.Prelude.{◌≡◌, ℕ, ◌<◌, ◌≤◌, ◌⊎◌, Bool, true, false, List, [], ◌∷◌, ◌++◌, length, Option}
use Rattle.merge_core.specs.Layout.{LayoutState}
use Rattle.admission_model.specs.Account.{Account}
use Rattle.admission_core.specs.Kept.{DurableState}
use Rattle.durable_keeper.specs.declared.keeper.Keeper.{Ghosts}
use Rattle.desk_log.specs.declared.entry.Entry.{Entry}
use Rattle.desk_log.specs.Log.{begun}
use Rattle.desk_log.specs.Desk.{KeepsOn, Leaves}
use Rattle.layout_file.specs.declared.fault.LayoutFault.TheVariants.{NoSite}
use Rattle.exit_status.specs.declared.status.Status.{Status}
use Rattle.exit_status.specs.declared.status.Status.TheVariants.{Done, Usage, NoLayout, NoStore, Fault, Refused, Memory, Io}
use Rattle.site_engine.specs.Sites.{Began, IsUnfit}
use Rattle.line_conversation.specs.Turns.{Line, Turn, Heard}
use Rattle.line_conversation.specs.declared.conversation.Conversation.{Ghosts as TalkGhosts}
use Rattle.live_site.specs.declared.call_log.CallLog.{Ghosts as LogGhosts}
use Rattle.serve_engine.specs.declared.marks.Marking.{Marking}
use Rattle.serve_engine.specs.Answers.{fault_line}
use Rattle.serve_engine.specs.Requests.{Terms, terms_of}
use Rattle.serve_engine.specs.Exchanges.{Exchange, turns_of, HasServed, HasTold}

-- how many exchanges are counted: behind so many the service ends
abbrev pub most_exchanges : ℕ
most_exchanges = 18446744073709551615

-- The turns of exchanges of which the last is perhaps not complete: each was told; or the last text was not; or a line
-- was heard that the site did not serve.
abbrev pub EndsIn : List Exchange → List Turn → Type 0
EndsIn xs turns =
    (turns ≡ turns_of xs)
    ⊎ (((before : List Exchange) × (x : Exchange) × (xs ≡ before ++ x ∷ []) × (turns ≡ turns_of before ++ Heard x.line ∷ []))
    ⊎ ((line : Line) × (turns ≡ turns_of xs ++ Heard line ∷ [])))

module _ {K : Type 0} where
  -- A site served these exchanges, from an account, and handed these entries to its log; what is then kept is the
  -- durable part of the account behind them, or, where the store failed, that or the one behind the call that met it.
  -- One that stopped and told no fault of its store has kept the mark that this is outdated.
  pub record ServedSite (g : Ghosts K) (m : K → Type 0) (terms : Terms) (a : Account) (first : DurableState)
      (frozen : Bool) (keeper keeper_after : K) (xs : List Exchange) (entries : List Entry) : Type 0 where
    pub fault : Bool
    pub account : Account
    pub tried : Account
    pub served : HasServed terms frozen a xs entries fault account tried
    pub kept : g.keeps keeper first → Leaves g fault keeper_after account tried
    pub keeps_stop : frozen ≡ true → g.keeps keeper first → m keeper_after ⊎ HasTold fault_line xs

module _ {K C L : Type 0} where
  -- The conversation came to its end: it grew by line, answer, line, answer; each answer is the model's, and none was lost.
  pub record EndsWell (g : Ghosts K) (m : K → Type 0) (c : TalkGhosts C) (h : LogGhosts L) (terms : Terms) (a : Account)
      (first : DurableState) (frozen : Bool) (keeper keeper_after : K) (talk talk_after : C) (log log_after : L) : Type 0 where
    pub exchanges : List Exchange
    pub entries : List Entry
    pub heard : c.took_place talk (turns_of exchanges) talk_after
    pub logged : h.took log entries log_after
    pub site : ServedSite g m terms a first frozen keeper keeper_after exchanges entries
    pub ended : c.has_ended talk_after
    pub whole : c.loses talk_after → c.loses talk

  -- The conversation or the log failed: the last exchange is perhaps not complete.
  pub record EndsEarly (g : Ghosts K) (m : K → Type 0) (c : TalkGhosts C) (h : LogGhosts L) (terms : Terms) (a : Account)
      (first : DurableState) (keeper keeper_after : K) (talk talk_after : C) (log log_after : L) : Type 0 where
    pub frozen : Bool
    pub exchanges : List Exchange
    pub entries : List Entry
    pub turns : List Turn
    pub last : EndsIn exchanges turns
    pub heard : c.took_place talk turns talk_after
    pub logged : h.took log entries log_after ⊎ h.has_failed log_after
    pub site : ServedSite g m terms a first frozen keeper keeper_after exchanges entries
    pub why : c.has_failed talk_after ⊎ (h.has_failed log_after ⊎ (most_exchanges ≤ length exchanges))

  -- how a site that was opened ended
  abbrev pub EndsSite : Ghosts K → (K → Type 0) → TalkGhosts C → LogGhosts L → Terms → Account → DurableState → K → K → C → C → L → L → Status → Type 0
  EndsSite g m c h terms a first keeper keeper_after talk talk_after log log_after Done = EndsWell g m c h terms a first false keeper keeper_after talk talk_after log log_after
  EndsSite g m c h terms a first keeper keeper_after talk talk_after log log_after Fault = EndsWell g m c h terms a first true keeper keeper_after talk talk_after log log_after
  EndsSite g m c h terms a first keeper keeper_after talk talk_after log log_after Io = EndsEarly g m c h terms a first keeper keeper_after talk talk_after log log_after
  EndsSite g m c h terms a first keeper keeper_after talk talk_after log log_after _ = ⊥

  -- the same from what was kept
  pub record Serving (g : Ghosts K) (m : K → Type 0) (c : TalkGhosts C) (h : LogGhosts L) (layout : LayoutState) (i : ℕ) (group : Option (List ℕ)) (marking : Marking)
      (keeper keeper_after : K) (talk talk_after : C) (log log_after : L) (status : Status) : Type 0 where
    pub first : DurableState
    pub began : Began g layout i keeper keeper_after first
    pub ended : EndsSite g m c h (terms_of layout group marking) (begun layout i first) first keeper keeper_after talk talk_after log log_after status

  -- where no site was opened nothing was heard, told or logged, and what was kept is kept
  pub record Untouched (g : Ghosts K) (keeper keeper_after : K) (talk talk_after : C) (log log_after : L) : Type 0 where
    pub keeps_on : KeepsOn g keeper keeper_after
    pub silent : talk_after ≡ talk
    pub unlogged : log_after ≡ log

  -- The whole service of a site, in a group or in none, with marked deltas or plain ones: a site that was opened served its
  -- lines; or what is kept begins no site, there is no such site, or there is and memory ran out, and nothing else happened.
  abbrev pub EndsServing : Ghosts K → (K → Type 0) → TalkGhosts C → LogGhosts L → LayoutState → ℕ → Option (List ℕ) → Marking → K → K → C → C → L → L → Status → Type 0
  EndsServing g m c h layout i group marking keeper keeper_after talk talk_after log log_after (NoStore refusal) =
      IsUnfit g layout i keeper keeper_after refusal × Untouched g keeper keeper_after talk talk_after log log_after
  EndsServing g m c h layout i group marking keeper keeper_after talk talk_after log log_after (NoLayout fault) =
      (fault ≡ NoSite) × (¬ (i < layout.sites)) × (keeper_after ≡ keeper) × Untouched g keeper keeper_after talk talk_after log log_after
  EndsServing g m c h layout i group marking keeper keeper_after talk talk_after log log_after Memory =
      (i < layout.sites) × Untouched g keeper keeper_after talk talk_after log log_after
  EndsServing g m c h layout i group marking keeper keeper_after talk talk_after log log_after Usage = ⊥
  EndsServing g m c h layout i group marking keeper keeper_after talk talk_after log log_after Refused = ⊥
  EndsServing g m c h layout i group marking keeper keeper_after talk talk_after log log_after status = Serving g m c h layout i group marking keeper keeper_after talk talk_after log log_after status
