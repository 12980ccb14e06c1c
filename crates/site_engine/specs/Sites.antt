-- What the engine of `site` did, by the status that it ended with.
use Rattle.std.specs.Prelude.{◌≡◌, ℕ, ◌<◌, ◌+◌, ◌⊎◌, ◌++◌, Bool, true, false, List, Ok, Err}
use Rattle.merge_core.specs.Layout.{LayoutState}
use Rattle.admission_model.specs.Account.{Account}
use Rattle.admission_model.specs.Restoring.{AreCells, AreSessions}
use Rattle.durable_keeper.specs.Kept.{DurableState, durable_of}
use Rattle.durable_keeper.specs.declared.keeper.Keeper.{Ghosts}
use Rattle.desk_log.specs.Log.{begun}
use Rattle.desk_log.specs.Desk.{Finds, KeepsOn}
use Rattle.site_script.specs.Served.{Serves, Stops}
use Rattle.text_input.specs.declared.input.InputError.TheVariants.{TooLong}
use Rattle.text_input.specs.Input.{ReadsInput, LosesSome, input_limit}
use Rattle.text_input.specs.Lines.{lines_of}
use Rattle.text_input.specs.Source.{HasFault, IsFailure, LacksMemory, SourceState}
use Rattle.text_input.specs.Sink.{SinkState, Writes}
use Rattle.layout_file.specs.declared.fault.LayoutFault.TheVariants.{NoSite}
use Rattle.exit_status.specs.declared.store_refusal.StoreRefusal.{StoreRefusal}
use Rattle.exit_status.specs.declared.store_refusal.StoreRefusal.TheVariants.{BadStore, WrongSite, WrongLayout, WrongCounters, WrongSessions, StoreFault}
use Rattle.exit_status.specs.declared.status.Status.{Status}
use Rattle.exit_status.specs.declared.status.Status.TheVariants.{Done, Usage, NoLayout, NoStore, Fault, Refused, Memory, Io}
use Rattle.exit_status.specs.Endings.{too_long_text}

-- the places of an opening's log (this project's own number)
abbrev pub log_places : ℕ
log_places = 65536

module _ {K : Type 0} where
  -- a keeper was given, and one came back: what an opening of it began with is what was kept, while the device was
  -- honest, and is what a site keeps
  pub record Began (g : Ghosts K) (layout : LayoutState) (i : ℕ) (keeper keeper_after : K) (first : DurableState) : Type 0 where
    pub found : Finds g keeper keeper_after (λ d. first ≡ d)
    pub cells : AreCells layout i first.cells
    pub sessions : AreSessions layout i first.cells first.sessions

  -- The lines were served, from the account that begins from what was kept, and their answers were written; what is
  -- then kept is the durable part of the account after them.
  pub record WritesServed (g : Ghosts K) (layout : LayoutState) (i : ℕ) (keeper keeper_after : K) (lines : List (List ℕ)) (whole : Bool) (old new : SinkState) : Type 0 where
    pub first : DurableState
    pub began : Began g layout i keeper keeper_after first
    pub text : List ℕ
    pub account : Account
    pub served : Serves (begun layout i first) log_places layout.records lines whole text account
    pub written : Writes old new text
    pub kept : g.keeps keeper first → g.keeps keeper_after (durable_of account)

  -- The same where the store failed on the way: what is then kept is the durable part of the account after the calls
  -- that were answered before, or of the account after these and the call that was answered with the store's fault.
  pub record WritesStopped (g : Ghosts K) (layout : LayoutState) (i : ℕ) (keeper keeper_after : K) (lines : List (List ℕ)) (old new : SinkState) : Type 0 where
    pub first : DurableState
    pub began : Began g layout i keeper keeper_after first
    pub whole : Bool
    pub text : List ℕ
    pub account : Account
    pub tried : Account
    pub stopped : Stops (begun layout i first) log_places layout.records lines whole text account tried
    pub written : Writes old new text
    pub kept : g.keeps keeper first → g.keeps_either keeper_after (durable_of account) (durable_of tried)

  -- Some of the first lines were served, though their answers were not all written: what is then kept is the durable
  -- part of the account after them, or, where the store failed at one of them, that or the one of the account after the
  -- call that was answered with the store's fault.
  pub record ServesSome (g : Ghosts K) (layout : LayoutState) (i : ℕ) (keeper keeper_after : K) (lines : List (List ℕ)) : Type 0 where
    pub first : DurableState
    pub began : Began g layout i keeper keeper_after first
    pub front : List (List ℕ)
    pub behind : List (List ℕ)
    pub split : lines ≡ front ++ behind
    pub text : List ℕ
    pub account : Account
    pub tried : Account
    pub left :
        (Serves (begun layout i first) log_places layout.records front true text account × (g.keeps keeper first → g.keeps keeper_after (durable_of account)))
        ⊎ (Stops (begun layout i first) log_places layout.records front true text account tried
        × (g.keeps keeper first → g.keeps_either keeper_after (durable_of account) (durable_of tried)))

  -- What is kept where memory, a read or a write failed: what was kept before, or, once the input was read, what some of
  -- its first lines leave.
  abbrev pub KeepsSome : Ghosts K → LayoutState → ℕ → K → K → SourceState → SourceState → Type 0
  KeepsSome g layout i keeper keeper_after source source_after =
      KeepsOn g keeper keeper_after
      ⊎ ((bytes : List ℕ) × ReadsInput source source_after (Ok bytes) × ServesSome g layout i keeper keeper_after (lines_of bytes))

  -- why what is kept begins no site: it can't be given back, or has counters or sessions that are no site's
  abbrev pub IsUnfit : Ghosts K → LayoutState → ℕ → K → K → StoreRefusal → Type 0
  IsUnfit g layout i keeper keeper_after StoreFault = g.faults_of keeper_after ≡ 1
  IsUnfit g layout i keeper keeper_after WrongCounters = Finds g keeper keeper_after (λ d. ¬ AreCells layout i d.cells)
  IsUnfit g layout i keeper keeper_after WrongSessions =
      Finds g keeper keeper_after (λ d. AreCells layout i d.cells × (¬ AreSessions layout i d.cells d.sessions))
  IsUnfit g layout i keeper keeper_after BadStore = ⊥
  IsUnfit g layout i keeper keeper_after WrongSite = ⊥
  IsUnfit g layout i keeper keeper_after WrongLayout = ⊥

  -- The whole engine: the bytes read are all that the source had, within the limit, and their lines were served; or
  -- there are more, that refusal alone was written, and what was kept is kept; or what is kept begins no site, or there
  -- is no such site, and nothing was read or written; or there is such a site, memory, a read or a write failed, and what
  -- is kept is what some of the first lines leave; without memory, and behind a failed read, nothing was written. In each case the source lost
  -- at most one byte past the limit. An engine has no word for wrong arguments.
  abbrev pub EndsSite : Ghosts K → LayoutState → ℕ → K → K → SourceState → SourceState → SinkState → SinkState → Status → Type 0
  EndsSite g layout i keeper keeper_after source source_after sink sink_after Done =
      (bytes : List ℕ) × ReadsInput source source_after (Ok bytes)
      × WritesServed g layout i keeper keeper_after (lines_of bytes) true sink sink_after
  EndsSite g layout i keeper keeper_after source source_after sink sink_after Refused =
      ((bytes : List ℕ) × ReadsInput source source_after (Ok bytes)
      × WritesServed g layout i keeper keeper_after (lines_of bytes) false sink sink_after)
      ⊎ (ReadsInput source source_after (Err TooLong) × Writes sink sink_after too_long_text × KeepsOn g keeper keeper_after)
  EndsSite g layout i keeper keeper_after source source_after sink sink_after Fault =
      (bytes : List ℕ) × ReadsInput source source_after (Ok bytes)
      × WritesStopped g layout i keeper keeper_after (lines_of bytes) sink sink_after
  EndsSite g layout i keeper keeper_after source source_after sink sink_after (NoStore refusal) =
      IsUnfit g layout i keeper keeper_after refusal × KeepsOn g keeper keeper_after × (source_after ≡ source) × (sink_after ≡ sink)
  EndsSite g layout i keeper keeper_after source source_after sink sink_after (NoLayout fault) =
      (fault ≡ NoSite) × (¬ (i < layout.sites)) × (keeper_after ≡ keeper) × (source_after ≡ source) × (sink_after ≡ sink)
  EndsSite g layout i keeper keeper_after source source_after sink sink_after Memory =
      (i < layout.sites) × LosesSome source source_after (input_limit + 1) × LacksMemory source.fault source_after.fault × (sink_after ≡ sink)
      × KeepsSome g layout i keeper keeper_after source source_after
  EndsSite g layout i keeper keeper_after source source_after sink sink_after Io =
      (i < layout.sites) × LosesSome source source_after (input_limit + 1) × ((IsFailure source_after.fault × (sink_after ≡ sink)) ⊎ HasFault sink_after.fault)
      × KeepsSome g layout i keeper keeper_after source source_after
  EndsSite g layout i keeper keeper_after source source_after sink sink_after Usage = ⊥
