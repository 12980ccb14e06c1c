-- What the program does with a service over the database at a path.
use Rattle.std.specs.Prelude.{◌≡◌, ◌⊎◌, ℕ, ◌<◌, ◌≤◌, Bool, true, false, List, length, Option, IsSome}
use Rattle.merge_core.specs.Layout.{LayoutState}
use Rattle.admission_model.specs.Account.{Account}
use Rattle.admission_model.specs.Restoring.{AreCells, AreSessions}
use Rattle.admission_core.specs.Kept.{DurableState}
use Rattle.desk_log.specs.declared.entry.Entry.{Entry}
use Rattle.desk_log.specs.Log.{begun}
use Rattle.layout_file.specs.declared.fault.LayoutFault.TheVariants.{NoSite}
use Rattle.exit_status.specs.declared.status.Status.{Status}
use Rattle.exit_status.specs.declared.status.Status.TheVariants.{Done, Usage, NoLayout, NoStore, Fault, Refused, Memory, Io}
use Rattle.line_conversation.specs.Turns.{Turn}
use Rattle.line_conversation.specs.declared.conversation.Conversation.{Ghosts}
use Rattle.serve_engine.specs.declared.marks.Marking.{Marking}
use Rattle.serve_engine.specs.Requests.{terms_of}
use Rattle.serve_engine.specs.Exchanges.{Exchange, HasServed, turns_of}
use Rattle.serve_engine.specs.Ending.{EndsIn, most_exchanges}
use Rattle.live_databases.specs.declared.service_end.ServiceEnd.{ServiceEnd}
use Rattle.live_databases.specs.declared.service_end.ServiceEnd.TheVariants.{Ended, Absent, NoLog, LogIsStore, Unlogged, Outdated}

-- A site served these exchanges, from an account that begins with a durable part of this site. Which part that is, no
-- contract can say of a file.
pub record ServedSome (layout : LayoutState) (i : ℕ) (group : Option (List ℕ)) (marking : Marking) (frozen : Bool) (xs : List Exchange) : Type 0 where
  pub first : DurableState
  pub cells : AreCells layout i first.cells
  pub sessions : AreSessions layout i first.cells first.sessions
  pub entries : List Entry
  pub fault : Bool
  pub account : Account
  pub tried : Account
  pub served : HasServed (terms_of layout group marking) frozen (begun layout i first) xs entries fault account tried

module _ {C : Type 0} (t : Ghosts C) (layout : LayoutState) (i : ℕ) (group : Option (List ℕ)) (marking : Marking) (log : Option (List ℕ)) where
  -- the conversation came to its end: line, answer, line, answer, and no answer was lost
  pub record TalksToEnd (frozen : Bool) (talk talk_after : C) : Type 0 where
    pub exchanges : List Exchange
    pub served : ServedSome layout i group marking frozen exchanges
    pub heard : t.took_place talk (turns_of exchanges) talk_after
    pub ended : t.has_ended talk_after
    pub whole : t.loses talk_after → t.loses talk

  -- the conversation failed, or the log, if one is named; the last exchange is perhaps not complete
  pub record TalksInPart (talk talk_after : C) : Type 0 where
    pub frozen : Bool
    pub exchanges : List Exchange
    pub served : ServedSome layout i group marking frozen exchanges
    pub turns : List Turn
    pub last : EndsIn exchanges turns
    pub heard : t.took_place talk turns talk_after
    pub why : t.has_failed talk_after ⊎ (IsSome log ⊎ (most_exchanges ≤ length exchanges))

  -- the service by the status that its engine ended with
  abbrev pub EndsTalk : C → C → Status → Type 0
  EndsTalk talk talk_after Done = TalksToEnd false talk talk_after
  EndsTalk talk talk_after Fault = TalksToEnd true talk talk_after
  EndsTalk talk talk_after Io = TalksInPart talk talk_after
  EndsTalk talk talk_after (NoStore refusal) = talk_after ≡ talk
  EndsTalk talk talk_after (NoLayout fault) = (fault ≡ NoSite) × (talk_after ≡ talk)
  EndsTalk talk talk_after Memory = talk_after ≡ talk
  EndsTalk talk talk_after Refused = ⊥
  EndsTalk talk talk_after Usage = ⊥

  -- The whole service over whatever database was found at a path. There is no such site; or the database is not served;
  -- or its store is refused; or its log, if one is named: nothing was heard or told.
  abbrev pub EndsLive : C → C → ServiceEnd → Type 0
  EndsLive talk talk_after (Ended (NoLayout fault)) = (fault ≡ NoSite) × (¬ (i < layout.sites)) × (talk_after ≡ talk)
  EndsLive talk talk_after (Ended status) = (i < layout.sites) × EndsTalk talk talk_after status
  EndsLive talk talk_after (Absent absence) = (i < layout.sites) × (talk_after ≡ talk)
  EndsLive talk talk_after (NoLog refusal) = IsSome log × (i < layout.sites) × (talk_after ≡ talk)
  EndsLive talk talk_after LogIsStore = IsSome log × (i < layout.sites) × (talk_after ≡ talk)
  EndsLive talk talk_after Unlogged = IsSome log × (i < layout.sites) × (talk_after ≡ talk)
  EndsLive talk talk_after Outdated = ⊥
