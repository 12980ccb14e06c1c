-- One exchange, and exchanges so far. For private clauses.
use Rattle.std.specs.Prelude.{◌≡◌, ℕ, ◌+◌, ◌⊎◌, Bool, true, false, List, [], ◌∷◌, ◌++◌, length, codes, string_bytes, if◌then◌else◌}
use Rattle.std.specs.Prelude.{Result, Ok, Err}
use Rattle.std.specs.declared.alloc.AllocError.{AllocError}
use Rattle.admission_model.specs.declared.ask.Call.{Call}
use Rattle.admission_model.specs.declared.ask.Call.TheVariants.{Ask, Merge, Snapshot}
use Rattle.merge_core.specs.Layout.{LayoutState}
use Rattle.admission_model.specs.Account.{Account}
use Rattle.admission_core.specs.Core.{Stands}
use Rattle.admission_core.specs.Kept.{DurableState, durable_of}
use Rattle.durable_keeper.specs.declared.keeper.Keeper.{Ghosts}
use Rattle.desk_log.specs.declared.entry.Entry.{Entry}
use Rattle.desk_log.specs.Desk.{Leaves}
use Rattle.exit_status.specs.declared.status.Status.{Status}
use Rattle.exit_status.specs.declared.status.Status.TheVariants as status
use Rattle.line_conversation.specs.Turns.{Whole, Turn, Told as Tell}
use Rattle.line_conversation.specs.declared.conversation.Conversation.{Ghosts as TalkGhosts}
use Rattle.live_site.specs.declared.call_log.CallLog.{Ghosts as LogGhosts}
use Rattle.live_site.specs.Live.{LiveState}
use Rattle.serve_engine.specs.declared.answering.Told.{Told}
use Rattle.serve_engine.specs.declared.answering.Told.TheVariants.{Text, Unmarked, Memory, StoreFault, Frozen, LogFailed}
use Rattle.serve_engine.specs.declared.marks.Marker.{Marker}
use Rattle.serve_engine.specs.declared.marks.Marking.{Marking}
use Rattle.serve_engine.specs.declared.marks.Marking.TheVariants.{Marked, Plain}
use Rattle.serve_engine.specs.declared.taking.Parts.{Parts}
use Rattle.serve_engine.specs.declared.turns.Turned.{Turned}
use Rattle.serve_engine.specs.declared.turns.Turned.TheVariants as turned
use Rattle.serve_engine.specs.Answers.{unmarked_line, memory_line, frozen_line, fault_line}
use Rattle.serve_engine.specs.Marks.{Mark, group_word, records_digest}
use Rattle.serve_engine.specs.Requests.{Terms}
use Rattle.serve_engine.specs.Exchanges.{Exchange, turns_of, Answers, Stops, IsIdle, HasServed, HasTold}
use Rattle.serve_engine.specs.Ending.{EndsIn}

-- how the service ends with the conversation
abbrev pub ended : Bool → Status
ended true = status.Fault
ended false = status.Done

-- the text that is told, where one was written or not
abbrev pub told_text : Told → List ℕ → List ℕ
told_text Text text = text
told_text (Unmarked fault) text = unmarked_line fault
told_text Memory text = memory_line
told_text StoreFault text = fault_line
told_text Frozen text = frozen_line
told_text LogFailed text = []

-- what a site that reads its lines by these terms, at this layout, knows of its marks
pub record AreTerms (terms : Terms) (layout : LayoutState) (marker : Marker) : Type 0 where
  pub of_layout : layout.records ≡ terms.records
  pub same_marking : marker.marking ≡ terms.marking
  pub word : string_bytes marker.group ≡ group_word terms.group
  pub digits : string_bytes marker.records ≡ records_digest terms.records

-- the answer to the call, where nothing refuses it, is a delta that is marked
abbrev pub is_marked : Call → Marking → Bool
is_marked (Ask ask) marking = false
is_marked (Merge delta) marking = false
is_marked Snapshot Marked = true
is_marked Snapshot Plain = false

-- a mark of the text that is not there yet: zeros stand where the digits of its digest will
abbrev pub zero_mark : List ℕ → List ℕ → List ℕ
zero_mark group records = group ++ (codes " " ++ (records ++ codes " 00000000 "))

-- what is written before a call is served
abbrev pub space_before : Terms → Call → List ℕ
space_before terms call = if is_marked call terms.marking then zero_mark (group_word terms.group) (records_digest terms.records) else []

-- the mark that was found in front of a text
abbrev pub mark_in : Parts → Mark
mark_in parts = record { group = parts.group.now; records = parts.records.now; checksum = parts.checksum.now }

-- what is told where an answer was written, or found no memory
abbrev pub written : Result (Unit {0}) AllocError → Told
written (Ok _) = Text
written (Err _) = Memory

-- an exchange over a whole line
abbrev pub exchange_of : List ℕ → List ℕ → Exchange
exchange_of line told = record { line = Whole line; told = told }

-- a look at a site: one that serves no more says so, and one that serves shows this text, or lacks memory
abbrev pub ShowsAs : {K : Type 0} → Bool → LiveState K → (Account → List ℕ) → Told → List ℕ → Type 0
ShowsAs true live shown told text = told ≡ Frozen
ShowsAs false live shown told text = ((told ≡ Text) × ((a : Account) → Stands a live.core → text ≡ shown a)) ⊎ (told ≡ Memory)

abbrev pub Shows : {K : Type 0} → LiveState K → (Account → List ℕ) → Told → List ℕ → Type 0
Shows live shown told text = ShowsAs live.frozen live shown told text

module _ {L : Type 0} where
  -- the log was handed these entries
  abbrev pub Hands : LogGhosts L → L → L → List Entry → Type 0
  Hands h old new entries = (first : L) (before : List Entry) → h.took first before old → h.took first (before ++ entries) new

module _ {K L : Type 0} where
  -- an exchange behind which the site serves on, from an account
  pub record ServesOn (g : Ghosts K) (h : LogGhosts L) (terms : Terms) (a : Account) (old new : LiveState K) (log log_after : L) (x : Exchange) : Type 0 where
    pub entries : List Entry
    pub account : Account
    pub answers : Answers terms a x.line x.told account entries
    pub stands : Stands account new.core
    pub running : new.frozen ≡ false
    pub kept : g.keeps old.keeper (durable_of a) → g.keeps new.keeper (durable_of account)
    pub handed : Hands h log log_after entries

  -- one behind which it serves no more: its store is marked as outdated, or the answer told a fault
  pub record StopsServing (g : Ghosts K) (m : K → Type 0) (h : LogGhosts L) (terms : Terms) (a : Account) (old new : LiveState K) (log log_after : L) (x : Exchange) : Type 0 where
    pub line : List ℕ
    pub whole : x.line ≡ Whole line
    pub entries : List Entry
    pub fault : Bool
    pub tried : Account
    pub stops : Stops terms a line x.told fault tried entries
    pub stands : Stands a new.core
    pub frozen : new.frozen ≡ true
    pub kept : g.keeps old.keeper (durable_of a) → Leaves g fault new.keeper a tried
    pub keeps_stop : g.keeps old.keeper (durable_of a) → m new.keeper ⊎ (x.told ≡ fault_line)
    pub handed : Hands h log log_after entries

  -- one with a site that serves no more
  pub record StaysIdle (terms : Terms) (old new : LiveState K) (log log_after : L) (x : Exchange) : Type 0 where
    pub idle : IsIdle terms x.line x.told
    pub site : new ≡ old
    pub unlogged : log_after ≡ log

  -- by whether the site served before
  abbrev pub ExchangesAs : Bool → Ghosts K → (K → Type 0) → LogGhosts L → Terms → Account → LiveState K → LiveState K → L → L → Exchange → Type 0
  ExchangesAs false g m h terms a old new log log_after x = ServesOn g h terms a old new log log_after x ⊎ StopsServing g m h terms a old new log log_after x
  ExchangesAs true g m h terms a old new log log_after x = StaysIdle terms old new log log_after x

  abbrev pub Exchanges : Ghosts K → (K → Type 0) → LogGhosts L → Terms → Account → LiveState K → LiveState K → L → L → Exchange → Type 0
  Exchanges g m h terms a old new log log_after x = ExchangesAs old.frozen g m h terms a old new log log_after x

  -- a line that the site did not serve, since its log failed
  pub record LosesLog (g : Ghosts K) (h : LogGhosts L) (a : Account) (old new : LiveState K) (log_after : L) : Type 0 where
    pub was_running : old.frozen ≡ false
    pub running : new.frozen ≡ false
    pub stands : Stands a new.core
    pub kept : g.keeps old.keeper (durable_of a) → g.keeps new.keeper (durable_of a)
    pub failed : h.has_failed log_after

  -- a line that came whole, by what is told
  abbrev pub ServesLine : Ghosts K → (K → Type 0) → LogGhosts L → Terms → Account → LiveState K → LiveState K → L → L → List ℕ → Told → List ℕ → Type 0
  ServesLine g m h terms a old new log log_after line LogFailed text = LosesLog g h a old new log_after
  ServesLine g m h terms a old new log log_after line told text = Exchanges g m h terms a old new log log_after (exchange_of line (told_text told text))

module _ {C : Type 0} where
  -- a text was told, and is not lost; or the conversation failed
  abbrev pub Tells : TalkGhosts C → C → C → List ℕ → Turned → Type 0
  Tells c old new text turned.Next = ((first : C) (before : List Turn) → c.took_place first before old → c.took_place first (before ++ Tell text ∷ []) new) × (c.loses new → c.loses old)
  Tells c old new text turned.Failed = ((first : C) (before : List Turn) → c.took_place first before old → c.took_place first before new) × c.has_failed new
  Tells c old new text turned.End = ⊥

module _ {K C L : Type 0} where
  -- the line that is kept was answered, and the answer told or not; or the log failed
  abbrev pub AnswersHeard : Ghosts K → (K → Type 0) → TalkGhosts C → LogGhosts L → Terms → Account → LiveState K → LiveState K → C → C → L → L → List ℕ → Turned → Type 0
  AnswersHeard g m c h terms a old new talk talk_after log log_after line turn =
      ((text : List ℕ) × Exchanges g m h terms a old new log log_after (exchange_of line text) × Tells c talk talk_after text turn)
      ⊎ (LosesLog g h a old new log_after × (talk_after ≡ talk) × (turn ≡ turned.Failed))

module _ {K : Type 0} where
  -- what a site served so far, from an account
  pub record StandsBehind (g : Ghosts K) (m : K → Type 0) (terms : Terms) (a : Account) (first : DurableState)
      (keeper : K) (live : LiveState K) (xs : List Exchange) (entries : List Entry) : Type 0 where
    pub fault : Bool
    pub account : Account
    pub tried : Account
    pub served : HasServed terms live.frozen a xs entries fault account tried
    pub stands : Stands account live.core
    pub kept : g.keeps keeper first → Leaves g fault live.keeper account tried
    pub keeps_stop : live.frozen ≡ true → g.keeps keeper first → m live.keeper ⊎ HasTold fault_line xs

module _ {K C L : Type 0} where
  -- so many exchanges, each of which was told, and none lost
  pub record Works (g : Ghosts K) (m : K → Type 0) (c : TalkGhosts C) (h : LogGhosts L) (terms : Terms) (a : Account)
      (first : DurableState) (keeper : K) (live : LiveState K) (talk talk_now : C) (log log_now : L) (n : ℕ) : Type 0 where
    pub exchanges : List Exchange
    pub entries : List Entry
    pub heard : c.took_place talk (turns_of exchanges) talk_now
    pub logged : h.took log entries log_now
    pub site : StandsBehind g m terms a first keeper live exchanges entries
    pub counted : length exchanges ≡ n
    pub whole : c.loses talk_now → c.loses talk

  -- exchanges of which the last is perhaps not complete, since the conversation or the log failed
  pub record Fails (g : Ghosts K) (m : K → Type 0) (c : TalkGhosts C) (h : LogGhosts L) (terms : Terms) (a : Account)
      (first : DurableState) (keeper : K) (live : LiveState K) (talk talk_now : C) (log log_now : L) : Type 0 where
    pub exchanges : List Exchange
    pub entries : List Entry
    pub turns : List Turn
    pub last : EndsIn exchanges turns
    pub heard : c.took_place talk turns talk_now
    pub logged : h.took log entries log_now ⊎ h.has_failed log_now
    pub site : StandsBehind g m terms a first keeper live exchanges entries
    pub why : c.has_failed talk_now ⊎ h.has_failed log_now

  -- one turn more
  abbrev pub TurnsTo : Ghosts K → (K → Type 0) → TalkGhosts C → LogGhosts L → Terms → Account → DurableState → K → LiveState K → C → C → L → L → ℕ → Turned → Type 0
  TurnsTo g m c h terms a first keeper live talk talk_now log log_now n turned.Next = Works g m c h terms a first keeper live talk talk_now log log_now (n + 1)
  TurnsTo g m c h terms a first keeper live talk talk_now log log_now n turned.End = Works g m c h terms a first keeper live talk talk_now log log_now n × c.has_ended talk_now
  TurnsTo g m c h terms a first keeper live talk talk_now log log_now n turned.Failed = Fails g m c h terms a first keeper live talk talk_now log log_now
