-- Rounds so far, and one round, from its first line to its last answer. For private clauses.
use Rattle.std.specs.Prelude.{◌≡◌, ◌⊎◌, ℕ, zero, suc, ◌+◌, ◌-◌, ◌<◌, ◌≤◌, Bool, true, false, List, [], ◌∷◌, ◌++◌, length, Option, Some, None}
use Rattle.std.specs.Prelude.{Result, Ok, Err}
use Rattle.merge_core.specs.Layout.{LayoutState}
use Rattle.admission_model.specs.Account.{Account}
use Rattle.admission_core.specs.Core.{Stands}
use Rattle.admission_core.specs.Kept.{DurableState, durable_of}
use Rattle.durable_keeper.specs.declared.keeper.Keeper.{Ghosts}
use Rattle.durable_keeper.specs.declared.error.KeeperError.{KeeperError}
use Rattle.durable_keeper.specs.declared.error.KeeperError.TheVariants as keeping
use Rattle.desk_log.specs.declared.entry.Entry.{Entry}
use Rattle.desk_log.specs.Desk.{Leaves}
use Rattle.line_conversation.specs.Turns.{Line, Whole, TooLong, NoRoom, Torn, Turn}
use Rattle.line_conversation.specs.declared.conversation.Conversation.{Ghosts as TalkGhosts}
use Rattle.line_conversation.specs.declared.conversation.Next.{Next}
use Rattle.line_conversation.specs.declared.conversation.Next.TheVariants as next
use Rattle.live_site.specs.Live.{LiveState}
use Rattle.round_keeper.specs.Staged.{StagedState}
use Rattle.serve_engine.specs.declared.filling.Behind.{Behind}
use Rattle.serve_engine.specs.declared.filling.Behind.TheVariants as behind
use Rattle.serve_engine.specs.declared.filling.Taken.{Taken}
use Rattle.serve_engine.specs.declared.filling.Taken.TheVariants.{More, Full, Broken}
use Rattle.serve_engine.specs.declared.marks.Marker.{Marker}
use Rattle.serve_engine.specs.declared.turns.Turned.{Turned}
use Rattle.serve_engine.specs.declared.turns.Turned.TheVariants as turned
use Rattle.serve_engine.specs.Answers.{bad_word_line, fault_line, memory_line, too_long_line}
use Rattle.serve_engine.specs.Requests.{Terms}
use Rattle.serve_engine.specs.Exchanges.{Exchange, Serves, HasTold}
use Rattle.serve_engine.specs.Rounds.{AreBlocks, AreFew, EndsInBlock, HasServedTogether, Reaches, all_of, answers_of, heard_of, joined, told_of, unanswered}
use Rattle.serve_engine.specs.Steps.{AreTerms}
use Rattle.serve_engine.specs.Filling.{RoundState, AreWhole, Fills, IsUndone}

-- where the service of a site began, and how many lines a round has at most
pub record Start (K C : Type 0) : Type 0 where
  pub most : ℕ
  pub terms : Terms
  pub layout : LayoutState
  pub site : ℕ
  pub account : Account
  pub first : DurableState
  pub keeper : K
  pub talk : C

-- lines that came whole
abbrev pub whole_lines : List (List ℕ) → List Line
whole_lines [] = []
whole_lines (l ∷ ls) = Whole l ∷ whole_lines ls

-- what was heard by a reading, where this line is kept
abbrev pub lines_by : Next → List ℕ → List Line
lines_by next.Line line = Whole line ∷ []
lines_by next.TooLong line = TooLong ∷ []
lines_by next.Memory line = NoRoom ∷ []
lines_by next.Torn line = Torn ∷ []
lines_by next.End line = []
lines_by next.Failed line = []

-- what was heard behind the lines of a round
abbrev pub lines_behind : Behind → List ℕ → List Line
lines_behind behind.Nothing line = []
lines_behind behind.Alone line = Whole line ∷ []
lines_behind behind.TooLong line = TooLong ∷ []
lines_behind behind.Memory line = NoRoom ∷ []

-- what a line leaves that was read behind a round
abbrev pub taken_by : Next → Taken
taken_by next.Line = More
taken_by next.TooLong = Full behind.TooLong
taken_by next.Memory = Full behind.Memory
taken_by next.Torn = Broken
taken_by next.End = Broken
taken_by next.Failed = Broken

-- the text that tells of a fault, so many times
abbrev pub faults : ℕ → List ℕ
faults zero = []
faults (suc n) = fault_line ++ faults n

-- what is told for the lines of a round that was not kept
abbrev pub failed_texts : RoundState → List ℕ
failed_texts round = round.sure ++ faults (length round.lines - round.sure_lines)

module _ {C : Type 0} where
  -- these texts were told, and none is lost
  pub record HasToldAll (c : TalkGhosts C) (old new : C) (texts : List (List ℕ)) : Type 0 where
    pub told : (first : C) (before : List Turn) → c.took_place first before old → c.took_place first (before ++ told_of texts) new
    pub whole : c.loses new → c.loses old

  -- a text was told, in parts
  pub record HasToldText (c : TalkGhosts C) (old new : C) (text : List ℕ) : Type 0 where
    pub texts : List (List ℕ)
    pub parts : joined texts ≡ text
    pub all : HasToldAll c old new texts

  -- the conversation failed behind some of its parts
  pub record HasToldPart (c : TalkGhosts C) (old new : C) (text : List ℕ) : Type 0 where
    pub texts : List (List ℕ)
    pub untold : List ℕ
    pub parts : joined texts ++ untold ≡ text
    pub told : (first : C) (before : List Turn) → c.took_place first before old → c.took_place first (before ++ told_of texts) new
    pub failed : c.has_failed new

  -- one of the two
  abbrev pub TellsText : TalkGhosts C → C → C → List ℕ → Turned → Type 0
  TellsText c old new text turned.Next = HasToldText c old new text
  TellsText c old new text turned.Failed = HasToldPart c old new text
  TellsText c old new text turned.End = ⊥

  -- what is no whole line was answered, where something was heard
  abbrev pub TellsOther : TalkGhosts C → C → C → Next → Turned → Type 0
  TellsOther c old new next.TooLong turn = TellsText c old new too_long_line turn
  TellsOther c old new next.Memory turn = TellsText c old new memory_line turn
  TellsOther c old new next.Torn turn = TellsText c old new bad_word_line turn
  TellsOther c old new next.End turn = (new ≡ old) × (turn ≡ turned.End)
  TellsOther c old new next.Failed turn = (new ≡ old) × (turn ≡ turned.Failed)
  TellsOther c old new next.Line turn = Unit {0}

module _ {K C : Type 0} where
  -- the lines of a round were served while their changes wait, and these were heard behind them: so many lines at most
  pub record IsFilling (g : Ghosts K) (base : DurableState) (c : TalkGhosts C) (terms : Terms) (a : Account) (k : K) (held : LiveState (StagedState K)) (round : RoundState)
      (talk : C) (turns : List Turn) (now : C) (behind : List Line) (n : ℕ) : Type 0 where
    pub exchanges : List Exchange
    pub fills : Fills g base terms a k held round exchanges
    pub heard : c.took_place talk (turns ++ unanswered (whole_lines round.lines ++ behind)) now
    pub few : length round.lines + length behind ≤ n
    pub some : 0 < length round.lines + length behind
    pub whole : c.loses now → c.loses talk

  -- the last one has no answer
  pub record IsBroken (g : Ghosts K) (base : DurableState) (c : TalkGhosts C) (terms : Terms) (a : Account) (k : K) (held : LiveState (StagedState K)) (round : RoundState)
      (talk : C) (turns : List Turn) (now : C) (n : ℕ) : Type 0 where
    pub exchanges : List Exchange
    pub line : List ℕ
    pub undone : IsUndone g base terms a k held round exchanges line
    pub heard : c.took_place talk (turns ++ unanswered (whole_lines round.lines)) now
    pub few : length round.lines ≤ n
    pub whole : c.loses now → c.loses talk

  -- one line more
  abbrev pub TakesLine : Ghosts K → DurableState → TalkGhosts C → Terms → Account → K → LiveState (StagedState K) → RoundState → C → List Turn → C → ℕ → Taken → Type 0
  TakesLine g base c terms a k held round talk turns now n More = IsFilling g base c terms a k held round talk turns now (Whole (c.kept now) ∷ []) n
  TakesLine g base c terms a k held round talk turns now n (Full behind) = IsFilling g base c terms a k held round talk turns now (lines_behind behind (c.kept now)) n
  TakesLine g base c terms a k held round talk turns now n Broken = IsBroken g base c terms a k held round talk turns now n

  abbrev pub FillsRound : Ghosts K → DurableState → TalkGhosts C → Terms → Account → K → LiveState (StagedState K) → RoundState → C → List Turn → C → ℕ → Option Behind → Type 0
  FillsRound g base c terms a k held round talk turns now n (Some behind) = IsFilling g base c terms a k held round talk turns now (lines_behind behind (c.kept now)) n
  FillsRound g base c terms a k held round talk turns now n None = IsBroken g base c terms a k held round talk turns now n

  -- the site and its marks are those of the start
  pub record IsAt (s : Start K C) (live : LiveState K) (marker : Marker) : Type 0 where
    pub terms : AreTerms s.terms live.core.layout marker
    pub layout : live.core.layout ≡ s.layout
    pub site : live.core.site ≡ s.site

  -- what a site served so far
  pub record StandsTogether (g : Ghosts K) (m : K → Type 0) (s : Start K C) (live : LiveState K) (xs : List Exchange) : Type 0 where
    pub earlier : List (List Exchange)
    pub last : List Exchange
    pub split : xs ≡ all_of earlier ++ last
    pub began : Account
    pub reached : Reaches (g.keeps s.keeper s.first × g.is_honest live.keeper) s.terms s.layout s.site s.account earlier began
    pub fault : Bool
    pub account : Account
    pub tried : Account
    pub served : HasServedTogether s.most s.terms live.frozen began last fault account tried
    pub standing : Account
    pub stands : Stands standing live.core
    pub same : live.frozen ≡ false → standing ≡ account
    pub kept : g.keeps s.keeper s.first → g.is_honest live.keeper → Leaves g fault live.keeper account tried
    pub keeps_stop : live.frozen ≡ true → g.keeps s.keeper s.first → g.is_honest live.keeper → m live.keeper ⊎ HasTold fault_line xs

  -- lines were heard behind the blocks so far, and none of them is served
  pub record HasHeard (g : Ghosts K) (m : K → Type 0) (c : TalkGhosts C) (s : Start K C) (live : LiveState K) (now : C) (lines : List Line) (n : ℕ) : Type 0 where
    pub exchanges : List Exchange
    pub turns : List Turn
    pub blocks : AreBlocks s.most exchanges turns
    pub heard : c.took_place s.talk (turns ++ unanswered lines) now
    pub few : AreFew s.most (length lines)
    pub site : StandsTogether g m s live exchanges
    pub counted : n ≤ length exchanges
    pub whole : c.loses now → c.loses s.talk

  -- Lines of a block were served, and behind them lines were heard that are not; of the answers this is not told yet.
  pub record InBlock (g : Ghosts K) (m : K → Type 0) (c : TalkGhosts C) (s : Start K C) (live : LiveState K) (now : C) (unserved : List Line) (untold : List ℕ) (n : ℕ) : Type 0 where
    pub before : List Exchange
    pub done : List Turn
    pub block : List Exchange
    pub texts : List (List ℕ)
    pub blocks : AreBlocks s.most before done
    pub heard : c.took_place s.talk (done ++ (heard_of block ++ (unanswered unserved ++ told_of texts))) now
    pub answers : joined texts ++ untold ≡ answers_of block
    pub some : 0 < length block + length unserved
    pub few : AreFew s.most (length block + length unserved)
    pub site : StandsTogether g m s live (before ++ block)
    pub counted : n ≤ length before
    pub whole : c.loses now → c.loses s.talk

  -- the conversation failed in a block
  pub record FailsInBlock (g : Ghosts K) (m : K → Type 0) (c : TalkGhosts C) (s : Start K C) (live : LiveState K) (now : C) : Type 0 where
    pub exchanges : List Exchange
    pub turns : List Turn
    pub last : EndsInBlock s.most exchanges turns
    pub heard : c.took_place s.talk turns now
    pub site : StandsTogether g m s live exchanges
    pub why : c.has_failed now

  -- a part of a block
  abbrev pub BlockTo : Ghosts K → (K → Type 0) → TalkGhosts C → Start K C → LiveState K → C → List Line → List ℕ → ℕ → Turned → Type 0
  BlockTo g m c s live now unserved untold n turned.Next = InBlock g m c s live now unserved untold n
  BlockTo g m c s live now unserved untold n turned.Failed = FailsInBlock g m c s live now
  BlockTo g m c s live now unserved untold n turned.End = ⊥

  -- one block more
  abbrev pub TurnsTogether : Ghosts K → (K → Type 0) → TalkGhosts C → Start K C → LiveState K → C → ℕ → Turned → Type 0
  TurnsTogether g m c s live now n turned.Next = HasHeard g m c s live now [] (n + 1)
  TurnsTogether g m c s live now n turned.End = HasHeard g m c s live now [] n × c.has_ended now
  TurnsTogether g m c s live now n turned.Failed = FailsInBlock g m c s live now

  -- A round for which no memory was found: nothing of it is kept, and the site serves no more until it begins again. The lines
  -- before the first change have their answers.
  pub record IsUnkept (g : Ghosts K) (m : K → Type 0) (c : TalkGhosts C) (s : Start K C) (live : LiveState K) (now : C) (round : RoundState) (behind : List Line) (n : ℕ) : Type 0 where
    pub old : LiveState K
    pub heard : HasHeard g m c s old now (whole_lines round.lines ++ behind) n
    pub running : old.frozen ≡ false
    pub some : 0 < length (whole_lines round.lines ++ behind)
    pub honest : g.is_honest live.keeper → g.is_honest old.keeper
    pub standing : Account
    pub stands : Stands standing live.core
    pub kept : g.keeps old.keeper (durable_of heard.site.account) → g.keeps live.keeper (durable_of heard.site.account)
    pub sure : List Exchange
    pub rest : List Exchange
    pub lines : AreWhole round.lines (sure ++ rest)
    pub left : 0 < length rest
    pub entries : List Entry
    pub middle : Account
    pub served : Serves s.terms heard.site.account sure entries middle
    pub same : g.keeps old.keeper (durable_of heard.site.account) → durable_of middle ≡ durable_of heard.site.account
    pub sure_texts : round.sure ≡ answers_of sure
    pub sure_counted : round.sure_lines ≡ length sure

  -- a round was served, and its changes kept or not
  abbrev pub HoldsRound : Ghosts K → (K → Type 0) → TalkGhosts C → Start K C → LiveState K → C → RoundState → List Line → ℕ → Result (Unit {0}) KeeperError → Type 0
  HoldsRound g m c s live now round behind n (Ok _) = InBlock g m c s live now behind (round.sure ++ round.waiting) n
  HoldsRound g m c s live now round behind n (Err keeping.StoreFault) = InBlock g m c s live now behind (failed_texts round) n
  HoldsRound g m c s live now round behind n (Err keeping.Memory) = IsUnkept g m c s live now round behind n
