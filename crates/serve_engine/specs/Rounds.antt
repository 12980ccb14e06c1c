-- A conversation in rounds: lines that wait are served one after the other, and their changes are committed together
-- before any of them is answered (group commit; this project's own form).
use Rattle.std.specs.Prelude.{◌≡◌, ◌⊎◌, ℕ, ◌+◌, ◌<◌, ◌≤◌, Bool, true, false, List, [], ◌∷◌, ◌++◌, length, Option}
use Rattle.merge_core.specs.Layout.{LayoutState}
use Rattle.admission_model.specs.Account.{Account}
use Rattle.admission_model.specs.Restoring.{AreCells, AreSessions}
use Rattle.admission_core.specs.Kept.{DurableState, durable_of}
use Rattle.durable_keeper.specs.declared.keeper.Keeper.{Ghosts}
use Rattle.desk_log.specs.declared.entry.Entry.{Entry}
use Rattle.desk_log.specs.Log.{begun}
use Rattle.desk_log.specs.Desk.{KeepsOn, Leaves}
use Rattle.layout_file.specs.declared.fault.LayoutFault.TheVariants.{NoSite}
use Rattle.exit_status.specs.declared.status.Status.{Status}
use Rattle.exit_status.specs.declared.status.Status.TheVariants.{Done, Usage, NoLayout, NoStore, Fault, Refused, Memory, Io}
use Rattle.site_engine.specs.Sites.{Began, IsUnfit}
use Rattle.line_conversation.specs.Turns.{Line, Whole, Turn, Heard, Told}
use Rattle.line_conversation.specs.declared.conversation.Conversation.{Ghosts as TalkGhosts}
use Rattle.serve_engine.specs.declared.marks.Marking.{Marking}
use Rattle.serve_engine.specs.Answers.{fault_line}
use Rattle.serve_engine.specs.Requests.{Terms, terms_of}
use Rattle.serve_engine.specs.Exchanges.{Exchange, Serves, ServesUpTo, AreIdle, HasTold}
use Rattle.serve_engine.specs.Ending.{most_exchanges}

-- the lines of exchanges are heard, one behind the other
abbrev pub heard_of : List Exchange → List Turn
heard_of [] = []
heard_of (x ∷ xs) = Heard x.line ∷ heard_of xs

-- lines are heard, and have no answer
abbrev pub unanswered : List Line → List Turn
unanswered [] = []
unanswered (l ∷ ls) = Heard l ∷ unanswered ls

-- texts are told, one behind the other
abbrev pub told_of : List (List ℕ) → List Turn
told_of [] = []
told_of (t ∷ ts) = Told t ∷ told_of ts

-- texts as one
abbrev pub joined : List (List ℕ) → List ℕ
joined [] = []
joined (t ∷ ts) = t ++ joined ts

-- the answers of exchanges as one text
abbrev pub answers_of : List Exchange → List ℕ
answers_of [] = []
answers_of (x ∷ xs) = x.told ++ answers_of xs

-- at most so many, and where that is none, at most one
abbrev pub AreFew : ℕ → ℕ → Type 0
AreFew most n = (n ≤ most) ⊎ (n ≤ 1)

-- Lines that were heard before any of them was answered, and their answers behind them, in their order.
pub record IsBlock (most : ℕ) (xs : List Exchange) (turns : List Turn) : Type 0 where
  pub texts : List (List ℕ)
  pub order : turns ≡ heard_of xs ++ told_of texts
  pub answers : joined texts ≡ answers_of xs
  pub some : 0 < length xs
  pub few : AreFew most (length xs)

-- blocks, one behind the other
pub data AreBlocks : ℕ → List Exchange → List Turn → Type 0 where
  no_block : (most : ℕ) → AreBlocks most [] []
  one_more : (most : ℕ) (xs : List Exchange) (turns : List Turn) (block : List Exchange) (more : List Turn)
      → AreBlocks most xs turns → IsBlock most block more → AreBlocks most (xs ++ block) (turns ++ more)

-- The same, and a last block that is not complete: the last texts of its answers were not told, and the last lines of those
-- that were heard were not served.
pub record EndsInBlock (most : ℕ) (xs : List Exchange) (turns : List Turn) : Type 0 where
  pub before : List Exchange
  pub block : List Exchange
  pub done : List Turn
  pub unserved : List Line
  pub texts : List (List ℕ)
  pub untold : List ℕ
  pub split : xs ≡ before ++ block
  pub blocks : AreBlocks most before done
  pub order : turns ≡ done ++ (heard_of block ++ (unanswered unserved ++ told_of texts))
  pub answers : joined texts ++ untold ≡ answers_of block
  pub few : AreFew most (length block + length unserved)

-- each exchange is a whole line that was told a fault of the store
abbrev pub AreFaults : List Exchange → Type 0
AreFaults [] = Unit {0}
AreFaults (x ∷ xs) = ((line : List ℕ) × (x.line ≡ Whole line)) × (x.told ≡ fault_line) × AreFaults xs

-- exchanges over the same lines
abbrev pub SameLines : List Exchange → List Exchange → Type 0
SameLines [] [] = Unit {0}
SameLines [] (y ∷ ys) = ⊥
SameLines (x ∷ xs) [] = ⊥
SameLines (x ∷ xs) (y ∷ ys) = (x.line ≡ y.line) × SameLines xs ys

-- Exchanges of which the last ones, at least one, are those of a round that was not kept: each was told a fault, whatever
-- its reply. Either nothing of it is kept; or it is not known whether the whole round is, whose true answers were not told.
pub record FailsTogether (most : ℕ) (terms : Terms) (a : Account) (xs : List Exchange) (fault : Bool) (b tried : Account) : Type 0 where
  pub before : List Exchange
  pub failed : List Exchange
  pub untold : List Exchange
  pub entries : List Entry
  pub more : List Entry
  pub split : xs ≡ before ++ failed
  pub served : Serves terms a before entries b
  pub told : AreFaults failed
  pub some : 0 < length failed
  pub few : AreFew most (length failed)
  pub certain : fault ≡ false → tried ≡ b
  pub in_doubt : fault ≡ true → SameLines untold failed × Serves terms b untold more tried

-- exchanges with a site that serves no more behind such a round
pub record StopsTogether (most : ℕ) (terms : Terms) (a : Account) (xs : List Exchange) (fault : Bool) (b tried : Account) : Type 0 where
  pub front : List Exchange
  pub behind : List Exchange
  pub split : xs ≡ front ++ behind
  pub stopped : FailsTogether most terms a front fault b tried
  pub idle : AreIdle terms behind

-- exchanges that a site serves from an account on, by whether it serves no more: the account behind those that it served,
-- and the one behind what is in doubt
abbrev pub HasServedTogether : ℕ → Terms → Bool → Account → List Exchange → Bool → Account → Account → Type 0
HasServedTogether most terms false a xs fault b tried = (entries : List Entry) × Serves terms a xs entries b × (fault ≡ false) × (tried ≡ b)
HasServedTogether most terms true a xs fault b tried =
    ((entries : List Entry) × ServesUpTo terms a xs entries fault b tried) ⊎ StopsTogether most terms a xs fault b tried

-- a site begins again with this durable part: that of an account, where the store gives back what it kept
pub record BeginsFrom (honest : Type 0) (layout : LayoutState) (i : ℕ) (a : Account) (first : DurableState) : Type 0 where
  pub cells : AreCells layout i first.cells
  pub sessions : AreSessions layout i first.cells first.sessions
  pub found : honest → first ≡ durable_of a

-- A site serves exchanges and begins again behind them, so often: at first it is at one account, and at last at the other.
abbrev pub Reaches : Type 0 → Terms → LayoutState → ℕ → Account → List (List Exchange) → Account → Type 0
Reaches honest terms layout i a [] c = c ≡ a
Reaches honest terms layout i a (xs ∷ xss) c =
    (b : Account) × (entries : List Entry) × (first : DurableState)
    × Serves terms a xs entries b × BeginsFrom honest layout i b first × Reaches honest terms layout i (begun layout i first) xss c

-- lists of exchanges as one
abbrev pub all_of : List (List Exchange) → List Exchange
all_of [] = []
all_of (xs ∷ xss) = xs ++ all_of xss

module _ {K : Type 0} where
  -- A site served these exchanges, from an account. What is then kept is the durable part of the account behind those that
  -- were answered, or, where the store failed, that or the one behind the call or the whole round that met the fault.
  pub record ServedTogether (g : Ghosts K) (m : K → Type 0) (most : ℕ) (terms : Terms) (layout : LayoutState) (i : ℕ) (a : Account) (first : DurableState)
      (frozen : Bool) (keeper keeper_after : K) (xs : List Exchange) : Type 0 where
    pub earlier : List (List Exchange)
    pub last : List Exchange
    pub split : xs ≡ all_of earlier ++ last
    pub began : Account
    pub reached : Reaches (g.keeps keeper first × g.is_honest keeper_after) terms layout i a earlier began
    pub fault : Bool
    pub account : Account
    pub tried : Account
    pub served : HasServedTogether most terms frozen began last fault account tried
    pub kept : g.keeps keeper first → g.is_honest keeper_after → Leaves g fault keeper_after account tried
    pub keeps_stop : frozen ≡ true → g.keeps keeper first → g.is_honest keeper_after → m keeper_after ⊎ HasTold fault_line xs

module _ {K C : Type 0} where
  -- the conversation came to its end: each line was answered, and no answer was lost
  pub record EndsWellTogether (g : Ghosts K) (m : K → Type 0) (c : TalkGhosts C) (most : ℕ) (terms : Terms) (layout : LayoutState) (i : ℕ) (a : Account)
      (first : DurableState) (frozen : Bool) (keeper keeper_after : K) (talk talk_after : C) : Type 0 where
    pub exchanges : List Exchange
    pub turns : List Turn
    pub blocks : AreBlocks most exchanges turns
    pub heard : c.took_place talk turns talk_after
    pub site : ServedTogether g m most terms layout i a first frozen keeper keeper_after exchanges
    pub ended : c.has_ended talk_after
    pub whole : c.loses talk_after → c.loses talk

  -- it failed: the last block is perhaps not complete
  pub record EndsEarlyTogether (g : Ghosts K) (m : K → Type 0) (c : TalkGhosts C) (most : ℕ) (terms : Terms) (layout : LayoutState) (i : ℕ) (a : Account)
      (first : DurableState) (keeper keeper_after : K) (talk talk_after : C) : Type 0 where
    pub frozen : Bool
    pub exchanges : List Exchange
    pub turns : List Turn
    pub last : EndsInBlock most exchanges turns
    pub heard : c.took_place talk turns talk_after
    pub site : ServedTogether g m most terms layout i a first frozen keeper keeper_after exchanges
    pub why : c.has_failed talk_after ⊎ (most_exchanges ≤ length exchanges)

  -- how a site that was opened ended
  abbrev pub EndsSiteTogether : Ghosts K → (K → Type 0) → TalkGhosts C → ℕ → Terms → LayoutState → ℕ → Account → DurableState → K → K → C → C → Status → Type 0
  EndsSiteTogether g m c most terms layout i a first keeper keeper_after talk talk_after Done = EndsWellTogether g m c most terms layout i a first false keeper keeper_after talk talk_after
  EndsSiteTogether g m c most terms layout i a first keeper keeper_after talk talk_after Fault = EndsWellTogether g m c most terms layout i a first true keeper keeper_after talk talk_after
  EndsSiteTogether g m c most terms layout i a first keeper keeper_after talk talk_after Io = EndsEarlyTogether g m c most terms layout i a first keeper keeper_after talk talk_after
  EndsSiteTogether g m c most terms layout i a first keeper keeper_after talk talk_after _ = ⊥

  -- the same from what was kept
  pub record ServingTogether (g : Ghosts K) (m : K → Type 0) (c : TalkGhosts C) (most : ℕ) (layout : LayoutState) (i : ℕ) (group : Option (List ℕ)) (marking : Marking)
      (keeper keeper_after : K) (talk talk_after : C) (status : Status) : Type 0 where
    pub first : DurableState
    pub began : Began g layout i keeper keeper_after first
    pub ended : EndsSiteTogether g m c most (terms_of layout group marking) layout i (begun layout i first) first keeper keeper_after talk talk_after status

  -- where no site was opened nothing was heard or told, and what was kept is kept
  pub record UntouchedTogether (g : Ghosts K) (keeper keeper_after : K) (talk talk_after : C) : Type 0 where
    pub keeps_on : KeepsOn g keeper keeper_after
    pub silent : talk_after ≡ talk

  -- The whole service of a site in rounds of at most so many lines.
  abbrev pub EndsServingTogether : Ghosts K → (K → Type 0) → TalkGhosts C → ℕ → LayoutState → ℕ → Option (List ℕ) → Marking → K → K → C → C → Status → Type 0
  EndsServingTogether g m c most layout i group marking keeper keeper_after talk talk_after (NoStore refusal) =
      IsUnfit g layout i keeper keeper_after refusal × UntouchedTogether g keeper keeper_after talk talk_after
  EndsServingTogether g m c most layout i group marking keeper keeper_after talk talk_after (NoLayout fault) =
      (fault ≡ NoSite) × (¬ (i < layout.sites)) × (keeper_after ≡ keeper) × UntouchedTogether g keeper keeper_after talk talk_after
  EndsServingTogether g m c most layout i group marking keeper keeper_after talk talk_after Memory =
      (i < layout.sites) × UntouchedTogether g keeper keeper_after talk talk_after
  EndsServingTogether g m c most layout i group marking keeper keeper_after talk talk_after Usage = ⊥
  EndsServingTogether g m c most layout i group marking keeper keeper_after talk talk_after Refused = ⊥
  EndsServingTogether g m c most layout i group marking keeper keeper_after talk talk_after status = ServingTogether g m c most layout i group marking keeper keeper_after talk talk_after status
