-- A round that is being filled. For private clauses.
use Rattle.std.specs.Prelude.{◌≡◌, ℕ, Bool, true, false, List, [], ◌∷◌, ◌++◌, length}
use Rattle.admission_model.specs.Account.{Account}
use Rattle.admission_core.specs.Core.{Stands}
use Rattle.admission_core.specs.Kept.{DurableState, durable_of}
use Rattle.durable_keeper.specs.declared.keeper.Keeper.{Ghosts}
use Rattle.desk_log.specs.declared.entry.Entry.{Entry}
use Rattle.line_conversation.specs.Turns.{Whole}
use Rattle.live_site.specs.Live.{LiveState}
use Rattle.round_keeper.specs.Staged.{StagedState, KeepsStaged}
use Rattle.serve_engine.specs.declared.filling.Placed.{Placed}
use Rattle.serve_engine.specs.declared.filling.Placed.TheVariants.{In, Alone, Unanswered}
use Rattle.serve_engine.specs.Requests.{Terms}
use Rattle.serve_engine.specs.Exchanges.{Exchange, Serves}
use Rattle.serve_engine.specs.Rounds.{answers_of}

-- the lines of a round, the answers before its first change and behind it, and how many lines stand before it
pub record RoundState : Type 0 where
  pub lines : List (List ℕ)
  pub sure : List ℕ
  pub waiting : List ℕ
  pub sure_lines : ℕ

abbrev pub empty_round : RoundState
empty_round = record { lines = []; sure = []; waiting = []; sure_lines = 0 }

-- one with an answer more, behind the first change or before it
abbrev pub with_answer : RoundState → List ℕ → Bool → RoundState
with_answer round text true = record round { waiting = round.waiting ++ text }
with_answer round text false = record round { sure = round.sure ++ text; sure_lines = length round.lines }

-- these lines were heard, whole
abbrev pub AreWhole : List (List ℕ) → List Exchange → Type 0
AreWhole [] [] = Unit {0}
AreWhole [] (x ∷ xs) = ⊥
AreWhole (l ∷ ls) [] = ⊥
AreWhole (l ∷ ls) (x ∷ xs) = (x.line ≡ Whole l) × AreWhole ls xs

-- a round has these exchanges, before its first change and behind it
pub record HasExchanges (round : RoundState) (sure waiting : List Exchange) : Type 0 where
  pub lines : AreWhole round.lines (sure ++ waiting)
  pub sure_texts : round.sure ≡ answers_of sure
  pub waiting_texts : round.waiting ≡ answers_of waiting
  pub counted : round.sure_lines ≡ length sure

module _ {K : Type 0} where
  -- A site served them, from an account whose durable part the keeper below keeps, if it does: behind those before the first
  -- change this is the durable part yet, and the changes that wait lead to that behind all.
  pub record IsFilled (g : Ghosts K) (base : DurableState) (terms : Terms) (a : Account) (k : K) (held : LiveState (StagedState K)) (sure waiting : List Exchange) : Type 0 where
    pub middle : Account
    pub account : Account
    pub entries : List Entry
    pub more : List Entry
    pub served : Serves terms a sure entries middle
    pub served_waiting : Serves terms middle waiting more account
    pub stands : Stands account held.core
    pub running : held.frozen ≡ false
    pub idle : waiting ≡ [] → held.keeper.changes ≡ []
    pub middle_kept : g.faults_of k ≡ 0 → g.keeps k base → base ≡ durable_of a → base ≡ durable_of middle
    pub kept : g.faults_of k ≡ 0 → g.keeps k base → base ≡ durable_of a → KeepsStaged g base held.keeper (durable_of account)

  -- a round of these exchanges
  pub record Fills (g : Ghosts K) (base : DurableState) (terms : Terms) (a : Account) (k : K) (held : LiveState (StagedState K)) (round : RoundState) (xs : List Exchange) : Type 0 where
    pub sure : List Exchange
    pub waiting : List Exchange
    pub split : xs ≡ sure ++ waiting
    pub filled : IsFilled g base terms a k held sure waiting
    pub has : HasExchanges round sure waiting

  -- A round of these exchanges and of one line more, which has no answer. The keeper below keeps what it kept before the round.
  pub record IsUndone (g : Ghosts K) (base : DurableState) (terms : Terms) (a : Account) (k : K)
      (held : LiveState (StagedState K)) (round : RoundState) (xs : List Exchange) (line : List ℕ) : Type 0 where
    pub sure : List Exchange
    pub waiting : List Exchange
    pub split : xs ≡ sure ++ waiting
    pub middle : Account
    pub entries : List Entry
    pub served : Serves terms a sure entries middle
    pub middle_kept : g.faults_of k ≡ 0 → g.keeps k base → base ≡ durable_of a → base ≡ durable_of middle
    pub base_kept : g.faults_of k ≡ 0 → g.keeps k base → base ≡ durable_of a → g.keeps held.keeper.keeper base
    pub standing : Account
    pub stands : Stands standing held.core
    pub front : List (List ℕ)
    pub lines : round.lines ≡ front ++ line ∷ []
    pub whole : AreWhole front xs
    pub sure_texts : round.sure ≡ answers_of sure
    pub counted : round.sure_lines ≡ length sure

  -- what became of a line
  abbrev pub IsPlaced : Ghosts K → DurableState → Terms → Account → K → LiveState (StagedState K) → RoundState → List Exchange → List ℕ → Placed → Type 0
  IsPlaced g base terms a k held round xs line In = (x : Exchange) × (x.line ≡ Whole line) × Fills g base terms a k held round (xs ++ x ∷ [])
  IsPlaced g base terms a k held round xs line Alone = Fills g base terms a k held round xs
  IsPlaced g base terms a k held round xs line Unanswered = IsUndone g base terms a k held round xs line
