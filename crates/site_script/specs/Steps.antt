-- A script on the way: what was answered so far, and one line more (no public contract cites these).
use Rattle.std.specs.Prelude.{◌≡◌, ℕ, ◌⊎◌, Bool, true, false, List, [], ◌∷◌, ◌++◌, length, Some, None}
use Rattle.merge_core.specs.declared.layout.RecordSpec.{RecordSpec}
use Rattle.admission_model.specs.declared.ask.Call.{Call}
use Rattle.admission_model.specs.Account.{Account}
use Rattle.script_text.specs.Replies.{unread_line}
use Rattle.desk_log.specs.Desk.{DeskState, account_of, account_if_kept, is_frozen}
use Rattle.site_script.specs.declared.lines.Said.{Said}
use Rattle.site_script.specs.declared.lines.Said.TheVariants.{Asked}
use Rattle.site_script.specs.Lines.{Says}
use Rattle.site_script.specs.Served.{places_after, places_of, frozen_answers, IsServed, IsStopped, AnswersAll}

-- the answers of a desk that still serves, with its account b and so many places now
abbrev pub ServedAs : Account → ℕ → Account → ℕ → List Said → List ℕ → Type 0
ServedAs a left b now said text = IsServed a left b said text × (now ≡ places_after left said)

-- the same, or of one that has stopped, with the account where the call in doubt was kept
abbrev pub AnsweredAs : Bool → Account → ℕ → Account → Account → ℕ → List Said → List ℕ → Type 0
AnsweredAs false a left b tried now said text = ServedAs a left b now said text
AnsweredAs true a left b tried now said text = IsStopped a left b tried said text

-- a desk has answered what was said by this text, from an account and with so many places in the log
abbrev pub HasAnswered : {K : Type 0} → Account → ℕ → DeskState K → List Said → List ℕ → Type 0
HasAnswered a left d said text = AnsweredAs (is_frozen d) a left (account_of d) (account_if_kept d) (places_of d) said text

-- the same of a desk that had stopped before the script, or had not
abbrev pub AnsweredFrom : {K : Type 0} → Bool → Account → ℕ → DeskState K → List Said → List ℕ → Type 0
AnsweredFrom false a left d said text = HasAnswered a left d said text
AnsweredFrom true a left d said text = (is_frozen d ≡ true) × (text ≡ frozen_answers said)

-- so many lines are answered, and the rest is still to come
pub record AnsweredSoFar (A : List Said → List ℕ → Type 0) (records : List RecordSpec) (lines rest : List (List ℕ)) (number : ℕ) (text : List ℕ) : Type 0 where
  pub before : List (List ℕ)
  pub split : lines ≡ before ++ rest
  pub counted : length before ≡ number
  pub answers : AnswersAll A records before text

-- a line that says something: with it, what was answered before stays answered
pub record AnswersLine (A B : List Said → List ℕ → Type 0) (records : List RecordSpec) (line old new : List ℕ) : Type 0 where
  pub said : Said
  pub read : Says records line (Some said)
  pub answered : (before : List Said) → A before old → B (before ++ said ∷ []) new

-- a line that says nothing, which is told with its number
pub record AnswersNone (A B : List Said → List ℕ → Type 0) (records : List RecordSpec) (line : List ℕ) (number : ℕ) (old new : List ℕ) : Type 0 where
  pub unread : Says records line None
  pub text_is : new ≡ old ++ unread_line number
  pub still : (said : List Said) → A said old → B said old

-- one of the two
abbrev pub AnswersOne : (List Said → List ℕ → Type 0) → (List Said → List ℕ → Type 0) → List RecordSpec → List ℕ → ℕ → Bool → List ℕ → List ℕ → Type 0
AnswersOne A B records line number true old new = AnswersLine A B records line old new
AnswersOne A B records line number false old new = AnswersNone A B records line number old new

-- A call whose answer was lost: what was answered before stays so, or the call is answered as well.
abbrev pub LosesCall : (List Said → List ℕ → Type 0) → (List Said → List ℕ → Type 0) → Call → List ℕ → Type 0
LosesCall A B call old =
    ((said : List Said) → A said old → B said old)
    ⊎ ((new : List ℕ) × ((said : List Said) → A said old → B (said ++ Asked call ∷ []) new))

-- the same of a line
abbrev pub LosesLine : (List Said → List ℕ → Type 0) → (List Said → List ℕ → Type 0) → List RecordSpec → List ℕ → List ℕ → Type 0
LosesLine A B records line old =
    ((said : List Said) → A said old → B said old) ⊎ ((new : List ℕ) × AnswersLine A B records line old new)
