-- What is answered to a site's script.
use Rattle.std.specs.Prelude.{◌≡◌, ℕ, zero, suc, ◌-◌, ◌+◌, Bool, true, false, List, [], ◌∷◌, ◌++◌, length, codes, Some, None}
use Rattle.std.specs.List.{AllByRecursion}
use Rattle.merge_core.specs.declared.layout.RecordSpec.{RecordSpec}
use Rattle.admission_model.specs.declared.ask.Call.{Call}
use Rattle.admission_model.specs.declared.reply.Refusal.TheVariants.{Frozen, LogFull, StoreFault}
use Rattle.admission_model.specs.declared.reply.Reply.TheVariants.{Refused}
use Rattle.admission_model.specs.Account.{Account}
use Rattle.admission_model.specs.View.{view_of}
use Rattle.admission_model.specs.Serving.{after, reply_of}
use Rattle.delta_codec.specs.declared.fault.DecodeError.{DecodeError}
use Rattle.delta_codec.specs.Decodes.{fault_name}
use Rattle.script_text.specs.Replies.{reply_text, unread_line}
use Rattle.desk_log.specs.declared.entry.Entry.{Entry}
use Rattle.desk_log.specs.Desk.{DeskState, account_of, account_if_kept, is_frozen}
use Rattle.site_script.specs.declared.lines.Said.{Said}
use Rattle.site_script.specs.declared.lines.Said.TheVariants.{Asked, Unread}
use Rattle.site_script.specs.Lines.{Says}

-- each line says one of these, in order
abbrev pub AreSaid : List RecordSpec → List (List ℕ) → List Said → Type 0
AreSaid records [] [] = Unit {0}
AreSaid records (line ∷ lines) (said ∷ rest) = Says records line (Some said) × AreSaid records lines rest
AreSaid records _ _ = ⊥

-- the line that tells why a text is no delta's
abbrev pub no_delta_line : DecodeError → List ℕ
no_delta_line e = codes "refused " ++ (fault_name e ++ codes "\n")

-- The lines that answer what was said, from an account and with so many places in the log: a call gets the model's
-- reply and takes a place; where there is none it gets `LogFull`; a text that is no delta's is told, and takes none.
abbrev pub answers : Account → ℕ → List Said → List ℕ
answers a left [] = []
answers a left (Unread e ∷ rest) = no_delta_line e ++ answers a left rest
answers a zero (Asked call ∷ rest) = reply_text (Refused LogFull) ++ (codes "\n" ++ answers a zero rest)
answers a (suc left) (Asked call ∷ rest) = reply_text (reply_of (view_of a) call) ++ (codes "\n" ++ answers (after a call) left rest)

-- the account after all that was said
abbrev pub account_after : Account → ℕ → List Said → Account
account_after a left [] = a
account_after a left (Unread e ∷ rest) = account_after a left rest
account_after a zero (Asked call ∷ rest) = account_after a zero rest
account_after a (suc left) (Asked call ∷ rest) = account_after (after a call) left rest

-- the places that are left then
abbrev pub places_after : ℕ → List Said → ℕ
places_after left [] = left
places_after left (Unread e ∷ rest) = places_after left rest
places_after zero (Asked call ∷ rest) = places_after zero rest
places_after (suc left) (Asked call ∷ rest) = places_after left rest

-- the answers of a desk that has stopped: each call is told so
abbrev pub frozen_answers : List Said → List ℕ
frozen_answers [] = []
frozen_answers (Unread e ∷ rest) = no_delta_line e ++ frozen_answers rest
frozen_answers (Asked call ∷ rest) = reply_text (Refused Frozen) ++ (codes "\n" ++ frozen_answers rest)

-- every call was served: the text has the answers, and the account is the one after them
pub record IsServed (a : Account) (left : ℕ) (b : Account) (said : List Said) (text : List ℕ) : Type 0 where
  pub text_is : text ≡ answers a left said
  pub account : b ≡ account_after a left said

-- a call met a fault of the store: the text has the answers to what was said before it, the fault, and the answers of
-- a desk that has stopped; the account is the one before that call, and the other one that after it
pub record IsStopped (a : Account) (left : ℕ) (b tried : Account) (said : List Said) (text : List ℕ) : Type 0 where
  pub before : List Said
  pub call : Call
  pub behind : List Said
  pub split : said ≡ before ++ Asked call ∷ behind
  pub text_is : text ≡ answers a left before ++ (reply_text (Refused StoreFault) ++ (codes "\n" ++ frozen_answers behind))
  pub account : b ≡ account_after a left before
  pub in_doubt : tried ≡ after b call

-- every line says something, and the text answers all of that
pub record AnswersAll (A : List Said → List ℕ → Type 0) (records : List RecordSpec) (lines : List (List ℕ)) (text : List ℕ) : Type 0 where
  pub said : List Said
  pub read : AreSaid records lines said
  pub answered : A said text

-- some line says nothing: the text answers the lines before the first such, and then tells of it
pub record AnswersUpTo (A : List Said → List ℕ → Type 0) (records : List RecordSpec) (lines : List (List ℕ)) (text : List ℕ) : Type 0 where
  pub before : List (List ℕ)
  pub line : List ℕ
  pub behind : List (List ℕ)
  pub split : lines ≡ before ++ line ∷ behind
  pub unread : Says records line None
  pub some : List ℕ
  pub answers : AnswersAll A records before some
  pub text_is : text ≡ some ++ unread_line (length before + 1)

-- one of the two
abbrev pub Answers : (List Said → List ℕ → Type 0) → List RecordSpec → List (List ℕ) → Bool → List ℕ → Type 0
Answers A records lines true text = AnswersAll A records lines text
Answers A records lines false text = AnswersUpTo A records lines text

-- A script of these lines is answered by this text, from an account a and with so many places in the log, and b is the
-- account after it.
abbrev pub Serves : Account → ℕ → List RecordSpec → List (List ℕ) → Bool → List ℕ → Account → Type 0
Serves a left records lines whole text b = Answers (IsServed a left b) records lines whole text

-- The same where the store has failed on the way: b is the account before the call that met the fault, and the last
-- one that after it.
abbrev pub Stops : Account → ℕ → List RecordSpec → List (List ℕ) → Bool → List ℕ → Account → Account → Type 0
Stops a left records lines whole text b tried = Answers (IsStopped a left b tried) records lines whole text

-- The same where the store had failed before the script began: each call is told so.
abbrev pub StaysStopped : List RecordSpec → List (List ℕ) → Bool → List ℕ → Type 0
StaysStopped records lines whole text = Answers (λ said t. t ≡ frozen_answers said) records lines whole text

module _ {K : Type 0} where
  -- the places that are left in a desk's log
  abbrev pub places_of : DeskState K → ℕ
  places_of d = d.log.limit - length d.log.entries

  -- a desk of the same opening
  pub record SameOpening (old new : DeskState K) : Type 0 where
    pub layout : new.core.layout ≡ old.core.layout
    pub site : new.core.site ≡ old.core.site
    pub opened : new.opened ≡ old.opened
    pub first : new.log.first ≡ old.log.first
    pub limit : new.log.limit ≡ old.log.limit

  -- What a desk has served of a script whose answers were lost: some of the first lines, each of which says something.
  pub record ServesFront (old new : DeskState K) (lines : List (List ℕ)) : Type 0 where
    pub front : List (List ℕ)
    pub behind : List (List ℕ)
    pub split : lines ≡ front ++ behind
    pub text : List ℕ
    pub served : is_frozen new ≡ false → Serves (account_of old) (places_of old) old.core.layout.records front true text (account_of new)
    pub stopped : is_frozen new ≡ true
        → Stops (account_of old) (places_of old) old.core.layout.records front true text (account_of new) (account_if_kept new)

  -- the log has grown by entries of this pass
  pub record Grows (pass : ℕ) (old new : DeskState K) : Type 0 where
    pub more : List Entry
    pub grown : new.log.entries ≡ old.log.entries ++ more
    pub of_pass : AllByRecursion (λ (e : Entry). e.pass ≡ pass) more
