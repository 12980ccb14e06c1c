-- A line and its answer, one after the other.
use Rattle.std.specs.Prelude.{◌≡◌, ◌⊎◌, ℕ, Bool, true, false, List, [], ◌∷◌, ◌++◌, Some, None}
use Rattle.admission_model.specs.declared.ask.Call.{Call}
use Rattle.admission_model.specs.Account.{Account}
use Rattle.admission_model.specs.View.{view_of}
use Rattle.admission_model.specs.Serving.{after, reason, reply_of}
use Rattle.admission_model.specs.Durable.{change_between, IsEmpty}
use Rattle.delta_codec.specs.declared.fault.DecodeError.{DecodeError}
use Rattle.site_script.specs.Served.{no_delta_line}
use Rattle.desk_log.specs.declared.entry.Entry.{Entry}
use Rattle.group_names.specs.Names.{generation_of}
use Rattle.line_conversation.specs.Turns.{Line, Whole, TooLong, NoRoom, Torn, Turn, Heard, Told}
use Rattle.live_site.specs.Entries.{entry_of}
use Rattle.live_site.specs.Live.{is_outdated}
use Rattle.live_site.specs.Overfull.{Fits, overfull_in}
use Rattle.serve_engine.specs.declared.marks.MarkFault.{MarkFault}
use Rattle.serve_engine.specs.declared.request.Request.{Request}
use Rattle.serve_engine.specs.declared.request.Request.TheVariants.{Asked, Unread, Show, Sessions, Fence, Unmarked}
use Rattle.serve_engine.specs.Requests.{Terms, Asks}
use Rattle.serve_engine.specs.Answers.{bad_word_line, wrong_word_line, unmarked_line, too_long_line, memory_line, frozen_line, fault_line, too_many_line, reply_line, show_line, sessions_line}
use Rattle.serve_engine.specs.BadWords.{wrong_word}
use Rattle.serve_engine.specs.Fencing.{fence_line}

-- a line that was heard, and the text that was told for it
pub record Exchange : Type 0 where
  pub line : Line
  pub told : List ℕ

-- the turns of exchanges: line, answer, line, answer
abbrev pub turns_of : List Exchange → List Turn
turns_of [] = []
turns_of (x ∷ xs) = Heard x.line ∷ (Told x.told ∷ turns_of xs)

-- what a line is answered by a site that serves, at an account, the account behind it, and what the log is handed: a
-- line that is too long, without memory, torn, or asks for nothing, a text that is not behind this site's mark, and a text that is
-- no delta's, are told, and change nothing; a record's counts and sessions are shown, and the number of a holder inside it; a delta of too many seats is
-- refused whole; any other call gets the model's reply
pub data Answers : Terms → Account → Line → List ℕ → Account → List Entry → Type 0 where
  told_too_long : (terms : Terms) (a : Account) → Answers terms a TooLong too_long_line a []
  told_no_room : (terms : Terms) (a : Account) → Answers terms a NoRoom memory_line a []
  told_torn : (terms : Terms) (a : Account) → Answers terms a Torn bad_word_line a []
  told_no_memory : (terms : Terms) (a : Account) (line : List ℕ) → Answers terms a (Whole line) memory_line a []
  told_bad_word : (terms : Terms) (a : Account) (line : List ℕ) → Asks terms line None → Answers terms a (Whole line) (wrong_word_line (wrong_word terms.records line)) a []
  told_unmarked : (terms : Terms) (a : Account) (line : List ℕ) (fault : MarkFault) → Asks terms line (Some (Unmarked fault)) → Answers terms a (Whole line) (unmarked_line fault) a []
  told_no_delta : (terms : Terms) (a : Account) (line : List ℕ) (e : DecodeError) → Asks terms line (Some (Unread e)) → Answers terms a (Whole line) (no_delta_line e) a []
  told_counts : (terms : Terms) (a : Account) (line : List ℕ) (r : ℕ) → Asks terms line (Some (Show r)) → Answers terms a (Whole line) (show_line a r) a []
  told_sessions : (terms : Terms) (a : Account) (line : List ℕ) (r : ℕ) → Asks terms line (Some (Sessions r)) → Answers terms a (Whole line) (sessions_line a r) a []
  told_fence : (terms : Terms) (a : Account) (line : List ℕ) (r h : ℕ) → Asks terms line (Some (Fence r h)) → Answers terms a (Whole line) (fence_line (generation_of terms.group) a r h) a []
  told_too_many : (terms : Terms) (a : Account) (line : List ℕ) (call : Call) (r : ℕ) → Asks terms line (Some (Asked call)) → reason (view_of a) call ≡ None
      → overfull_in (view_of a) call ≡ Some r → Answers terms a (Whole line) (too_many_line r) a []
  told_reply : (terms : Terms) (a : Account) (line : List ℕ) (call : Call) → Asks terms line (Some (Asked call)) → Fits a call
      → is_outdated (reply_of (view_of a) call) ≡ false
      → Answers terms a (Whole line) (reply_line terms (reply_of (view_of a) call)) (after a call) (entry_of call (reply_of (view_of a) call) ∷ [])

-- what a site is answered by that serves no more behind it, whether the store failed, the account if the call was kept,
-- and what the log is handed: a delta that shows that its store is older than what others have seen, or that
-- would have shown it, where the store failed as it was to be marked so; a call that met a fault of the store; or any line,
-- where the store was found to be gone
pub data Stops : Terms → Account → List ℕ → List ℕ → Bool → Account → List Entry → Type 0 where
  stops_outdated : (terms : Terms) (a : Account) (line : List ℕ) (call : Call) → Asks terms line (Some (Asked call)) → Fits a call
      → is_outdated (reply_of (view_of a) call) ≡ true
      → Stops terms a line (reply_line terms (reply_of (view_of a) call)) false a (entry_of call (reply_of (view_of a) call) ∷ [])
  stops_unmarked : (terms : Terms) (a : Account) (line : List ℕ) (call : Call) → Asks terms line (Some (Asked call)) → Fits a call
      → is_outdated (reply_of (view_of a) call) ≡ true
      → Stops terms a line fault_line false a (entry_of call (reply_of (view_of a) call) ∷ [])
  stops_failed : (terms : Terms) (a : Account) (line : List ℕ) (call : Call) → Asks terms line (Some (Asked call)) → Fits a call
      → ¬ IsEmpty (change_between a (after a call))
      → Stops terms a line fault_line true (after a call) (entry_of call (reply_of (view_of a) call) ∷ [])
  stops_gone : (terms : Terms) (a : Account) (line : List ℕ) → Stops terms a line fault_line false a []

-- what asks something of the site itself
abbrev pub reaches_site : Request → Bool
reaches_site (Unread e) = false
reaches_site (Unmarked fault) = false
reaches_site _ = true

-- what a line is answered by a site that serves no more
pub data IsIdle : Terms → Line → List ℕ → Type 0 where
  still_too_long : (terms : Terms) → IsIdle terms TooLong too_long_line
  still_no_room : (terms : Terms) → IsIdle terms NoRoom memory_line
  still_torn : (terms : Terms) → IsIdle terms Torn bad_word_line
  still_no_memory : (terms : Terms) (line : List ℕ) → IsIdle terms (Whole line) memory_line
  still_bad_word : (terms : Terms) (line : List ℕ) → Asks terms line None → IsIdle terms (Whole line) (wrong_word_line (wrong_word terms.records line))
  still_unmarked : (terms : Terms) (line : List ℕ) (fault : MarkFault) → Asks terms line (Some (Unmarked fault)) → IsIdle terms (Whole line) (unmarked_line fault)
  still_no_delta : (terms : Terms) (line : List ℕ) (e : DecodeError) → Asks terms line (Some (Unread e)) → IsIdle terms (Whole line) (no_delta_line e)
  still_frozen : (terms : Terms) (line : List ℕ) (request : Request) → Asks terms line (Some request) → reaches_site request ≡ true
      → IsIdle terms (Whole line) frozen_line

-- exchanges with a site that serves all along, from an account to the one behind them, and all that the log is handed
abbrev pub Serves : Terms → Account → List Exchange → List Entry → Account → Type 0
Serves terms a [] entries b = (b ≡ a) × (entries ≡ [])
Serves terms a (x ∷ xs) entries b =
    (c : Account) × (first : List Entry) × (rest : List Entry)
    × (entries ≡ first ++ rest) × Answers terms a x.line x.told c first × Serves terms c xs rest b

-- some exchange was told this text
abbrev pub HasTold : List ℕ → List Exchange → Type 0
HasTold text [] = ⊥
HasTold text (x ∷ xs) = (x.told ≡ text) ⊎ HasTold text xs

-- exchanges with a site that serves no more
abbrev pub AreIdle : Terms → List Exchange → Type 0
AreIdle terms [] = Unit {0}
AreIdle terms (x ∷ xs) = IsIdle terms x.line x.told × AreIdle terms xs

-- exchanges with a site that serves no more behind one of them: the account before it, and the one behind it if its
-- call was kept
pub record ServesUpTo (terms : Terms) (a : Account) (xs : List Exchange) (entries : List Entry) (fault : Bool) (b tried : Account) : Type 0 where
  pub before : List Exchange
  pub line : List ℕ
  pub told : List ℕ
  pub behind : List Exchange
  pub split : xs ≡ before ++ record { line = Whole line; told = told } ∷ behind
  pub first : List Entry
  pub last : List Entry
  pub handed : entries ≡ first ++ last
  pub served : Serves terms a before first b
  pub stopped : Stops terms b line told fault tried last
  pub idle : AreIdle terms behind

-- one of the two: whether the site serves no more
abbrev pub HasServed : Terms → Bool → Account → List Exchange → List Entry → Bool → Account → Account → Type 0
HasServed terms false a xs entries fault b tried = Serves terms a xs entries b × (fault ≡ false) × (tried ≡ b)
HasServed terms true a xs entries fault b tried = ServesUpTo terms a xs entries fault b tried
