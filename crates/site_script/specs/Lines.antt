-- What a line of a site's script says (this project's own format): what a caller asks, `send`, or `take` and a text.
use Rattle.std.specs.Prelude.{◌≡◌, ◌≢◌, ℕ, List, ◌++◌, codes, IsUtf8, Option, Some, None, Err}
use Rattle.merge_core.specs.declared.layout.RecordSpec.{RecordSpec}
use Rattle.merge_core.specs.Delta.{IsDelta}
use Rattle.admission_model.specs.declared.ask.Call.{Call}
use Rattle.admission_model.specs.declared.ask.Call.TheVariants.{Ask, Merge, Snapshot}
use Rattle.delta_codec.specs.DeltaText.{delta_text}
use Rattle.delta_codec.specs.Decodes.{Decodes}
use Rattle.delta_codec.specs.declared.fault.DecodeError.{DecodeError}
use Rattle.delta_codec.specs.declared.fault.DecodeError.TheVariants.{Memory}
use Rattle.script_text.specs.Words.{words_of}
use Rattle.script_text.specs.Asks.{ask_in}
use Rattle.site_script.specs.declared.lines.Said.{Said}
use Rattle.site_script.specs.declared.lines.Said.TheVariants.{Asked, Unread}

-- a line that takes a text, which is the rest of the line
pub record Takes (line text : List ℕ) : Type 0 where
  pub is_text : line ≡ codes "take " ++ text
  pub utf8 : IsUtf8 text

-- a line that asks for a call
abbrev pub SaysCall : List RecordSpec → List ℕ → Call → Type 0
SaysCall records line (Ask ask) = ask_in records (words_of line) ≡ Some ask
SaysCall records line Snapshot = line ≡ codes "send"
SaysCall records line (Merge delta) = IsDelta delta × Takes line (delta_text delta)

-- a line that takes a text which is no delta's, by the name of its first fault
pub record SaysUnread (line : List ℕ) (e : DecodeError) : Type 0 where
  pub text : List ℕ
  pub takes : Takes line text
  pub fault : Decodes text (Err e)
  pub judged : e ≢ Memory

-- a line that says nothing
pub record SaysNothing (records : List RecordSpec) (line : List ℕ) : Type 0 where
  pub no_ask : ask_in records (words_of line) ≡ None
  pub no_send : line ≢ codes "send"
  pub no_take : (text : List ℕ) → ¬ Takes line text

-- what a line says, where it says something
abbrev pub Says : List RecordSpec → List ℕ → Option Said → Type 0
Says records line (Some (Asked call)) = SaysCall records line call
Says records line (Some (Unread e)) = SaysUnread line e
Says records line None = SaysNothing records line
