-- What a caller of a site leaves in its pass (this project's own).
use Rattle.std.specs.Prelude.{◌≡◌, List, ◌++◌, map}
use Rattle.admission_model.specs.declared.ask.Ask.{Ask}
use Rattle.admission_model.specs.declared.ask.Call.{Call}
use Rattle.admission_model.specs.declared.ask.Call.TheVariants.{Ask as AskCall}
use Rattle.session_book.specs.declared.pass.Receipt.{Receipt}
use Rattle.session_book.specs.Passes.{PassState}

-- the calls of receipts
abbrev pub calls_in : List Receipt → List Call
calls_in rs = map (λ r. r.call) rs

-- what is asked, as calls
abbrev pub ask_calls : List Ask → List Call
ask_calls asks = map AskCall asks

-- the pass got a receipt for each of these, in order
pub record HasAsked (asks : List Ask) (old new : PassState) : Type 0 where
  pub number : new.number ≡ old.number
  pub calls : calls_in new.receipts ≡ calls_in old.receipts ++ ask_calls asks
