-- Texts of which a site is built again.
use Rattle.std.proofs.Common.{◌≡◌, List, ℕ, Bool, Result, Ok, Err, subst}
use Rattle.std.specs.Prelude.{MatchResult}
use Rattle.merge_core.specs.declared.layout.RecordSpec.{RecordSpec}
use Rattle.serve_engine.specs.declared.moved_texts.TextFault.TheVariants.{Unmarked, Unread}
use Rattle.serve_engine.specs.declared.moved_texts.TextStop.{TextStop}
use Rattle.serve_engine.specs.declared.moved_texts.TextStop.TheVariants.{NoRoom, Refused}
use Rattle.serve_engine.specs.Moved.{IsTextStop, IsUntoldStop}

-- a line without a text gives no delta
pub stop_told : (records : List RecordSpec) (name : List ℕ) (alone : Bool) (line : List ℕ) (stop : TextStop) → IsUntoldStop records name alone line stop → IsTextStop records name alone line stop
stop_told records name alone line NoRoom is = tt
stop_told records name alone line (Refused (Unmarked fault)) is = is
stop_told records name alone line (Refused (Unread e)) is = absurd is

-- what is known of an answer of one kind
pub taken_ok : {A E : Type 0} (P : A → Type 0) (Q : E → Type 0) (r : Result A E) (x : A) → r ≡ Ok x → MatchResult r P Q → P x
taken_ok P Q r x is known = subst (λ s. MatchResult s P Q) is known

pub taken_err : {A E : Type 0} (P : A → Type 0) (Q : E → Type 0) (r : Result A E) (e : E) → r ≡ Err e → MatchResult r P Q → Q e
taken_err P Q r e is known = subst (λ s. MatchResult s P Q) is known
