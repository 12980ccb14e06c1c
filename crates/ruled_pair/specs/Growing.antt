-- How the reports of both ends grow. The proofs stand here since the laws of the ends cite them.
use Rattle.std.specs.Prelude.{◌≡◌, ℕ, ◌+◌, ◌<◌, ◌≤◌, Bool, List, [], ◌∷◌, ◌++◌, length, Option, Some, slice_get}
use Rattle.std.proofs.Common.{ap, sym, subst, ◌∙◌, length-append}
use Rattle.std.proofs.Math.Nat.{le_trans, lt_of_lt_of_le, le-add_right}
use Rattle.std.proofs.lemmas.Option.{slice_get_within, slice_get-get_or, get_or_from_slice_get}
use Rattle.std.proofs.lemmas.List.{get_or_append_left}
use Rattle.merge_core.specs.Delta.{DeltaState}
use Rattle.session_book.specs.declared.pass.Receipt.{Receipt}
use Rattle.exchange_threads.specs.declared.fate.Fate.{Fate}
use Rattle.exchange_threads.specs.Outbox.{shown_receipt}
use Rattle.ruled_pair.specs.Sent.{AreShownAt, AreSent}
use Rattle.ruled_pair.specs.Heard.{AreHeard}

-- what stands at a place of a list stands there in a longer one
pub get_append : {X : Type 0} (xs more : List X) (at : ℕ) (x : X) → slice_get xs at ≡ Some x → slice_get (xs ++ more) at ≡ Some x
get_append xs more at x is =
    let within : at < length xs = slice_get_within xs at x is in
    slice_get-get_or (xs ++ more) at x (subst (λ (n : ℕ). at < n) (sym (length-append xs more)) (lt_of_lt_of_le within (le-add_right (length xs) (length more))))
    ∙ (ap Some (get_or_append_left xs more x at within) ∙ ap Some (get_or_from_slice_get xs at x x is))

shown_grows : (rs more : List Receipt) (first : ℕ) (ats : List ℕ) (ds : List DeltaState) → AreShownAt rs first ats ds → AreShownAt (rs ++ more) first ats ds
shown_grows rs more first [] [] shown = shown
shown_grows rs more first [] (d ∷ ds) shown = absurd shown
shown_grows rs more first (at ∷ ats) [] shown = absurd shown
shown_grows rs more first (at ∷ ats) (d ∷ ds) shown = (shown.0, get_append rs more at (shown_receipt d) shown.1, shown_grows rs more (at + 1) ats ds shown.2)

pub sent_grows : {first : ℕ} {ats : List ℕ} {texts : List (List ℕ)} {n : ℕ} {last : Option DeltaState} (rs more : List Receipt) → AreSent rs first ats texts n last
    → AreSent (rs ++ more) first ats texts n last
sent_grows {first} {ats} rs more sent = record {
  begun = subst (λ (n : ℕ). first ≤ n) (sym (length-append rs more)) (le_trans sent.begun (le-add_right (length rs) (length more)));
  snapshots = sent.snapshots;
  shown = shown_grows rs more first ats sent.snapshots sent.shown;
  texts_are = sent.texts_are;
  number = sent.number;
  latest = sent.latest;
}

pub heard_lacks : {first : ℕ} {texts : List (List ℕ)} {fates : List Fate} (rs : List Receipt) (m k : ℕ) (ended : Bool) → AreHeard rs first texts fates m ended
    → AreHeard rs first texts fates (m + k) ended
heard_lacks rs m k ended heard = record {
  begun = heard.begun;
  fated = heard.fated;
  lacking = le_trans heard.lacking (le-add_right m k);
  ends = heard.ends;
}
