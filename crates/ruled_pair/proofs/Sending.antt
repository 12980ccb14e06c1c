-- A text more in the report of a sending end.
use Rattle.std.proofs.Common.{◌≡◌, ℕ, ◌+◌, ◌≤◌, List, [], ◌∷◌, ◌++◌, Option, Some, None, length, refl, sym, ap, subst, ◌∙◌, arith, length-append}
use Rattle.std.proofs.Math.Seq.{get_or-append_seam}
use Rattle.std.proofs.lemmas.Option.{slice_get_within, slice_get-get_or}
use Rattle.std.specs.Prelude.{slice_get}
use Rattle.merge_core.specs.Delta.{DeltaState}
use Rattle.session_book.specs.declared.pass.Receipt.{Receipt}
use Rattle.exchange_threads.specs.Outbox.{sent_text, shown_receipt}
use Rattle.ruled_pair.specs.Sent.{AreShownAt, AreSent, texts_from, last_of}
use Rattle.ruled_pair.specs.Growing.{get_append}

get_last : {X : Type 0} (xs : List X) (x : X) → slice_get (xs ++ x ∷ []) (length xs) ≡ Some x
get_last xs x = slice_get-get_or (xs ++ x ∷ []) (length xs) x (omega (arith, length-append xs (x ∷ []))) ∙ ap Some (get_or-append_seam xs x [] x)

shown_one : (rs : List Receipt) (first : ℕ) (ats : List ℕ) (ds : List DeltaState) (d : DeltaState) → first ≤ length rs → AreShownAt rs first ats ds
    → AreShownAt (rs ++ shown_receipt d ∷ []) first (ats ++ length rs ∷ []) (ds ++ d ∷ [])
shown_one rs first [] [] d begun shown = (begun, get_last rs (shown_receipt d), tt)
shown_one rs first [] (e ∷ ds) d begun shown = absurd shown
shown_one rs first (at ∷ ats) [] d begun shown = absurd shown
shown_one rs first (at ∷ ats) (e ∷ ds) d begun shown = (
  shown.0,
  get_append rs (shown_receipt d ∷ []) at (shown_receipt e) shown.1,
  shown_one rs (at + 1) ats ds d (omega (arith, slice_get_within rs at (shown_receipt e) shown.1)) shown.2,
)

texts_one : (m : ℕ) (kept : Option DeltaState) (ds : List DeltaState) (d : DeltaState) → texts_from m kept (ds ++ d ∷ []) ≡ texts_from m kept ds ++ sent_text (m + length ds) (last_of kept ds) d ∷ []
texts_one m kept [] d = ap (λ (k : ℕ). sent_text k kept d ∷ []) (omega arith)
texts_one m kept (e ∷ ds) d =
    ap (λ (ts : List (List ℕ)). sent_text m kept e ∷ ts)
    (texts_one (m + 1) (Some e) ds d ∙ ap (λ (k : ℕ). texts_from (m + 1) (Some e) ds ++ sent_text k (last_of (Some e) ds) d ∷ []) (omega arith))

last_one : (kept : Option DeltaState) (ds : List DeltaState) (d : DeltaState) → last_of kept (ds ++ d ∷ []) ≡ Some d
last_one kept [] d = refl
last_one kept (e ∷ ds) d = last_one (Some e) ds d

pub sent_one : (rs : List Receipt) (first : ℕ) (ats : List ℕ) (texts : List (List ℕ)) (n : ℕ) (last : Option DeltaState) (d : DeltaState) → AreSent rs first ats texts n last
    → AreSent (rs ++ shown_receipt d ∷ []) first (ats ++ length rs ∷ []) (texts ++ sent_text n last d ∷ []) (n + 1) (Some d)
sent_one rs first ats texts n last d sent = let number : n ≡ 0 + length sent.snapshots = omega (arith, sent.number) in record {
  begun = omega (arith, sent.begun, length-append rs (shown_receipt d ∷ []));
  snapshots = sent.snapshots ++ d ∷ [];
  shown = shown_one rs first ats sent.snapshots d sent.begun sent.shown;
  texts_are =
      ap (λ (ts : List (List ℕ)). ts ++ sent_text n last d ∷ []) sent.texts_are
      ∙ (ap (λ (k : ℕ). texts_from 0 None sent.snapshots ++ sent_text k last d ∷ []) number
      ∙ (ap (λ (o : Option DeltaState). texts_from 0 None sent.snapshots ++ sent_text (0 + length sent.snapshots) o d ∷ []) sent.latest
      ∙ sym (texts_one 0 None sent.snapshots d)));
  number = omega (arith, sent.number, length-append sent.snapshots (d ∷ []));
  latest = sym (last_one None sent.snapshots d);
}

-- the report of a put: a copy of the text, and the place
pub sent_put : (rs : List Receipt) (first : ℕ) (ats ats' : List ℕ) (place : ℕ) (texts texts' : List (List ℕ)) (text : List ℕ) (n : ℕ) (last : Option DeltaState) (d : DeltaState)
    → AreSent rs first ats texts n last → place ≡ length rs → text ≡ sent_text n last d → ats' ≡ ats ++ place ∷ [] → texts' ≡ texts ++ text ∷ []
    → AreSent (rs ++ shown_receipt d ∷ []) first ats' texts' (n + 1) (Some d)
sent_put rs first ats ats' place texts texts' text n last d sent at is places are =
    subst (λ (ps : List ℕ). AreSent (rs ++ shown_receipt d ∷ []) first ps texts' (n + 1) (Some d)) (sym (places ∙ ap (λ (p : ℕ). ats ++ p ∷ []) at))
    (subst (λ (ts : List (List ℕ)). AreSent (rs ++ shown_receipt d ∷ []) first (ats ++ length rs ∷ []) ts (n + 1) (Some d)) (sym (are ∙ ap (λ (t : List ℕ). texts ++ t ∷ []) is))
    (sent_one rs first ats texts n last d sent))
