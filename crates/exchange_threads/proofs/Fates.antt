-- What came of a text, from what the inbox's report says of it.
use Rattle.std.proofs.Common.{◌≡◌, ℕ, ◌+◌, Bool, true, false, true≢false, List, [], refl, sym, arith, append-nil}
use Rattle.std.specs.Prelude.{Err}
use Rattle.delta_codec.specs.declared.fault.DecodeError.{DecodeError}
use Rattle.delta_codec.specs.declared.fault.DecodeError.TheVariants.{TooLong, NotUtf8, NotJson, NotCanonical, Memory}
use Rattle.delta_codec.specs.Decodes.{Decodes}
use Rattle.session_book.specs.Passes.{PassState}
use Rattle.exchange_threads.specs.declared.report.InReport.{InReport}
use Rattle.exchange_threads.specs.declared.turn.Turn.TheVariants.{GoesOn, EndsRun}
use Rattle.exchange_threads.specs.Inbox.{TellsUnread}
use Rattle.exchange_threads.specs.Fates.{HasFate, unread_fate}

-- a text that could not be read leaves no receipt
pub unread_has_fate : (text : List ℕ) (e : DecodeError) (p : PassState) (before now : InReport) → Decodes text (Err e) → TellsUnread (record before { taken = before.taken + 1 }) now e
    → HasFate text (unread_fate e) p p before now GoesOn
unread_has_fate text TooLong p before now decodes tells = record {
  added = [];
  grows = sym (append-nil p.receipts);
  taken = omega (arith, tells.taken);
  memory = omega (arith, tells.memory);
  fate_of = (decodes.0, refl);
  ends = λ is. absurd (true≢false (sym is));
  goes_on = λ _ (is : GoesOn ≡ EndsRun). cc;
}
unread_has_fate text NotUtf8 p before now decodes tells = record {
  added = [];
  grows = sym (append-nil p.receipts);
  taken = omega (arith, tells.taken);
  memory = omega (arith, tells.memory);
  fate_of = (decodes.0, refl);
  ends = λ is. absurd (true≢false (sym is));
  goes_on = λ _ (is : GoesOn ≡ EndsRun). cc;
}
unread_has_fate text NotJson p before now decodes tells = record {
  added = [];
  grows = sym (append-nil p.receipts);
  taken = omega (arith, tells.taken);
  memory = omega (arith, tells.memory);
  fate_of = (decodes.0, refl);
  ends = λ is. absurd (true≢false (sym is));
  goes_on = λ _ (is : GoesOn ≡ EndsRun). cc;
}
unread_has_fate text NotCanonical p before now decodes tells = record {
  added = [];
  grows = sym (append-nil p.receipts);
  taken = omega (arith, tells.taken);
  memory = omega (arith, tells.memory);
  fate_of = (decodes.0, refl);
  ends = λ is. absurd (true≢false (sym is));
  goes_on = λ _ (is : GoesOn ≡ EndsRun). cc;
}
unread_has_fate text Memory p before now decodes tells = record {
  added = [];
  grows = sym (append-nil p.receipts);
  taken = omega (arith, tells.taken);
  memory = omega (arith, tells.memory);
  fate_of = refl;
  ends = λ is. absurd (true≢false (sym is));
  goes_on = λ _ (is : GoesOn ≡ EndsRun). cc;
}

-- a run that went on has not ended
pub not_ended : {X Y : Type 0} (P : Bool → Type 0) (ended : Bool) → P ended → (ended ≡ true → X × Y) → ¬ X → P false
not_ended P true right why goes_on = absurd (goes_on (why refl).0)
not_ended P false right why goes_on = right
