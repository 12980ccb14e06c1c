-- A change without counters is one that a keeper may be told where its session is.
use Rattle.std.proofs.Common.{◌≡◌, ℕ, ◌≤◌, [], Option, All, sym, subst, ◌∙◌}
use Rattle.std.proofs.lemmas.List.Elements.{All-nil}
use Rattle.merge_core.specs.Layout.{LayoutState}
use Rattle.admission_model.specs.declared.durable.DurableCell.{DurableCell}
use Rattle.admission_model.specs.Durable.{AreRising}
use Rattle.admission_core.specs.declared.change.SessionChange.{SessionChange}
use Rattle.admission_core.specs.Kept.{ChangeState}
use Rattle.admission_core.specs.Restored.{IsListed}
use Rattle.durable_keeper.specs.Keeping.{IsChange, IsSessionChange, most_kept}
use Rattle.store_tables.proofs.TransactLemmas.{none_of}
use Rattle.store_tests.proofs.rounds.is_change.Goals as goal

alone : (layout : LayoutState) (i : ℕ) (c : ChangeState) → c.cells ≡ [] → IsSessionChange layout c.session → IsChange layout i c
alone layout i c none session = record {
  rising = subst AreRising (sym none) tt;
  listed = subst (All (IsListed layout i)) (sym none) (All-nil (IsListed layout i));
  small = subst (All (λ (x : DurableCell). x.value ≤ most_kept)) (sym none) (All-nil (λ (x : DurableCell). x.value ≤ most_kept));
  session = session;
}

pub returns : goal.returns
returns c = λ is.
    alone c.args.layout.now 0 c.args.change.now (sym c.cells.ensures ∙ none_of c.cells.result.now (sym c.is_empty.ensures ∙ c.if-not-is_empty.false))
    (subst (λ (s : Option SessionChange). IsSessionChange c.args.layout.now s) c.session.ensures (c.is_session_change.ensures is))
