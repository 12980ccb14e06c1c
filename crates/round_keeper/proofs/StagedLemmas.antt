-- One change more, and changes that change nothing.
use Rattle.std.proofs.Common.{◌≡◌, List, [], ◌∷◌, ◌++◌, Option, All, refl, ap, ◌∙◌}
use Rattle.std.proofs.lemmas.List.Elements.{All-head, All-tail}
use Rattle.admission_model.specs.declared.durable.DurableCell.{DurableCell}
use Rattle.admission_core.specs.declared.change.SessionChange.{SessionChange}
use Rattle.admission_core.specs.Kept.{DurableState, ChangeState}
use Rattle.durable_keeper.specs.Keeping.{changed}
use Rattle.round_keeper.specs.Rounds.{ChangesNothing, changed_all}

pub changed_all-push : (cs : List ChangeState) (c : ChangeState) (d : DurableState) → changed_all (cs ++ c ∷ []) d ≡ changed c (changed_all cs d)
changed_all-push [] c d = refl
changed_all-push (x ∷ cs) c d = changed_all-push cs c (changed x d)

changed_of : List DurableCell → Option SessionChange → DurableState → DurableState
changed_of cells session d = changed (record { cells = cells; session = session }) d

changed_nothing : (c : ChangeState) (d : DurableState) → ChangesNothing c → changed c d ≡ d
unfolding changed_of
changed_nothing c d none = ap (λ (x : List DurableCell). changed_of x c.session d) none.0 ∙ ap (λ (s : Option SessionChange). changed_of [] s d) none.1

pub nothing_changed : (changes : List ChangeState) (d : DurableState) → All ChangesNothing changes → changed_all changes d ≡ d
nothing_changed [] d none = refl
nothing_changed (c ∷ cs) d none =
    ap (changed_all cs) (changed_nothing c d (All-head ChangesNothing c cs none)) ∙ nothing_changed cs d (All-tail ChangesNothing c cs none)
