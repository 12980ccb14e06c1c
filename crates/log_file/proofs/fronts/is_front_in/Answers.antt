use Rattle.std.proofs.Common.{rules, ◌≡◌, ◌∙◌, ◌++◌, List, ℕ, ap, subst}
use Rattle.std.specs.Prelude.{IsTrue, ◌↔◌}
use Rattle.std.proofs.lemmas.Bool.Decides.{Decides-eqb}
use Rattle.std.proofs.lemmas.Slice.Eq.{starts_is}
use Rattle.merge_core.specs.Delta.{DeltaState}
use Rattle.transcript_text.specs.Texts.{book_told, front_text, sites_text, MayBegin}
use Rattle.log_file.specs.Fronts.{IsFrontOf}
use Rattle.log_file.proofs.FrontLemmas.{starts_so}
use Rattle.log_file.proofs.fronts.is_front_in.Goals as goal

pub returns : goal.returns
returns c =
    let layout = c.args.layout.now in
    let first = c.args.first.now in
    let told : MayBegin layout c.args.site c.args.sites first × (c.in-Some.told ≡ book_told layout c.args.site c.args.sites first) = rw c.in-Some.is at c.in_ok-told.ensures in
    let text : c.as_bytes.result.now ≡ front_text layout.records c.args.site c.in-Some.told first.sessions ++ sites_text c.args.spelled = search rules in
    let whole = text ∙ ap (λ (d : DeltaState). front_text layout.records c.args.site d first.sessions ++ sites_text c.args.spelled) told.1 in
    let it = starts_so c.as_bytes.result.now c.args.bytes.now c.starts_with.result (starts_is Decides-eqb c.as_bytes.result.now c.args.bytes.now c.starts_with.result c.starts_with.ensures.value) in
    let here = subst (λ (xs : List ℕ). IsTrue c.starts_with.result ↔ IsFrontOf c.args.bytes.now xs) whole it in
    (λ yes. (told.0, here.0 yes), λ front. here.1 front.1)
