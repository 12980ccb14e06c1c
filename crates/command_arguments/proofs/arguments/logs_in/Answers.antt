use Rattle.std.proofs.Common.{◌≡◌, ◌∙◌, codes, List, [], Option, Some, None, map, option_map, sym, ap, Bor}
use Rattle.std.specs.Prelude.{unwrap_or}
use Rattle.std.proofs.lemmas.Result.{IfOk-weaker}
use Rattle.clap.specs.Words.{Text, all_of, found_of, rows_of}
use Rattle.clap.proofs.WalkLemmas.{raw_values-rows}
use Rattle.command_arguments.specs.Arguments.{logs_in}
use Rattle.command_arguments.proofs.arguments.logs_in.Goals as goal

pub returns-in-Some : goal.returns-in-Some
returns-in-Some c =
    let found = found_of c.args.found.now in
    let texts : List Text = map (λ t. t.now) c.in-Some.texts.now in
    let all : Some texts ≡ all_of (codes "logs") (rows_of found) =
    ap (option_map (λ s. map (λ v. v.now) s.now)) (sym c.in-Some.is) ∙ c.get_strs.ensures ∙ raw_values-rows found (codes "logs") in
    let named : texts ≡ logs_in (rows_of found) = ap (λ (o : Option (List Text)). unwrap_or o []) all in
    IfOk-weaker c.copied.result _ _ (λ files is. ap (λ (xs : List (Bor Text)). map (λ t. t.now) xs) is ∙ named) c.copied.ensures

pub returns-in-None : goal.returns-in-None
returns-in-None c =
    let found = found_of c.args.found.now in
    let none : None ≡ all_of (codes "logs") (rows_of found) =
    ap (option_map (λ s. map (λ v. v.now) s.now)) (sym c.in-None.is) ∙ c.get_strs.ensures ∙ raw_values-rows found (codes "logs") in
    ap (λ (xs : List (Bor Text)). map (λ t. t.now) xs) c.new.ensures.items ∙ ap (λ (o : Option (List Text)). unwrap_or o []) none
