use Rattle.std.proofs.Common.{◌≡◌, ◌∙◌, refl, codes, option_map}
use Rattle.clap.specs.Words.{first_of, found_of, rows_of}
use Rattle.clap.proofs.WalkLemmas.{first_value-rows}
use Rattle.command_arguments.proofs.arguments.words_in.Goals as goal

pub returns : goal.returns
returns c =
    let found = found_of c.args.found.now in
    let first : option_map (λ t. t.now) c.get_str.result ≡ first_of (codes "word") (rows_of found) = c.get_str.ensures ∙ first_value-rows found (codes "word") in
    let second : option_map (λ t. t.now) c.get_str-2.result ≡ first_of (codes "word2") (rows_of found) = c.get_str-2.ensures ∙ first_value-rows found (codes "word2") in
    let third : option_map (λ t. t.now) c.get_str-3.result ≡ first_of (codes "word3") (rows_of found) = c.get_str-3.ensures ∙ first_value-rows found (codes "word3") in
    let fourth : option_map (λ t. t.now) c.get_str-4.result ≡ first_of (codes "word4") (rows_of found) = c.get_str-4.ensures ∙ first_value-rows found (codes "word4") in
    rw (first, second, third, fourth) refl
