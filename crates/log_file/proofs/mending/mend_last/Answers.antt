use Rattle.std.proofs.Common.{◌≡◌, ◌++◌, ℕ, List, refl, sym, ap, ◌∙◌}
use Rattle.std.specs.Prelude.{string_bytes}
use Rattle.log_file.specs.Mending.{IsRewritten}
use Rattle.log_file.proofs.MendLemmas.{some_line, refused_doubt, taken_doubt}
use Rattle.log_file.proofs.mending.mend_last.Goals as goal

pub returns-in-Ok : goal.returns-in-Ok
returns-in-Ok c =
    let layout = c.args.layout.now in
    let whole = c.args.whole.now in
    let front = c.before_last-front.result.now in
    let first = c.args.first.now in
    let tail = string_bytes c.args.tail in
    let last = c.before_last-front.ensures (some_line layout c.args.site whole first tail c.requires.doubted) in
    let rewritten : IsRewritten layout c.args.site whole front first tail = record { doubted = c.requires.doubted; line = last.0; cut = last.1 } in
    let is : c.as_slice.result.now ≡ front ++ tail =
    c.as_slice.ensures.value ∙ ((c.in_ok-other.ensures {u = tt}) ∙ ap (λ (xs : List ℕ). front ++ xs) c.as_str.ensures.value) in
    taken_doubt layout c.args.site whole front c.as_slice.result.now first tail rewritten is c.judge_log.result _ _ c.judge_log.ensures (sym c.doubt_answer.ensures ∙ c.in-Ok.is) refl refl

pub returns-in-Err : goal.returns-in-Err
returns-in-Err c =
    let layout = c.args.layout.now in
    let whole = c.args.whole.now in
    let front = c.before_last-front.result.now in
    let first = c.args.first.now in
    let tail = string_bytes c.args.tail in
    let last = c.before_last-front.ensures (some_line layout c.args.site whole first tail c.requires.doubted) in
    let rewritten : IsRewritten layout c.args.site whole front first tail = record { doubted = c.requires.doubted; line = last.0; cut = last.1 } in
    let is : c.as_slice.result.now ≡ front ++ tail =
    c.as_slice.ensures.value ∙ ((c.in_ok-other.ensures {u = tt}) ∙ ap (λ (xs : List ℕ). front ++ xs) c.as_str.ensures.value) in
    refused_doubt layout c.args.site whole front c.as_slice.result.now first tail rewritten is c.judge_log.result c.in-Err.error c.judge_log.ensures (sym c.doubt_answer.ensures ∙ c.in-Err.is)
