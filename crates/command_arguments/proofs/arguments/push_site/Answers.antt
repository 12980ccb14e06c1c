use Rattle.std.proofs.Common.{ℕ, List, ◌++◌, ◌∙◌, sym, ap}
use Rattle.std.proofs.lemmas.List.{append-nil}
use Rattle.command_arguments.proofs.ArgumentLemmas.{site_read, site_unread}
use Rattle.command_arguments.proofs.arguments.push_site.Goals as goal

pub returns-in_ok-push-in-Ok : goal.returns-in_ok-push-in-Ok
returns-in_ok-push-in-Ok c =
    let named = site_read _ c.args.text.now c.parse.result c.in-Ok.site c.parse.ensures.value.0 c.in-Ok.is in
    c.in_ok-push-in-Ok.ensures.items ∙ ap (λ (xs : List ℕ). c.args.sites.now.items ++ xs) (sym named)

pub returns-in-Err : goal.returns-in-Err
returns-in-Err c =
    let unread = site_unread _ c.args.text.now c.parse.result c.in-Err.field-0 c.parse.ensures.value.0 c.in-Err.is in
    sym (ap (λ (xs : List ℕ). c.args.sites.now.items ++ xs) unread ∙ append-nil c.args.sites.now.items)
