use Rattle.std.proofs.Common.{inl, inr, refl}
use Rattle.live_databases.proofs.LiveLemmas.{ends_over, unserved_end}
use Rattle.live_databases.specs.Services.{served_by}
use Rattle.live_databases.proofs.databases.serve_found.Goals as goal

pub returns-in-Err-clause-live : goal.returns-in-Err-clause-live
returns-in-Err-clause-live g c = unserved_end _ c.args.layout c.args.opening.service.site _ _ _ c.args.conversation.now _ c.in-Err.ended c.requires (inl c.in-Err.ensures.unopened)

pub returns-in-Err-clause-found : goal.returns-in-Err-clause-found
returns-in-Err-clause-found g c = inl (refl, inl c.in-Err.ensures.unopened)

pub returns-clause-live : goal.returns-clause-live
returns-clause-live g c =
    ends_over _ _ _ _ _ _ _ c.args.layout (served_by c.args.opening.service) _ _ _ c.args.conversation.now c.serve_open-ended.new.conversation _ c.serve_open-ended.result.0
    c.requires (λ log failed. failed) c.serve_open-ended.ensures

pub returns-clause-found : goal.returns-clause-found
returns-clause-found g c =
    inr (c.in-Ok.opened.0, (c.serve_open-ended.result.2, (c.serve_open-ended.result.1, (c.in-Ok.ensures.opened, c.serve_open-ended.ensures))))
