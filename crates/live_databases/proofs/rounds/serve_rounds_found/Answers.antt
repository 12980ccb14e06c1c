use Rattle.std.proofs.Common.{inr}
use Rattle.live_databases.proofs.RoundLemmas.{ends_rounds, unopened_rounds}
use Rattle.live_databases.specs.Services.{served_by}
use Rattle.live_databases.proofs.rounds.serve_rounds_found.Goals as goal

pub returns-in-Err-clause-live : goal.returns-in-Err-clause-live
returns-in-Err-clause-live g c =
    unopened_rounds _ c.args.opening.together c.args.layout c.args.opening.service.site _ _ c.args.conversation.now c.args.opening.service.permission.create c.in-Err.ended c.requires c.in-Err.ensures.unopened

pub returns-clause-live : goal.returns-clause-live
returns-clause-live g c =
    ends_rounds _ _ _ c.args.opening.together c.args.layout (served_by c.args.opening.service) _ _ c.args.conversation.now c.serve_rounds_over-ended.new.conversation c.serve_rounds_over-ended.result.0
    c.requires c.serve_rounds_over-ended.ensures

pub returns-clause-found : goal.returns-clause-found
returns-clause-found g c =
    inr (c.in-Ok.opened.0, (c.serve_rounds_over-ended.result.1, (c.in-Ok.ensures.opened, c.serve_rounds_over-ended.ensures)))
