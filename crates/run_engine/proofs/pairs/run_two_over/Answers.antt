use Rattle.std.proofs.Common.{rules, ◌≡◌, [], ◌∷◌, refl}
use Rattle.session_book.specs.Sites.{new_passes}
use Rattle.run_engine.specs.Scripts.{asks_of}
use Rattle.run_engine.specs.Runs.{IsSiteRun}
use Rattle.run_engine.proofs.SiteLemmas.{two_runs, work_run}
use Rattle.run_engine.proofs.pairs.run_two_over.Goals as goal

pub returns : goal.returns
returns g c =
    let layout = c.args.layout.now in
    let asked = c.args.asked.now in
    let side = c.in_ok-side.side in
    let peer = c.in_ok-peer.peer in
    let first : IsSiteRun layout 0 (asks_of 0 asked) c.in_ok-first.first =
    work_run layout layout 0 3 (asks_of 0 asked) side.site (new_passes 3) side.work.caller c.work_both.new.work.caller c.in_ok-first.first refl c.in_ok-side.ensures.opened
    c.in_ok-side.ensures.pass c.in_ok-side.ensures.asks c.work_both.ensures.called c.in_ok-first.ensures.answered c.in_ok-first.ensures.closed in
    let second : IsSiteRun layout 1 (asks_of 1 asked) c.in_ok-second.second =
    work_run layout layout 1 3 (asks_of 1 asked) peer.site (new_passes 3) peer.work.caller c.work_both.new.peer_work.caller c.in_ok-second.second refl c.in_ok-peer.ensures.opened
    c.in_ok-peer.ensures.pass c.in_ok-peer.ensures.asks c.work_both.ensures.peer_called c.in_ok-second.ensures.answered c.in_ok-second.ensures.closed in
    let both : c.in_ok-transcripts.transcripts.items ≡ c.in_ok-first.first ∷ (c.in_ok-second.second ∷ []) = search rules in
    two_runs layout asked c.in_ok-first.first c.in_ok-second.second c.in_ok-transcripts.transcripts.items c.requires.two both first second
