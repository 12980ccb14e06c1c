use Rattle.live_databases.proofs.RoundLemmas.{ends_rounds}
use Rattle.shell_tests.proofs.runtime.FakeLiveDatabases.serve_rounds.Goals as goal

pub returns : goal.returns
returns g c =
    ends_rounds _ _ _ c.args.opening.together c.args.layout _ _ _ c.args.conversation.now c.serve_rounds_over-ended.new.conversation c.serve_rounds_over-ended.result.0
    c.requires c.serve_rounds_over-ended.ensures
