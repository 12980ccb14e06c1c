use Rattle.live_databases.proofs.LiveLemmas.{ends_live}
use Rattle.shell_tests.proofs.runtime.FakeLiveDatabases.serve_conversation.Goals as goal

pub returns : goal.returns
returns g c =
    ends_live _ _ _ _ c.args.layout _ _ _ _ c.args.conversation.now c.serve_live_over-ended.new.conversation _ _ c.serve_live_over-ended.result.0
    c.requires (λ failed. absurd failed) c.serve_live_over-ended.ensures
