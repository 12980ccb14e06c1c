use Rattle.stored_site.proofs.StoredLemmas.{ends_stored}
use Rattle.shell_tests.proofs.runtime.FakeDatabases.serve_database.Goals as goal

pub returns : goal.returns
returns g c =
    ends_stored _ _ c.args.layout c.args.site _ _ c.args.source.now c.serve_over-ended.new.source c.args.sink.now c.serve_over-ended.new.sink c.serve_over-ended.result.0
    c.requires c.serve_over-ended.ensures
