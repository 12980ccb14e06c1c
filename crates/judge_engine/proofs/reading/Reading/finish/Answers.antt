use Rattle.std.proofs.Common.{rules, ◌≡◌, None, true}
use Rattle.std.specs.Prelude.{is_some}
use Rattle.std.proofs.lemmas.Result.{IfOk-weaker}
use Rattle.judge_engine.proofs.ReadingLemmas.{bytes_end, bytes_over, some_there}
use Rattle.judge_engine.proofs.reading.Reading.finish.Goals as goal

pub returns-then-is_some : goal.returns-then-is_some
returns-then-is_some c = λ layout cut keeping earlier bytes reads.
    let old = c.args.self.now in
    let there : is_some old.refused ≡ true = search rules in
    let it = some_there old.refused there in
    bytes_over layout cut keeping earlier bytes old it.0 it.1 reads

pub returns : goal.returns
returns c =
    let old = c.args.self.now in
    let none : old.refused ≡ None = search rules in
    IfOk-weaker c.read_pending.result _ _
    (λ _ step layout cut keeping earlier bytes reads. bytes_end layout cut keeping earlier bytes old c.read_pending.new.self none reads (step layout cut keeping earlier))
    c.read_pending.ensures.read
