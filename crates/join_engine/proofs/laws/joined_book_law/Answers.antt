use Rattle.join_engine.proofs.JoinLaws.{one_join}
use Rattle.join_engine.proofs.laws.joined_book_law.Goals as goal

pub returns : goal.returns
returns c = λ shape ds es a b same join_a join_b. one_join shape ds es a b same join_a join_b
