use Rattle.std.proofs.Common.{ℕ, List, ap}
use Rattle.program_shell.specs.Notes.{ends_refused, some_outdated}
use Rattle.program_shell.proofs.TalkLemmas.{one_line}
use Rattle.program_shell.proofs.laws.one_answer_is_noted.Goals as goal

pub returns-clause-refused : goal.returns-clause-refused
returns-clause-refused c = λ known answer plain. ap (λ (answers : List (List ℕ)). ends_refused known answers) (one_line answer plain)

pub returns-clause-outdated : goal.returns-clause-outdated
returns-clause-outdated c = λ known answer plain. ap (λ (answers : List (List ℕ)). some_outdated known answers) (one_line answer plain)
