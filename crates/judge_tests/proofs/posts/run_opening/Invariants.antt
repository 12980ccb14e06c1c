use Rattle.judge_tests.proofs.posts.run_opening.Given as goal

abbrev pub ghosts-opening_over-L-Ledger : goal.ghosts-opening_over-L-Ledger
ghosts-opening_over-L-Ledger g a = record { name = a.blank.name; parts = a.blank.parts }
