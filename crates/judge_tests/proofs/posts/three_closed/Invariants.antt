use Rattle.judge_tests.proofs.posts.three_closed.Given as goal

abbrev pub ghosts-trio_over-L-Ledger : goal.ghosts-trio_over-L-Ledger
ghosts-trio_over-L-Ledger g a = record { name = a.blank_0.name; parts = a.blank_0.parts }

abbrev pub ghosts-trio_over-M-Ledger : goal.ghosts-trio_over-M-Ledger
ghosts-trio_over-M-Ledger g a = record { name = a.blank_1.name; parts = a.blank_1.parts }

abbrev pub ghosts-trio_over-N-Ledger : goal.ghosts-trio_over-N-Ledger
ghosts-trio_over-N-Ledger g a = record { name = a.blank_2.name; parts = a.blank_2.parts }
