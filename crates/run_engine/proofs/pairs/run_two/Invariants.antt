use Rattle.run_engine.proofs.pairs.run_two.Given as goal

abbrev pub ghosts-run_two_over-L-Ledger : goal.ghosts-run_two_over-L-Ledger
ghosts-run_two_over-L-Ledger g a = record { name = a.one.name; parts = a.one.parts }

abbrev pub ghosts-run_two_over-M-Ledger : goal.ghosts-run_two_over-M-Ledger
ghosts-run_two_over-M-Ledger g a = record { name = a.other.name; parts = a.other.parts }
