use Rattle.store_tests.proofs.sites.run_keeper.Given as goal

abbrev pub ghosts-run_over-L-Ledger : goal.ghosts-run_over-L-Ledger
ghosts-run_over-L-Ledger g a = record { name = a.blank.name; parts = a.blank.parts }

abbrev pub ghosts-run_over-L-Opening : goal.ghosts-run_over-L-Opening
ghosts-run_over-L-Opening g a = record { kept = λ d. g.K.Keeper.keeps a.keeper d }
