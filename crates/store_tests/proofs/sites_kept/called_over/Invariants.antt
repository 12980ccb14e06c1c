use Rattle.store_tests.proofs.sites_kept.called_over.Given as goal

abbrev pub ghosts-called_once-L-Ledger : goal.ghosts-called_once-L-Ledger
ghosts-called_once-L-Ledger g a = record { name = a.blank.name; parts = a.blank.parts }

abbrev pub ghosts-called_once-L-Opening : goal.ghosts-called_once-L-Opening
ghosts-called_once-L-Opening g a = record { kept = λ d. g.K.Keeper.keeps a.keeper d }
