use Rattle.exchange_tests.proofs.listed.counts_of.Given as goal

abbrev pub ghosts-counts_over-L-Ledger : goal.ghosts-counts_over-L-Ledger
ghosts-counts_over-L-Ledger g a = record { name = a.blank.name; parts = a.blank.parts }
