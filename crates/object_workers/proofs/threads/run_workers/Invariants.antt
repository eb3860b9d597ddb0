use Rattle.object_workers.proofs.threads.run_workers.Given as goal

-- how many branches there are
abbrev pub ghosts-run_dealt : goal.ghosts-run_dealt
ghosts-run_dealt g a = record { count = a.branches }
