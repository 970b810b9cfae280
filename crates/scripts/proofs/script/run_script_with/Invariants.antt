use Rattle.scripts.proofs.script.run_script_with.Given as goal

-- the ledger is named as the blank is
abbrev pub ghosts-run_named : goal.ghosts-run_named
ghosts-run_named g a = record { name = a.fresh.blank.name; parts = a.fresh.blank.parts }
