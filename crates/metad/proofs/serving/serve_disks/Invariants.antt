use Rattle.metad.proofs.serving.serve_disks.Given as goal

-- the ledger is named as the blank is
abbrev pub ghosts-serve_named : goal.ghosts-serve_named
ghosts-serve_named g a = record { name = a.fresh.blank.name; parts = a.fresh.blank.parts }
