use Rattle.metad.proofs.starting.loading.load_text.Given as goal

-- the ledger is named as the blank is
abbrev pub ghosts-load_named : goal.ghosts-load_named
ghosts-load_named g a = record { name = a.fresh.blank.name; parts = a.fresh.blank.parts }
