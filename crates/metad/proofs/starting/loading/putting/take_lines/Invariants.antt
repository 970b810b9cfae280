use Rattle.metad.proofs.starting.loading.putting.take_lines.Given as goal

-- the ledger of the second store is named as its blank is
abbrev pub ghosts-keep : goal.ghosts-keep
ghosts-keep g a = record { name = a.blank.name; parts = a.blank.parts }
