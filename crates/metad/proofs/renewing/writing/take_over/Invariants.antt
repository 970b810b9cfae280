use Rattle.metad.proofs.renewing.writing.take_over.Given as goal

-- the ledger of the second store is named as its blank is
abbrev pub ghosts-take_checkpoint : goal.ghosts-take_checkpoint
ghosts-take_checkpoint g a = record { name = a.blank.name; parts = a.blank.parts }
