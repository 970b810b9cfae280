use Rattle.concrete_calls.proofs.sessions.calls.Given as goal

-- the ledger is named as the blank is
abbrev pub ghosts-calls_named : goal.ghosts-calls_named
ghosts-calls_named g a = record { name = a.blank.name; parts = a.blank.parts }
