use Rattle.concrete_calls.proofs.collections.outcome.Given as goal

-- each ledger is named as its blank is
abbrev pub ghosts-reported : goal.ghosts-reported
ghosts-reported g a = record { name = a.blank.name; parts = a.blank.parts }

abbrev pub ghosts-judged : goal.ghosts-judged
ghosts-judged g a = record { name = a.blank.name; parts = a.blank.parts }
