use Rattle.metad.proofs.running.run_on.Goals as goal

-- no line waited before
pub returns : goal.returns
returns g c = record { settled = c.in_ok-stop.ensures.settled c.requires.waits }
