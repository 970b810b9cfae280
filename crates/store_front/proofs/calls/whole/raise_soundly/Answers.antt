use Rattle.store_front.proofs.RaisedSound.{raised_sound}
use Rattle.store_front.proofs.calls.whole.raise_soundly.Goals as goal

pub returns-clause-sound : goal.returns-clause-sound
returns-clause-sound g c sound = rw c.raise.ensures (raised_sound c.args.number _ sound)
