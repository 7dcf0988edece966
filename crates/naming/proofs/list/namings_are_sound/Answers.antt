use Rattle.naming.proofs.Onces.{sound}
use Rattle.naming.proofs.list.namings_are_sound.Goals as goal

pub returns : goal.returns
returns c = sound
