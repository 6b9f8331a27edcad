use Rattle.small_eval.proofs.Sound.{sound_noted}
use Rattle.small_eval.proofs.world.note.Goals as goal

pub returns-in-Ok-clause-sound : goal.returns-in-Ok-clause-sound
returns-in-Ok-clause-sound c = rw (c.in-Ok.ensures.ok) (sound_noted c.args.world.now c.args.mark c.requires.ready)
