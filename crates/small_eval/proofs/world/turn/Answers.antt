use Rattle.std.proofs.Common.{ap, refl}
use Rattle.door.specs.declared.marks.Mark.TheVariants.{Turn}
use Rattle.small_eval.specs.declared.world.World.{World}
use Rattle.small_eval.proofs.Building.{adds_through, idle_past, ready_turn}
use Rattle.small_eval.proofs.world.turn.Goals as goal

pub note-requires-clause-ready : goal.note-requires-clause-ready
note-requires-clause-ready c = ready_turn c.args.world.now c.args.task c.requires.sound

pub returns-clause-added : goal.returns-clause-added
returns-clause-added c = adds_through c.args.world.now c.args.world.now c.note.new.world (Turn c.args.task) refl c.in_ok-note.ensures.ok

pub returns-clause-same : goal.returns-clause-same
returns-clause-same c = (ap (λ (world : World). world.tree) c.in_ok-note.ensures.ok, ap (λ (world : World). world.own) c.in_ok-note.ensures.ok)

pub returns-clause-idle : goal.returns-clause-idle
returns-clause-idle c setups = idle_past setups c.args.world.now.journal c.note.new.world.journal (Turn c.args.task) (adds_through c.args.world.now c.args.world.now c.note.new.world (Turn c.args.task) refl c.in_ok-note.ensures.ok) (λ i guest. refl)
