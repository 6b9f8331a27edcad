use Rattle.std.proofs.Common.{sym, subst, ◌∙◌, arith}
use Rattle.solo_model.specs.Lawful.{host_event}
use Rattle.small_eval.specs.Heads.{IsHeaded}
use Rattle.small_eval.proofs.Turning.{gone_none, gone_then, room_gone, turn_done}
use Rattle.small_eval.proofs.run.play_event.Goals as goal

pub turn-requires-clause-room : goal.turn-requires-clause-room
turn-requires-clause-room c = omega (arith, c.requires.room.room)

pub host_event-requires-clause-room : goal.host_event-requires-clause-room
host_event-requires-clause-room c =
    let one = gone_none c.args.world.now c.turn.new.world 1 c.in_ok-turn.ensures.sound c.in_ok-turn.ensures.same.1 _ c.in_ok-turn.ensures.added (omega arith) in
    room_gone c.args.world.now c.turn.new.world 4 0 1 0 3 0 c.requires.room one (omega arith) (omega arith)

pub returns-clause-lawful : goal.returns-clause-lawful
returns-clause-lawful c input tasks is h =
    turn_done input tasks c.args.task c.args.world.now.journal c.turn.new.world.journal c.host_event.new.world.journal (host_event c.turn.new.world.journal.marks c.args.kind.now c.args.bubbles c.args.target) h c.in_ok-turn.ensures.added c.in_ok-host_event.ensures.added (is c.turn.new.world.journal.marks)

pub returns-clause-gone : goal.returns-clause-gone
returns-clause-gone c =
    let one = gone_none c.args.world.now c.turn.new.world 1 c.in_ok-turn.ensures.sound c.in_ok-turn.ensures.same.1 _ c.in_ok-turn.ensures.added (omega arith) in
    let two = gone_none c.turn.new.world c.host_event.new.world 3 c.in_ok-host_event.ensures.sound c.in_ok-host_event.ensures.same.1 _ c.in_ok-host_event.ensures.added (omega arith) in
    gone_then c.args.world.now c.turn.new.world c.host_event.new.world 1 3 0 0 one two

pub returns-clause-headed : goal.returns-clause-headed
returns-clause-headed c = subst IsHeaded (sym (c.in_ok-host_event.ensures.same.0 ∙ c.in_ok-turn.ensures.same.0)) c.requires.headed

pub returns-clause-idle : goal.returns-clause-idle
returns-clause-idle c setups h = c.in_ok-host_event.ensures.idle setups (c.in_ok-turn.ensures.idle setups h)
