use Rattle.std.proofs.Common.{refl, sym, subst, arith, List}
use Rattle.door.specs.declared.marks.Task.TheVariants.{Start}
use Rattle.small_forms.specs.Scripts.{IsUserscript}
use Rattle.small_forms.specs.declared.script.Line.{Line}
use Rattle.small_eval.specs.Bounds.{ENTRY_MARKS, SCRIPT_MARKS}
use Rattle.small_eval.specs.Heads.{IsHeaded}
use Rattle.small_eval.proofs.Turning.{gone_less, gone_none, gone_then, turn_done}
use Rattle.small_eval.proofs.run.play_start.Goals as goal

pub turn-requires-clause-room : goal.turn-requires-clause-room
turn-requires-clause-room c = omega (arith, c.requires.room.room)

pub enter-requires-clause-headed : goal.enter-requires-clause-headed
enter-requires-clause-headed c = subst IsHeaded (sym c.in_ok-turn.ensures.same.0) c.requires.headed

pub enter-requires-clause-reads : goal.enter-requires-clause-reads
enter-requires-clause-reads c =
    (c.args.script.now.name, subst (λ (lines : List Line). IsUserscript c.args.script.now.text c.args.script.now.name lines) (sym c.as_slice.ensures) c.requires.reads)

pub enter-requires-clause-room : goal.enter-requires-clause-room
enter-requires-clause-room c =
    let one = gone_none c.args.world.now c.turn.new.world 1 c.in_ok-turn.ensures.sound c.in_ok-turn.ensures.same.1 _ c.in_ok-turn.ensures.added (omega arith) in
    omega (arith, one.long, one.limit, c.requires.room.room)

pub enter-requires-clause-limit : goal.enter-requires-clause-limit
enter-requires-clause-limit c =
    let one = gone_none c.args.world.now c.turn.new.world 1 c.in_ok-turn.ensures.sound c.in_ok-turn.ensures.same.1 _ c.in_ok-turn.ensures.added (omega arith) in
    omega (arith, one.limit, c.requires.room.limit)

pub returns-clause-lawful : goal.returns-clause-lawful
returns-clause-lawful c input tasks e h =
    let entry = c.in_ok-enter.ensures.entry in
    turn_done input tasks (Start c.args.n) c.args.world.now.journal c.turn.new.world.journal c.enter.new.world.journal entry.0 h c.in_ok-turn.ensures.added entry.1 (c.args.script.now.text, e, entry.2)

pub returns-clause-gone : goal.returns-clause-gone
returns-clause-gone c =
    let entry = c.in_ok-enter.ensures.entry in
    let one = gone_none c.args.world.now c.turn.new.world 1 c.in_ok-turn.ensures.sound c.in_ok-turn.ensures.same.1 _ c.in_ok-turn.ensures.added (omega arith) in
    let two = gone_none c.turn.new.world c.enter.new.world ENTRY_MARKS c.in_ok-enter.ensures.sound c.in_ok-enter.ensures.own entry.0 entry.1 entry.3 in
    gone_less c.args.world.now c.enter.new.world _ _ SCRIPT_MARKS 0 (gone_then c.args.world.now c.turn.new.world c.enter.new.world 1 ENTRY_MARKS 0 0 one two) (omega arith) refl

pub returns-clause-idle : goal.returns-clause-idle
returns-clause-idle c setups zone h = c.in_ok-enter.ensures.idle setups zone (c.in_ok-turn.ensures.idle setups h)
