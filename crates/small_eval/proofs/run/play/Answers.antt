use Rattle.std.proofs.Common.{◌∙◌, ap, refl, subst, [], List, arith}
use Rattle.door.specs.declared.marks.Task.{Task}
use Rattle.solo_model.specs.Lawful.{AreTurns, Input}
use Rattle.small_eval.specs.Bounds.{LOAD_MARKS, PAGE_MARKS, PAGE_NODES, START_MARKS}
use Rattle.small_eval.specs.Pieces.{pieces_of}
use Rattle.small_eval.specs.Turns.{file_texts}
use Rattle.small_eval.proofs.Turning.{going_more, idle_start, room_going, tasks_whole}
use Rattle.small_eval.proofs.run.play.Goals as goal

pub play_event-requires-clause-room : goal.play_event-requires-clause-room
play_event-requires-clause-room c = room_going c.play_pieces.new.world PAGE_MARKS PAGE_NODES 4 0 c.in_ok-play_pieces.ensures.going (omega arith) (omega arith)

pub play_event-requires-clause-headed : goal.play_event-requires-clause-headed
play_event-requires-clause-headed c = c.in_ok-play_pieces.ensures.going.headed

pub play_starts-requires-clause-going : goal.play_starts-requires-clause-going
play_starts-requires-clause-going c = going_more c.play_pieces.new.world c.play_event.new.world PAGE_MARKS PAGE_NODES 4 0 START_MARKS PAGE_NODES c.in_ok-play_pieces.ensures.going c.in_ok-play_event.ensures.gone c.in_ok-play_event.ensures.headed (omega arith) (omega arith)

pub play_event-requires-2-clause-room : goal.play_event-requires-2-clause-room
play_event-requires-2-clause-room c = room_going c.play_starts.new.world LOAD_MARKS PAGE_NODES 4 0 c.in_ok-play_starts.ensures.going (omega arith) (omega arith)

pub play_event-requires-2-clause-headed : goal.play_event-requires-2-clause-headed
play_event-requires-2-clause-headed c = c.in_ok-play_starts.ensures.going.headed

pub returns-clause-lawful : goal.returns-clause-lawful
returns-clause-lawful c =
    let input : Input = record { pieces = pieces_of c.args.page.now; starts = file_texts c.args.scripts.now } in
    let P : List Task → Type 0 = λ tasks. AreTurns input [] tasks c.play_event-2.new.world.journal.marks in
    let one = c.in_ok-play_pieces.ensures.lawful input refl in
    let two = c.in_ok-play_event.ensures.lawful input _ (λ before. refl) one in
    let three = c.in_ok-play_starts.ensures.lawful input _ refl two in
    subst P (tasks_whole input) (c.in_ok-play_event-2.ensures.lawful input _ (λ before. refl) three)

pub returns-clause-sound : goal.returns-clause-sound
returns-clause-sound c = c.in_ok-play_event-2.ensures.gone.sound

pub returns-clause-limit : goal.returns-clause-limit
returns-clause-limit c = c.in_ok-play_event-2.ensures.gone.limit ∙ c.in_ok-play_starts.ensures.going.limit

pub returns-clause-idle : goal.returns-clause-idle
returns-clause-idle c setups page scripts =
    c.in_ok-play_event-2.ensures.idle setups (c.in_ok-play_starts.ensures.idle setups scripts (c.in_ok-play_event.ensures.idle setups (c.in_ok-play_pieces.ensures.idle setups page (idle_start setups _ (ap (λ r. r.marks) c.in_ok-world.ensures.journal)))))
