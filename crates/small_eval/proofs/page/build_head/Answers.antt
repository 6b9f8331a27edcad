use Rattle.std.proofs.Common.{refl, arith}
use Rattle.small_eval.proofs.Building.{head_built, head_whole, next_known, room_left, room_less}
use Rattle.small_eval.proofs.page.build_head.Goals as goal

pub build_element-requires-clause-room : goal.build_element-requires-clause-room
build_element-requires-clause-room c =
    room_less _ 10 5 2 1 c.requires.room (omega arith) (omega arith)

pub build_element-requires-clause-parent : goal.build_element-requires-clause-parent
build_element-requires-clause-parent c =
    (refl, omega (arith, c.requires.first.0))

pub build_element-requires-2-clause-room : goal.build_element-requires-2-clause-room
build_element-requires-2-clause-room c =
    let room1 = room_left _ _ _ 1 10 5 2 8 4 c.requires.room c.in_ok-build_element.ensures.built refl (omega arith) (omega arith) in
    room_less _ 8 4 2 1 room1 (omega arith) (omega arith)

pub build_element-requires-2-clause-parent : goal.build_element-requires-2-clause-parent
build_element-requires-2-clause-parent c =
    let own1 = next_known _ _ _ 1 2 c.requires.first.0 refl c.in_ok-build_element.ensures.built in
    (refl, omega (arith, own1))

pub build_element-requires-3-clause-room : goal.build_element-requires-3-clause-room
build_element-requires-3-clause-room c =
    let room1 = room_left _ _ _ 1 10 5 2 8 4 c.requires.room c.in_ok-build_element.ensures.built refl (omega arith) (omega arith) in
    let room2 = room_left _ _ _ 1 8 4 2 6 3 room1 c.in_ok-build_element-2.ensures.built refl (omega arith) (omega arith) in
    room_less _ 6 3 2 1 room2 (omega arith) (omega arith)

pub build_element-requires-3-clause-parent : goal.build_element-requires-3-clause-parent
build_element-requires-3-clause-parent c =
    let own1 = next_known _ _ _ 1 2 c.requires.first.0 refl c.in_ok-build_element.ensures.built in
    let own2 = next_known _ _ _ 2 3 own1 refl c.in_ok-build_element-2.ensures.built in
    (refl, omega (arith, own2))

pub build_text-requires-clause-room : goal.build_text-requires-clause-room
build_text-requires-clause-room c =
    let room1 = room_left _ _ _ 1 10 5 2 8 4 c.requires.room c.in_ok-build_element.ensures.built refl (omega arith) (omega arith) in
    let room2 = room_left _ _ _ 1 8 4 2 6 3 room1 c.in_ok-build_element-2.ensures.built refl (omega arith) (omega arith) in
    let room3 = room_left _ _ _ 1 6 3 2 4 2 room2 c.in_ok-build_element-3.ensures.built refl (omega arith) (omega arith) in
    room_less _ 4 2 2 1 room3 (omega arith) (omega arith)

pub build_text-requires-clause-parent : goal.build_text-requires-clause-parent
build_text-requires-clause-parent c =
    let own1 = next_known _ _ _ 1 2 c.requires.first.0 refl c.in_ok-build_element.ensures.built in
    let own2 = next_known _ _ _ 2 3 own1 refl c.in_ok-build_element-2.ensures.built in
    let own3 = next_known _ _ _ 3 4 own2 refl c.in_ok-build_element-3.ensures.built in
    (refl, omega (arith, own3))

pub build_element-requires-4-clause-room : goal.build_element-requires-4-clause-room
build_element-requires-4-clause-room c =
    let room1 = room_left _ _ _ 1 10 5 2 8 4 c.requires.room c.in_ok-build_element.ensures.built refl (omega arith) (omega arith) in
    let room2 = room_left _ _ _ 1 8 4 2 6 3 room1 c.in_ok-build_element-2.ensures.built refl (omega arith) (omega arith) in
    let room3 = room_left _ _ _ 1 6 3 2 4 2 room2 c.in_ok-build_element-3.ensures.built refl (omega arith) (omega arith) in
    let room4 = room_left _ _ _ 1 4 2 2 2 1 room3 c.in_ok-build_text.ensures.built refl (omega arith) (omega arith) in
    room_less _ 2 1 2 1 room4 (omega arith) (omega arith)

pub build_element-requires-4-clause-parent : goal.build_element-requires-4-clause-parent
build_element-requires-4-clause-parent c =
    let own1 = next_known _ _ _ 1 2 c.requires.first.0 refl c.in_ok-build_element.ensures.built in
    let own2 = next_known _ _ _ 2 3 own1 refl c.in_ok-build_element-2.ensures.built in
    let own3 = next_known _ _ _ 3 4 own2 refl c.in_ok-build_element-3.ensures.built in
    let own4 = next_known _ _ _ 4 5 own3 refl c.in_ok-build_text.ensures.built in
    (refl, omega (arith, own4))

pub returns-clause-built : goal.returns-clause-built
returns-clause-built c = head_whole _ _ _ _ _ _ c.args.title.now c.requires.first.0 c.in_ok-build_element.ensures.built c.in_ok-build_element-2.ensures.built c.in_ok-build_element-3.ensures.built c.in_ok-build_text.ensures.built c.in_ok-build_element-4.ensures.built

pub returns-clause-headed : goal.returns-clause-headed
returns-clause-headed c = head_built c.args.world.now c.build_element-4.new.world c.args.title.now 5 c.requires.first.1 (head_whole _ _ _ _ _ _ c.args.title.now c.requires.first.0 c.in_ok-build_element.ensures.built c.in_ok-build_element-2.ensures.built c.in_ok-build_element-3.ensures.built c.in_ok-build_text.ensures.built c.in_ok-build_element-4.ensures.built)
