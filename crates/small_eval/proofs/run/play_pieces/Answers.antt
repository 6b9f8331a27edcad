use Rattle.std.proofs.Common.{ap, refl, arith, length, List}
use Rattle.std.proofs.lemmas.List.{length-map}
use Rattle.small_forms.specs.declared.page.PageScript.{PageScript}
use Rattle.small_eval.proofs.Building.{room_left, room_less, own_built}
use Rattle.small_eval.proofs.Loops.{body_stands, piece_room, piece_step, pieces_begun, pieces_ended, pieces_going, pieces_own, pieces_room, pieces_start}
use Rattle.small_eval.proofs.Turning.{page_script_is, text_is}
use Rattle.small_eval.proofs.run.play_pieces.Goals as goal

pub build_head-requires-clause-room : goal.build_head-requires-clause-room
build_head-requires-clause-room c =
    let room = pieces_room c.args.world.now c.turn.new.world c.requires.first c.requires.own c.in_ok-turn.ensures.sound c.in_ok-turn.ensures.same.1 c.in_ok-turn.ensures.added in
    room_less c.turn.new.world 100 10 10 5 room (omega arith) (omega arith)

pub build_head-requires-clause-first : goal.build_head-requires-clause-first
build_head-requires-clause-first c = (pieces_own c.args.world.now c.turn.new.world c.requires.own c.in_ok-turn.ensures.same.1, pieces_start c.args.world.now c.turn.new.world c.requires.first c.in_ok-turn.ensures.added)

pub build_blocks-requires-clause-room : goal.build_blocks-requires-clause-room
build_blocks-requires-clause-room c =
    let room = pieces_room c.args.world.now c.turn.new.world c.requires.first c.requires.own c.in_ok-turn.ensures.sound c.in_ok-turn.ensures.same.1 c.in_ok-turn.ensures.added in
    room_left c.turn.new.world c.build_head.new.world _ 5 100 10 10 6 2 room c.in_ok-build_head.ensures.built refl (omega arith) (omega arith)

pub build_blocks-requires-clause-body : goal.build_blocks-requires-clause-body
build_blocks-requires-clause-body c =
    let one = pieces_own c.args.world.now c.turn.new.world c.requires.own c.in_ok-turn.ensures.same.1 in
    let more = own_built c.turn.new.world c.build_head.new.world _ 5 c.in_ok-build_head.ensures.built in
    omega (arith, one, more)

pub loop-script-init : goal.loop-script-init
loop-script-init c = record {
  at = pieces_begun c.args.page.now c.args.world.now c.turn.new.world c.build_head.new.world c.build_blocks.new.world c.requires.first c.requires.own c.in_ok-turn.ensures.sound c.in_ok-turn.ensures.same.1 c.in_ok-turn.ensures.added c.in_ok-turn.ensures.idle
      c.in_ok-build_head.ensures.built c.in_ok-build_blocks.ensures.built (c.in_ok-build_blocks.ensures.headed c.in_ok-build_head.ensures.headed);
  number = refl;
  within = omega arith;
}

pub end_piece-requires-clause-room : goal.end_piece-requires-clause-room
end_piece-requires-clause-room c =
    let long = ap (λ (xs : List PageScript). length xs) c.as_slice-script-items.ensures in
    piece_room c.args.page.now c.loop-script.n c.args.world.now c.loop-script.world c.loop-script.invariant.at (omega (arith, c.loop-script.invariant.number, c.loop-script-test.true, long, c.requires.scripts.1))

pub end_piece-requires-clause-headed : goal.end_piece-requires-clause-headed
end_piece-requires-clause-headed c = c.loop-script.invariant.at.going.headed

pub end_piece-requires-clause-body : goal.end_piece-requires-clause-body
end_piece-requires-clause-body c = body_stands c.args.page.now c.loop-script.n c.args.world.now c.loop-script.world c.loop-script.invariant.at

pub end_piece-requires-clause-few : goal.end_piece-requires-clause-few
end_piece-requires-clause-few c =
    let long = ap (λ (xs : List PageScript). length xs) c.as_slice-script-items.ensures in
    omega (arith, c.loop-script.invariant.number, c.loop-script-test.true, long, c.requires.scripts.1)

pub end_piece-requires-clause-reads : goal.end_piece-requires-clause-reads
end_piece-requires-clause-reads c = page_script_is c.as_slice-script-items.result.now c.script-item.result c.loop-script.script-index _ c.script-item.is (rw (c.as_slice-script-items.ensures) c.requires.scripts.0) c.loop-script-test.true

pub loop-script-preserved : goal.loop-script-preserved
loop-script-preserved c =
    let before = c.loop-script.invariant in
    let done = c.in_ok-end_piece.ensures in
    let items = c.as_slice-script-items.ensures in
    let long = ap (λ (xs : List PageScript). length xs) items in
    let texts = length-map c.args.page.now.scripts (λ (script : PageScript). script.text) in
    record {
      at = piece_step c.args.page.now c.loop-script.n c.args.world.now c.loop-script.world c.end_piece.new.world c.script-item.result.text before.at (omega (arith, before.number, c.loop-script-test.true, long, texts))
          (text_is (λ (script : PageScript). script.text) c.as_slice-script-items.result.now c.args.page.now.scripts c.script-item.result c.loop-script.script-index c.loop-script.n _ c.script-item.is items before.number c.loop-script-test.true) done.gone done.headed done.lawful done.idle;
      number = omega (arith, before.number);
      within = omega (arith, c.loop-script-test.true);
    }

pub returns-clause-lawful : goal.returns-clause-lawful
returns-clause-lawful c input e =
    let all = c.loop-script.invariant in
    let long = ap (λ (xs : List PageScript). length xs) c.as_slice-script-items.ensures in
    let texts = length-map c.args.page.now.scripts (λ (script : PageScript). script.text) in
    pieces_ended c.args.page.now c.loop-script.n c.args.world.now c.loop-script.world all.at (omega (arith, all.number, all.within, c.loop-script-test.false, long, texts)) input e

pub returns-clause-going : goal.returns-clause-going
returns-clause-going c =
    let all = c.loop-script.invariant in
    let long = ap (λ (xs : List PageScript). length xs) c.as_slice-script-items.ensures in
    pieces_going c.args.page.now c.loop-script.n c.args.world.now c.loop-script.world all.at (omega (arith, all.number, all.within, long, c.requires.scripts.1))

pub returns-clause-idle : goal.returns-clause-idle
returns-clause-idle c setups zone s = c.loop-script.invariant.at.idle setups zone s
