use Rattle.std.proofs.Common.{refl, arith}
use Rattle.std.proofs.lemmas.List.{length-map}
use Rattle.small_forms.specs.declared.userscript.ScriptFile.{ScriptFile}
use Rattle.small_eval.specs.Turns.{file_texts}
use Rattle.small_eval.proofs.Loops.{start_first, start_room, start_step, starts_ended, starts_going}
use Rattle.small_eval.proofs.Turning.{text_is, userscript_is}
use Rattle.small_eval.proofs.run.play_starts.Goals as goal

pub loop-file-init : goal.loop-file-init
loop-file-init c = record { at = start_first (file_texts c.args.scripts.now) c.args.world.now c.requires.going; number = refl; within = omega arith }

pub play_start-requires-clause-room : goal.play_start-requires-clause-room
play_start-requires-clause-room c = start_room (file_texts c.args.scripts.now) c.loop-file.n c.args.world.now c.loop-file.world c.loop-file.invariant.at (omega (arith, c.loop-file.invariant.number, c.loop-file-test.true, c.requires.scripts.1))

pub play_start-requires-clause-headed : goal.play_start-requires-clause-headed
play_start-requires-clause-headed c = c.loop-file.invariant.at.going.headed

pub play_start-requires-clause-few : goal.play_start-requires-clause-few
play_start-requires-clause-few c = omega (arith, c.loop-file.invariant.number, c.loop-file-test.true, c.requires.scripts.1)

pub play_start-requires-clause-reads : goal.play_start-requires-clause-reads
play_start-requires-clause-reads c = userscript_is c.args.scripts.now c.file-item.result c.loop-file.file-index _ c.file-item.is c.requires.scripts.0 c.loop-file-test.true

pub loop-file-preserved : goal.loop-file-preserved
loop-file-preserved c =
    let before = c.loop-file.invariant in
    let done = c.in_ok-play_start.ensures in
    let texts = length-map c.args.scripts.now (λ (file : ScriptFile). file.script.text) in
    record {
      at = start_step (file_texts c.args.scripts.now) c.loop-file.n c.args.world.now c.loop-file.world c.play_start.new.world c.file-item.result.script.text before.at (omega (arith, before.number, c.loop-file-test.true, texts))
          (text_is (λ (file : ScriptFile). file.script.text) c.args.scripts.now c.args.scripts.now c.file-item.result c.loop-file.file-index c.loop-file.n _ c.file-item.is refl before.number c.loop-file-test.true) done.gone done.headed done.lawful done.idle;
      number = omega (arith, before.number);
      within = omega (arith, c.loop-file-test.true);
    }

pub returns-clause-lawful : goal.returns-clause-lawful
returns-clause-lawful c input tasks e s =
    let all = c.loop-file.invariant in
    let texts = length-map c.args.scripts.now (λ (file : ScriptFile). file.script.text) in
    starts_ended (file_texts c.args.scripts.now) c.loop-file.n c.args.world.now c.loop-file.world all.at (omega (arith, all.number, all.within, c.loop-file-test.false, texts)) input tasks e s

pub returns-clause-going : goal.returns-clause-going
returns-clause-going c =
    let all = c.loop-file.invariant in
    starts_going (file_texts c.args.scripts.now) c.loop-file.n c.args.world.now c.loop-file.world all.at (omega (arith, all.number, all.within, c.requires.scripts.1))

pub returns-clause-idle : goal.returns-clause-idle
returns-clause-idle c setups zone s = c.loop-file.invariant.at.idle setups zone s
