use Rattle.std.proofs.Common.{◌≤◌, refl, subst, List, ℕ, length}
use Rattle.std.proofs.lemmas.List.{length-map}
use Rattle.door.specs.declared.limits.TheConstants.{USERSCRIPT_LIMIT}
use Rattle.small_eval.specs.Pieces.{pieces_of}
use Rattle.small_forms.specs.declared.userscript.ScriptFile.{ScriptFile}
use Rattle.small_runs.specs.SmallGiven.{small_setups}
use Rattle.solo_model.specs.Lawful.{IsLawful}
use Rattle.page_host.specs.Scripts.{userscripts_in}
use Rattle.page_host.proofs.Playing.{SmallLaws, WholeLaws, all_played, all_solo, same_texts, userscript_zone, userscripts_are}
use Rattle.page_host.proofs.Stages.{tree_has}
use Rattle.page_host.proofs.play.play.Goals as goal

pub play-requires-clause-scripts : goal.play-requires-clause-scripts
play-requires-clause-scripts c = (userscripts_are c.args.scripts.now c.requires.scripts, c.requires.few)

pub returns-clause-right : goal.returns-clause-right
returns-clause-right c =
    let page = c.args.page.now in
    let scripts = userscripts_in c.args.scripts.now in
    let journal = c.in_ok-journal.field-0.journal in
    let tree = c.in_ok-journal.field-0.tree in
    let small : SmallLaws = record { solos = c.small_solos_are_solos.ensures; page = c.page_scripts_spell_their_lines.ensures; userscript = c.userscripts_spell_their_lines.ensures } in
    let whole : WholeLaws = record { reading = c.selectors_have_a_reading.ensures; right = c.small_runs_are_right.ensures; document = c.small_runs_have_one_document.ensures } in
    let Lawful : List (List ℕ) → Type 0 = λ texts. IsLawful (record { pieces = pieces_of page; starts = texts }) journal.marks in
    let lawful = subst Lawful (same_texts c.args.scripts.now) c.in_ok-journal.ensures.lawful in
    let sound = c.in_ok-journal.ensures.sound in
    let few : length scripts ≤ USERSCRIPT_LIMIT = rw (length-map c.args.scripts.now (λ (script : ScriptFile). script.script)) c.requires.few in
    let bytes = c.requires.page.0 in
    let is_page = c.requires.page.1 in
    λ address short.
    let acts = all_solo small address bytes page scripts journal.marks is_page c.requires.scripts few lawful sound.genuine (c.in_ok-journal.ensures.idle (small_setups address) refl (userscript_zone address)) in
    all_played whole address bytes page scripts (record { journal = journal; tree = tree }) short is_page c.requires.scripts c.requires.distinct few lawful sound.genuine acts sound.nodes

pub returns-clause-rooted : goal.returns-clause-rooted
returns-clause-rooted c = tree_has c.in_ok-journal.field-0.tree c.in_ok-journal.field-0.journal.marks c.in_ok-journal.ensures.sound.nodes
