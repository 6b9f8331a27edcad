use Rattle.std.proofs.Common.{ap, sym, subst, ◌∙◌, [], List}
use Rattle.std.proofs.lemmas.List.{append-nil}
use Rattle.door.specs.declared.values.Value.{Value}
use Rattle.door.specs.declared.requests.Request.TheVariants.{Native}
use Rattle.door.specs.declared.members.Member.TheVariants.{NodeAppendChild}
use Rattle.door.specs.declared.marks.Mark.TheVariants.{Build}
use Rattle.small_eval.specs.declared.world.World.{World}
use Rattle.small_eval.specs.Pieces.{appends}
use Rattle.small_eval.specs.Worlds.{IsReady}
use Rattle.small_eval.proofs.Building.{adds_through, append_told, built_one, headed_appended, placed_known, placed_late, ready_appended}
use Rattle.small_eval.proofs.build.append.Goals as goal

pub put_last-requires-clause-parent : goal.put_last-requires-clause-parent
put_last-requires-clause-parent c = placed_known c.args.world.now c.args.parent c.place-parent.result c.requires.room.sound c.requires.parent.0 c.requires.parent.1 c.place-parent.ensures.placed

pub put_last-requires-clause-child : goal.put_last-requires-clause-child
put_last-requires-clause-child c = placed_known c.args.world.now c.args.child c.place-child.result c.requires.room.sound c.requires.child.0 c.requires.child.1 c.place-child.ensures.placed

pub note-requires-clause-ready : goal.note-requires-clause-ready
note-requires-clause-ready c =
    let e = c.in_ok-put_last.ensures.tree in
    let P : List Value → Type 0 = λ xs. IsReady c.put_last.new.world (Build (Native NodeAppendChild c.place-parent.result xs)) in
    subst P (sym c.in_ok-arguments.ensures)
    (ready_appended c.args.world.now c.put_last.new.world c.place-parent.result c.place-child.result c.requires.room.sound (ap (λ (world : World). world.journal) e) (ap (λ (world : World). world.events) e) (ap (λ (world : World). world.tree) e) (ap (λ (world : World). world.own) e))

pub returns-clause-built : goal.returns-clause-built
returns-clause-built c =
    let e = c.in_ok-put_last.ensures.tree in
    let d = c.in_ok-note.ensures.ok in
    built_one c.args.world.now c.note.new.world (appends c.args.parent c.args.child) (Native NodeAppendChild c.place-parent.result c.in_ok-arguments.arguments) [] c.requires.room.sound c.in_ok-note.ensures.sound
    (append_told c.args.world.now.tree c.args.parent c.args.child c.place-parent.result c.place-child.result c.in_ok-arguments.arguments c.place-parent.ensures.placed c.place-child.ensures.placed c.in_ok-arguments.ensures)
    (adds_through c.args.world.now c.put_last.new.world c.note.new.world _ (ap (λ (world : World). world.journal) e) d)
    (ap (λ (world : World). world.own.items) d ∙ ap (λ (world : World). world.own.items) e ∙ sym (append-nil c.args.world.now.own.items))

pub returns-clause-headed : goal.returns-clause-headed
returns-clause-headed c late later h =
    let e = c.in_ok-put_last.ensures.tree in
    let d = c.in_ok-note.ensures.ok in
    headed_appended c.args.world.now.tree c.note.new.world.tree c.place-parent.result.number c.place-child.result.number (ap (λ (world : World). world.tree) d ∙ ap (λ (world : World). world.tree) e)
    (placed_late c.args.world.now c.args.parent c.place-parent.result c.requires.room.sound c.requires.parent.0 c.requires.parent.1 c.place-parent.ensures.placed late)
    (placed_late c.args.world.now c.args.child c.place-child.result c.requires.room.sound c.requires.child.0 c.requires.child.1 c.place-child.ensures.placed later) h
