use Rattle.std.proofs.Common.{ap, refl, sym, subst, ◌∙◌, ◌∷◌, [], List, codes}
use Rattle.std.proofs.lemmas.List.{append-nil}
use Rattle.door.specs.declared.values.Kind.TheVariants.{Element}
use Rattle.door.specs.declared.values.Value.{Value}
use Rattle.door.specs.declared.values.Value.TheVariants.{Str}
use Rattle.door.specs.declared.requests.Request.TheVariants.{Native}
use Rattle.door.specs.declared.members.Member.TheVariants.{ElementSetAttribute}
use Rattle.door.specs.declared.marks.Mark.TheVariants.{Build}
use Rattle.dom_semantics.specs.Changes.{with_attribute}
use Rattle.solo_model.specs.Things.{thing_of}
use Rattle.small_eval.specs.declared.world.World.{World}
use Rattle.small_eval.specs.Pieces.{identifies}
use Rattle.small_eval.specs.Worlds.{IsReady}
use Rattle.small_eval.proofs.Building.{adds_through, built_one, headed_attribute, identify_told, placed_known, placed_late, ready_attribute}
use Rattle.small_eval.proofs.build.identify.Goals as goal

pub set_attr-requires-clause-known : goal.set_attr-requires-clause-known
set_attr-requires-clause-known c = placed_known c.args.world.now (thing_of Element c.args.number) c.place-element.result c.requires.room.sound refl c.requires.known c.place-element.ensures.placed

pub set_attr-requires-clause-element : goal.set_attr-requires-clause-element
set_attr-requires-clause-element c = rw (c.place-element.ensures.placed) (c.requires.element)

pub note-requires-clause-ready : goal.note-requires-clause-ready
note-requires-clause-ready c =
    let values = c.in_ok-arguments.ensures ∙ ap (λ t. Str t ∷ (Str c.in_ok-share-2.field-0 ∷ [])) (c.in_ok-share.ensures ∙ c.in_ok-name.ensures) ∙ ap (λ t. Str (codes "id") ∷ (Str t ∷ [])) c.in_ok-share-2.ensures in
    let tree = c.in_ok-set_attr.ensures.ok ∙ ap (λ t. with_attribute c.args.world.now.tree c.place-element.result.number t c.args.id.now) c.in_ok-name.ensures in
    let next : World = record c.args.world.now { tree = c.set_attr.new.self } in
    let P : List Value → Type 0 = λ xs. IsReady next (Build (Native ElementSetAttribute c.place-element.result xs)) in
    subst P (sym values) (ready_attribute c.args.world.now next c.place-element.result (codes "id") c.args.id.now c.requires.room.sound refl refl tree refl)

pub returns-clause-built : goal.returns-clause-built
returns-clause-built c =
    let values = c.in_ok-arguments.ensures ∙ ap (λ t. Str t ∷ (Str c.in_ok-share-2.field-0 ∷ [])) (c.in_ok-share.ensures ∙ c.in_ok-name.ensures) ∙ ap (λ t. Str (codes "id") ∷ (Str t ∷ [])) c.in_ok-share-2.ensures in
    let next : World = record c.args.world.now { tree = c.set_attr.new.self } in
    let d = c.in_ok-note.ensures.ok in
    built_one c.args.world.now c.note.new.world (identifies c.args.number c.args.id.now) (Native ElementSetAttribute c.place-element.result c.in_ok-arguments.arguments) [] c.requires.room.sound c.in_ok-note.ensures.sound
    (identify_told c.args.world.now.tree c.args.number c.place-element.result c.args.id.now c.in_ok-arguments.arguments c.place-element.ensures.placed values)
    (adds_through c.args.world.now next c.note.new.world _ refl d)
    (ap (λ (world : World). world.own.items) d ∙ sym (append-nil c.args.world.now.own.items))

pub returns-clause-headed : goal.returns-clause-headed
returns-clause-headed c late h =
    let tree = c.in_ok-set_attr.ensures.ok ∙ ap (λ t. with_attribute c.args.world.now.tree c.place-element.result.number t c.args.id.now) c.in_ok-name.ensures in
    headed_attribute c.args.world.now.tree c.note.new.world.tree c.place-element.result.number (codes "id") c.args.id.now (ap (λ (world : World). world.tree) c.in_ok-note.ensures.ok ∙ tree)
    (placed_late c.args.world.now (thing_of Element c.args.number) c.place-element.result c.requires.room.sound refl c.requires.known c.place-element.ensures.placed late) h
