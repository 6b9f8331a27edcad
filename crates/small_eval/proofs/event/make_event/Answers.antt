use Rattle.std.proofs.Common.{ap, refl, subst, ◌∙◌, ◌∷◌, [], ◌+◌, List, false}
use Rattle.door.specs.declared.values.Value.{Value}
use Rattle.door.specs.declared.values.Value.TheVariants.{Str, Bool as BoolValue, Null as NullValue}
use Rattle.door.specs.declared.requests.Request.TheVariants.{Native}
use Rattle.door.specs.declared.members.Member.TheVariants.{NewEvent}
use Rattle.door.specs.declared.marks.Mark.TheVariants.{Build}
use Rattle.solo_model.specs.Things.{the_window}
use Rattle.small_eval.specs.Continuations.{Adds}
use Rattle.small_eval.proofs.Building.{adds_through, ready_event}
use Rattle.small_eval.proofs.event.make_event.Goals as goal

pub note-requires-clause-ready : goal.note-requires-clause-ready
note-requires-clause-ready c =
    let values = c.in_ok-arguments.ensures ∙ ap (λ t. Str t ∷ (BoolValue c.args.bubbles ∷ (BoolValue false ∷ (NullValue ∷ [])))) c.in_ok-text_of.ensures in
    ready_event c.args.world.now (record c.args.world.now { events = c.args.world.now.events + 1 }) c.args.kind.now c.args.bubbles c.in_ok-arguments.arguments c.requires.room.sound refl refl refl refl values

pub returns-clause-added : goal.returns-clause-added
returns-clause-added c =
    let values = c.in_ok-arguments.ensures ∙ ap (λ t. Str t ∷ (BoolValue c.args.bubbles ∷ (BoolValue false ∷ (NullValue ∷ [])))) c.in_ok-text_of.ensures in
    let P : List Value → Type 0 = λ xs. Adds c.args.world.now.journal c.note.new.world.journal (Build (Native NewEvent the_window xs) ∷ []) in
    subst P values (adds_through c.args.world.now (record c.args.world.now { events = c.args.world.now.events + 1 }) c.note.new.world (Build (Native NewEvent the_window c.in_ok-arguments.arguments)) refl c.in_ok-note.ensures.ok)
