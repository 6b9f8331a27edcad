use Rattle.std.proofs.Common.{ap, refl, subst, ◌∙◌, ◌∷◌, [], ℕ, arith, true, false}
use Rattle.door.specs.declared.values.Value.TheVariants.{Str, Bool as BoolValue, Null as NullValue}
use Rattle.door.specs.declared.requests.Request.TheVariants.{Native}
use Rattle.door.specs.declared.requests.Answer.TheVariants.{Value as ValueAnswer}
use Rattle.door.specs.declared.members.Member.TheVariants.{NewEvent}
use Rattle.door.specs.declared.marks.Mark.TheVariants.{Build, Back, Dispatch}
use Rattle.dom_semantics.specs.Forest.{the_host}
use Rattle.solo_model.specs.Lawful.{event_marks}
use Rattle.solo_model.specs.Things.{the_window}
use Rattle.small_eval.specs.declared.world.World.{World}
use Rattle.small_eval.specs.Continuations.{Adds}
use Rattle.small_eval.proofs.Building.{adds_limit, adds_long, adds_then, adds_through, host_unseen, idle_past, room_less}
use Rattle.small_eval.proofs.Events.{few_events}
use Rattle.small_eval.proofs.Sound.{ready_still}
use Rattle.small_eval.proofs.event.host_event.Goals as goal

pub make_event-requires-clause-room : goal.make_event-requires-clause-room
make_event-requires-clause-room c = room_less c.args.world.now 3 0 1 0 c.requires.room (omega arith) (omega arith)

pub make_event-requires-clause-few : goal.make_event-requires-clause-few
make_event-requires-clause-few c = let few = few_events c.args.world.now.journal.marks in omega (arith, few, c.requires.room.sound.events, c.requires.room.room, c.requires.room.limit)

pub note-requires-clause-ready : goal.note-requires-clause-ready
note-requires-clause-ready c = ready_still c.make_event.new.world _ c.in_ok-make_event.ensures.sound refl refl

pub note-requires-clause-room : goal.note-requires-clause-room
note-requires-clause-room c =
    let long = adds_long c.args.world.now.journal c.make_event.new.world.journal _ c.in_ok-make_event.ensures.added in
    let limit = adds_limit c.args.world.now.journal c.make_event.new.world.journal _ c.in_ok-make_event.ensures.added in
    omega (arith, long, limit, c.requires.room.room)

pub note-requires-2-clause-ready : goal.note-requires-2-clause-ready
note-requires-2-clause-ready c = ready_still c.note.new.world _ c.in_ok-note.ensures.sound refl refl

pub note-requires-2-clause-room : goal.note-requires-2-clause-room
note-requires-2-clause-room c =
    let next = adds_through c.make_event.new.world c.make_event.new.world c.note.new.world _ refl c.in_ok-note.ensures.ok in
    let long = adds_long c.args.world.now.journal c.make_event.new.world.journal _ c.in_ok-make_event.ensures.added in
    let limit = adds_limit c.args.world.now.journal c.make_event.new.world.journal _ c.in_ok-make_event.ensures.added in
    let longer = adds_long c.make_event.new.world.journal c.note.new.world.journal _ next in
    let same = adds_limit c.make_event.new.world.journal c.note.new.world.journal _ next in
    omega (arith, long, limit, longer, same, c.requires.room.room)

pub returns-clause-added : goal.returns-clause-added
returns-clause-added c =
    let P : ℕ → Type 0 = λ n. Adds c.args.world.now.journal c.note-2.new.world.journal (event_marks n c.args.kind.now c.args.bubbles c.args.target) in
    let dispatch = Dispatch the_host c.args.world.now.events c.args.target in
    let back = Back the_host (ValueAnswer (BoolValue true)) in
    let build = Build (Native NewEvent the_window (Str c.args.kind.now ∷ (BoolValue c.args.bubbles ∷ (BoolValue false ∷ (NullValue ∷ []))))) in
    let second = adds_through c.make_event.new.world c.make_event.new.world c.note.new.world dispatch refl c.in_ok-note.ensures.ok in
    let third = adds_through c.note.new.world c.note.new.world c.note-2.new.world back refl c.in_ok-note-2.ensures.ok in
    subst P c.requires.room.sound.events
    (adds_then c.args.world.now.journal c.make_event.new.world.journal c.note-2.new.world.journal (build ∷ []) (dispatch ∷ (back ∷ [])) c.in_ok-make_event.ensures.added
    (adds_then c.make_event.new.world.journal c.note.new.world.journal c.note-2.new.world.journal (dispatch ∷ []) (back ∷ []) second third))

pub returns-clause-same : goal.returns-clause-same
returns-clause-same c =
    let d = c.in_ok-note.ensures.ok in
    let e = c.in_ok-note-2.ensures.ok in
    let before = c.in_ok-make_event.ensures.same in
    (ap (λ (world : World). world.tree) e ∙ ap (λ (world : World). world.tree) d ∙ before.0, ap (λ (world : World). world.own) e ∙ ap (λ (world : World). world.own) d ∙ before.1)

pub returns-clause-idle : goal.returns-clause-idle
returns-clause-idle c setups h =
    let dispatch = Dispatch the_host c.args.world.now.events c.args.target in
    let back = Back the_host (ValueAnswer (BoolValue true)) in
    let second = adds_through c.make_event.new.world c.make_event.new.world c.note.new.world dispatch refl c.in_ok-note.ensures.ok in
    let third = adds_through c.note.new.world c.note.new.world c.note-2.new.world back refl c.in_ok-note-2.ensures.ok in
    idle_past setups c.note.new.world.journal c.note-2.new.world.journal back third (λ i guest. rw (host_unseen i guest) refl)
    (idle_past setups c.make_event.new.world.journal c.note.new.world.journal dispatch second (λ i guest. rw (host_unseen i guest) refl)
    (idle_past setups c.args.world.now.journal c.make_event.new.world.journal _ c.in_ok-make_event.ensures.added (λ i guest. refl) h))
