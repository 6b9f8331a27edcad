-- What is shown to an actor is met: things and objects of others, in the order of meeting (this project's own). A thing that was met keeps its
-- kind, and an object its owner and shape; what is shown otherwise is no show of a run.
use Rattle.std.specs.Prelude.{ℕ, zero, suc, Bool, false, ◌&&◌, ◌==◌, List, [], ◌∷◌, ◌++◌, Option, Some, None, length, if◌then◌else◌, nat_eq}
use Rattle.door.specs.Looks.{look_of}
use Rattle.door.specs.declared.values.Actor.{Actor}
use Rattle.door.specs.declared.values.TheConstants.{PAGE}
use Rattle.door.specs.declared.values.Kind.{Kind as ThingKind}
use Rattle.door.specs.declared.values.Look.{Look}
use Rattle.door.specs.declared.values.Shape.{Shape}
use Rattle.door.specs.declared.values.Shape.TheVariants as shape
use Rattle.door.specs.declared.values.Thing.{Thing as DoorThing}
use Rattle.door.specs.declared.values.Value.{Value as DoorValue}
use Rattle.door.specs.declared.values.Value.TheVariants as door
use Rattle.door.specs.declared.zones.Zone.{Zone}
use Rattle.door.specs.declared.zones.Zone.TheVariants.{Page, XrayScript}
use Rattle.door.specs.declared.marks.StopKind.TheVariants.{Cells}
use Rattle.dom_semantics.specs.Forest.{the_host}
use Rattle.dom_semantics.specs.Things.{is_actor, is_kind}
use Rattle.js_semantics.specs.Machine.{Machine, Cell, MetThing, MetObject, Own, Thing, Foreign, Value, Refers, undefined, null, boolean, number, text, cell_at, thing_at, object_at}
use Rattle.js_semantics.specs.DoorValues.{shape_of_form}
use Rattle.js_semantics.specs.Solo.{Stuck}
use Rattle.js_semantics.specs.Evaluator.{Gives, Halts, Rest, With, Cont, Meaning, bind, choose}

-- what doesn't fit leads nowhere
abbrev pub misfit : Rest
misfit m f = Stuck

-- ---- things

-- a thing of this kind is met, and so much room stays
abbrev pub met_within : ℕ → ThingKind → Meaning
met_within room kind m f c =
    c (Gives (Refers (Thing (length m.things)))) (record m { things = m.things ++ record { kind = kind; slots = [] } ∷ []; room = room }) f

-- a new thing is met, where it's the next one
abbrev pub met_next : ℕ → DoorThing → Meaning
met_next zero thing m f c = c (Halts Cells) m f
met_next (suc room) thing m f c = choose (thing.number == length m.things) (λ m f. met_within room thing.kind m f c) misfit m f

-- a thing that was met is met again, as what it was
abbrev pub met_again : DoorThing → Option MetThing → Meaning
met_again thing None m f c = met_next m.room thing m f c
met_again thing (Some met) m f c = choose (is_kind met.kind thing.kind) (c (Gives (Refers (Thing thing.number)))) misfit m f

-- A thing that is shown: one that was met, by its place in the order of meeting, or the next one, which is met now. Where no room is
-- left it isn't met, and from then on no other one: room never grows.
abbrev pub met_row : DoorThing → Meaning
met_row thing m f c = met_again thing (thing_at m thing.number) m f c

-- ---- objects

-- The zone of another: the page's, or that of a userscript with Xrays. A script that runs among the page's own isn't told apart, since to an
-- actor that is closed the objects of either kind of userscript are denied.
abbrev zone_of_owner : Actor → Zone
zone_of_owner owner = if is_actor owner PAGE then Page else XrayScript

-- how an actor sees what another owns
abbrev pub look_at : Machine → Actor → Look
look_at m owner = look_of m.zone (zone_of_owner owner) false

-- shapes are equal where their numbers are
abbrev shape_number : Shape → ℕ
shape_number shape.Plain = 0
shape_number shape.Array = 1
shape_number shape.Function = 2
shape_number shape.Error = 3

abbrev pub is_shape : Shape → Shape → Bool
is_shape a b = nat_eq (shape_number a) (shape_number b)

-- the same of objects of others as of things
abbrev pub object_met_within : ℕ → Actor → Shape → Meaning
object_met_within room owner shape m f c =
    c (Gives (Refers (Foreign (length m.objects))))
    (record m { objects = m.objects ++ record { owner = owner; shape = shape; look = look_at m owner; slots = [] } ∷ []; room = room }) f

abbrev pub object_met_next : ℕ → Actor → ℕ → Shape → Meaning
object_met_next zero owner k shape m f c = c (Halts Cells) m f
object_met_next (suc room) owner k shape m f c = choose (k == length m.objects) (λ m f. object_met_within room owner shape m f c) misfit m f

abbrev pub object_met_again : Actor → ℕ → Shape → Option MetObject → Meaning
object_met_again owner k shape None m f c = object_met_next m.room owner k shape m f c
object_met_again owner k shape (Some met) m f c = choose (is_actor met.owner owner && is_shape met.shape shape) (c (Gives (Refers (Foreign k)))) misfit m f

abbrev pub object_met_row : Actor → ℕ → Shape → Meaning
object_met_row owner k shape m f c = object_met_again owner k shape (object_at m k) m f c

-- ---- values

-- an own cell that is shown stands at its place
abbrev pub own_shown : ℕ → Shape → Option Cell → Meaning
own_shown place shape None m f c = Stuck
own_shown place shape (Some cell) m f c = choose (is_shape (shape_of_form cell.form) shape) (c (Gives (Refers (Own place)))) misfit m f

-- an own cell goes by the host's number, and another's by that of its owner
abbrev pub cell_shown : Actor → ℕ → Shape → Meaning
cell_shown owner place shape m f c =
    choose (is_actor owner the_host) (λ m f. own_shown place shape (cell_at m place) m f c) (λ m f. object_met_row owner place shape m f c) m f

-- a value that is shown; what is waived isn't shown before scripts can reach out
abbrev pub shown_row : DoorValue → Meaning
shown_row door.Undefined m f c = c (Gives undefined) m f
shown_row door.Null m f c = c (Gives null) m f
shown_row (door.Bool b) m f c = c (Gives (boolean b)) m f
shown_row (door.Number z) m f c = c (Gives (number z)) m f
shown_row (door.Str t) m f c = c (Gives (text t)) m f
shown_row (door.Thing thing) m f c = met_row thing m f c
shown_row (door.Cell owner place shape false) m f c = cell_shown owner place shape m f c
shown_row value m f c = Stuck

-- values that are shown, in order
abbrev pub all_shown : List DoorValue → With (List Value) → Cont → Rest
all_shown [] k c m f = k [] m f
all_shown (value ∷ values) k c m f = shown_row value m f (bind (λ x m f. all_shown values (λ xs. k (x ∷ xs)) c m f) c)
