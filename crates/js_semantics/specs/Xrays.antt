-- How an actor uses another's object (MDN, Xray vision). That all but plain objects and arrays are opaque, and that scripts have no right to
-- one another's objects, is this project's own.
use Rattle.std.specs.Prelude.{ℕ, Bool, true, false, List, [], Option, Some, None}
use Rattle.std.specs.Option.{option_map_or}
use Rattle.door.specs.declared.values.Look.{Look}
use Rattle.door.specs.declared.values.Look.TheVariants as look
use Rattle.door.specs.declared.values.Shape.{Shape}
use Rattle.door.specs.declared.values.Shape.TheVariants as shape
use Rattle.door.specs.declared.requests.Request.TheVariants.{Peek, PeekKeys}
use Rattle.door.specs.declared.requests.Answer.{Answer}
use Rattle.door.specs.declared.requests.Answer.TheVariants as answer
use Rattle.dom_semantics.specs.Fits.{is_look_at_keys}
use Rattle.js_semantics.specs.Places.{OBJECT_PROTOTYPE, ARRAY_PROTOTYPE}
use Rattle.js_semantics.specs.Machine.{Machine, MetObject, Reference, Foreign, Slot, Value, object_at}
use Rattle.js_semantics.specs.Solo.{Stuck}
use Rattle.js_semantics.specs.Faults.{permission_denied}
use Rattle.js_semantics.specs.Evaluator.{Rest, With, Cont, bind, choose, ask, fails_by}
use Rattle.js_semantics.specs.Meetings.{misfit, shown_row}
use Rattle.js_semantics.specs.Answers.{fits_look}

-- how an object of another is used: by an Xray that shows properties, with the place of the reader's own standard prototype above them; by one
-- that shows none; not at all; or by its owner's doing, which isn't built yet
pub data Use : Type 0 where
  Shows : (above : ℕ) → Use
  Opaque : Use
  Refused : Use
  ByOwner : Use

abbrev pub use_by_xray : Shape → Use
use_by_xray shape.Plain = Shows OBJECT_PROTOTYPE
use_by_xray shape.Array = Shows ARRAY_PROTOTYPE
use_by_xray other = Opaque

abbrev pub use_by_look : Look → Shape → Use
use_by_look look.Xray s = use_by_xray s
use_by_look look.Denied s = Refused
use_by_look other s = ByOwner

-- how what a reference names is used; what is waived is its owner's
abbrev pub use_of : Machine → Reference → Use
use_of m (Foreign k) = option_map_or (λ (object : MetObject). use_by_look object.look object.shape) (object_at m k) ByOwner
use_of m r = ByOwner

-- it is seen through an Xray
abbrev pub is_by_xray : Use → Bool
is_by_xray (Shows above) = true
is_by_xray Opaque = true
is_by_xray way = false

-- its owner does what is done to it
abbrev pub is_by_owner : Use → Bool
is_by_owner ByOwner = true
is_by_owner way = false

-- goes on where the actor has properties of its own on the object
abbrev pub with_expandos : Use → Rest → Cont → Rest
with_expandos Refused k c = fails_by permission_denied c
with_expandos ByOwner k c = misfit
with_expandos way k c = k

abbrev pub expandos_of : Option MetObject → List Slot
expandos_of object = option_map_or (λ (it : MetObject). it.slots) object []

-- ---- looks

-- a value that is shown, or none
abbrev pub look_given : Answer → With (Option Value) → Cont → Rest
look_given (answer.Value value) k c m f = shown_row value m f (bind (λ x. k (Some x)) c)
look_given answer.Absent k c m f = k None m f
look_given a k c m f = Stuck

-- a look at a property, which runs no code
abbrev pub look_of_object : Option MetObject → ℕ → List ℕ → With (Option Value) → Cont → Rest
look_of_object None j key k c = misfit
look_of_object (Some object) j key k c = ask (Peek object.owner j key) (λ a. choose (fits_look a) (look_given a k c) misfit) c

abbrev pub look_row : Reference → List ℕ → With (Option Value) → Cont → Rest
look_row (Foreign j) key k c m f = look_of_object (object_at m j) j key k c m f
look_row r key k c m f = Stuck

abbrev pub look_keys_given : Answer → With (List (List ℕ)) → Rest
look_keys_given (answer.Keys keys) k = k keys
look_keys_given a k = misfit

-- a look at the keys
abbrev pub look_keys_row : Option MetObject → ℕ → With (List (List ℕ)) → Cont → Rest
look_keys_row None j k c = misfit
look_keys_row (Some object) j k c = ask (PeekKeys object.owner j) (λ a. choose (is_look_at_keys a) (look_keys_given a k) misfit) c
