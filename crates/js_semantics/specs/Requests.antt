-- How a member of the outside is asked for, and what follows its answer (Web IDL, Interfaces; Console Standard; Greasemonkey manual). What an answer
-- may be is told by the table of requests.
use Rattle.std.specs.Prelude.{ℕ, zero, suc, Bool, true, false, ◌&&◌, List, [], ◌∷◌, ◌++◌, nat_lt, ℤ, codes}
use Rattle.base_text.specs.Scalars.{utf8_len}
use Rattle.base_text.specs.declared.text.TheConstants.{TEXT_LIMIT}
use Rattle.door.specs.declared.values.TheConstants.{PAGE}
use Rattle.door.specs.declared.values.Thing.{Thing as DoorThing}
use Rattle.door.specs.declared.values.Value.{Value as DoorValue}
use Rattle.door.specs.declared.values.Value.TheVariants as door
use Rattle.door.specs.declared.members.Member.{Member}
use Rattle.door.specs.declared.requests.Request.TheVariants.{Native as NativeRequest}
use Rattle.door.specs.declared.requests.Answer.{Answer}
use Rattle.door.specs.declared.requests.Answer.TheVariants as answer
use Rattle.dom_semantics.specs.Fits.{Receiver, OfWindow, OfTarget, is_receiver}
use Rattle.dom_semantics.specs.Things.{thing_of, the_window as window_thing}
use Rattle.js_semantics.specs.Primitives.{Undefined, NumberPrim, StrPrim, text_of}
use Rattle.js_semantics.specs.Machine.{Machine, Own, Thing, WaivedThing, Value, Primitive, Refers, undefined, global_of}
use Rattle.js_semantics.specs.DoorValues.{kind_at}
use Rattle.js_semantics.specs.Solo.{Stuck}
use Rattle.js_semantics.specs.Faults.{wrong_kind, text_too_long, refusal_fault}
use Rattle.js_semantics.specs.Evaluator.{Gives, Rest, With, Cont, Meaning, choose, charge, text_units, made, ask, fails_by}
use Rattle.js_semantics.specs.Meetings.{misfit, shown_row, all_shown}
use Rattle.js_semantics.specs.Answers.{fits_member}
use Rattle.js_semantics.specs.Operations.{is_same_reference}
use Rattle.js_semantics.specs.Expressions.{array_cell}

-- ---- texts

-- a text that is made: it's charged, unless it is too long
abbrev pub text_made : List ℕ → With (List ℕ) → Cont → Rest
text_made t k c = choose (nat_lt TEXT_LIMIT (utf8_len t)) (fails_by text_too_long c) (charge (text_units t) (k t) c)

-- a text argument: a text is handed on, and another primitive's is made
abbrev pub text_argument : Value → With (List ℕ) → Cont → Rest
text_argument (Primitive (StrPrim t)) k c = k t
text_argument (Primitive prim) k c = text_made (text_of prim) k c
text_argument (Refers r) k c = fails_by wrong_kind c

-- goes on with a number
abbrev pub number_argument : Value → With ℤ → Cont → Rest
number_argument (Primitive (NumberPrim z)) k c = k z
number_argument value k c = fails_by wrong_kind c

abbrev pub argument : List Value → ℕ → Value
argument [] n = undefined
argument (value ∷ values) zero = value
argument (value ∷ values) (suc n) = argument values n

-- ---- answers

-- What an answer gives: a value, an array of values, of which what is new is met before the array is made, or, where there is no value, this in
-- its place; or a throw.
abbrev pub given_row : Value → Answer → Meaning
given_row missing (answer.Throw reason) m f c = fails_by (refusal_fault reason) c m f
given_row missing (answer.Value value) m f c = shown_row value m f c
given_row missing (answer.List values) m f c =
    all_shown values (λ xs m f. made (array_cell xs) (λ place. c (Gives (Refers (Own place)))) c m f) c m f
given_row missing answer.Absent m f c = c (Gives missing) m f
given_row missing a m f c = Stuck

-- an answer that the member's row of the table has
abbrev pub answered_row : Member → Value → Answer → Meaning
answered_row name missing a m f c = choose (fits_member name a) (λ m f. given_row missing a m f c) misfit m f

-- a request, and what its answer gives
abbrev pub request_row : Member → DoorThing → List DoorValue → Value → Meaning
request_row name thing values missing m f c = ask (NativeRequest name thing values) (λ a m f. answered_row name missing a m f c) c m f

-- ---- what a member is asked of

-- it must be a thing of the interface (Web IDL, Attributes, Operations)
abbrev pub of_interface : Receiver → DoorThing → With DoorThing → Cont → Rest
of_interface receiver thing k c = choose (is_receiver PAGE receiver thing) (k thing) (fails_by wrong_kind c)

-- a waived thing counts as its thing
abbrev pub this_thing : Receiver → Value → With DoorThing → Cont → Rest
this_thing receiver (Refers (Thing j)) k c m f = of_interface receiver (thing_of (kind_at m j) j) k c m f
this_thing receiver (Refers (WaivedThing j)) k c m f = of_interface receiver (thing_of (kind_at m j) j) k c m f
this_thing receiver value k c m f = fails_by wrong_kind c m f

abbrev pub is_global : Machine → Value → Bool
is_global m (Primitive Undefined) = true
is_global m (Primitive prim) = false
is_global m (Refers r) = is_same_reference r (global_of m)

-- for members of Window and EventTarget undefined and the global object are the window
abbrev pub takes_global : Receiver → Bool
takes_global OfWindow = true
takes_global OfTarget = true
takes_global receiver = false

abbrev pub window_or : Bool → Receiver → Value → With DoorThing → Cont → Rest
window_or true receiver value k c = k window_thing
window_or false receiver value k c = this_thing receiver value k c

abbrev pub receiver_row : Receiver → Value → With DoorThing → Cont → Rest
receiver_row receiver value k c m f = window_or (takes_global receiver && is_global m value) receiver value k c m f

-- ---- the log

abbrev pub log_text : Value → List ℕ
log_text (Primitive prim) = text_of prim
log_text (Refers r) = codes "[object]"

abbrev pub spaced : List ℕ → List Value → List ℕ
spaced front [] = front
spaced front (value ∷ values) = spaced (front ++ (codes " " ++ log_text value)) values

-- the texts of the values with a space between (Console Standard, 2.3)
abbrev pub log_texts : List Value → List ℕ
log_texts [] = []
log_texts (value ∷ values) = spaced (log_text value) values

abbrev pub log_row : Member → List Value → Meaning
log_row name values m f c = text_made (log_texts values) (λ t m f. request_row name window_thing (door.Str t ∷ []) undefined m f c) c m f
