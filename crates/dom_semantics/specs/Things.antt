-- The things that each run has, and how things are told apart; this project's own.
use Rattle.std.specs.Prelude.{ℕ, Bool, ◌&&◌, nat_eq, nat_le, Option}
use Rattle.std.specs.Option.{option_map_or}
use Rattle.door.specs.declared.values.Actor.{Actor}
use Rattle.door.specs.declared.values.Kind.{Kind}
use Rattle.door.specs.declared.values.Kind.TheVariants.{Window, Document, Element, Str as StrKind, Comment, Event}
use Rattle.door.specs.declared.values.Thing.{Thing}
use Rattle.door.specs.declared.values.Value.{Value}
use Rattle.door.specs.declared.values.Value.TheVariants.{Thing as ThingValue, Null}
use Rattle.dom_semantics.specs.Forest.{Forest, Form, Root, Tagged, Written, Noted, form_at}

-- a thing of a kind, by its number (this project's own)
abbrev pub thing_of : Kind → ℕ → Thing
thing_of kind number = record { kind = kind; number = number }

-- the window, and the document, which is the first node (this project's own numbers)
abbrev pub the_window : Thing
the_window = thing_of Window 0

abbrev pub the_document : Thing
the_document = thing_of Document 0

-- kinds and things are equal where their numbers are (this project's own)
abbrev pub kind_number : Kind → ℕ
kind_number Window = 0
kind_number Document = 1
kind_number Element = 2
kind_number StrKind = 3
kind_number Comment = 4
kind_number Event = 5

abbrev pub is_kind : Kind → Kind → Bool
is_kind a b = nat_eq (kind_number a) (kind_number b)

abbrev pub is_thing : Thing → Thing → Bool
is_thing a b = is_kind a.kind b.kind && nat_eq a.number b.number

abbrev pub is_actor : Actor → Actor → Bool
is_actor a b = nat_eq a.0 b.0

-- the document, elements, texts and comments are nodes (DOM, 4.4 Interface Node)
abbrev pub is_node_kind : Kind → Bool
is_node_kind kind = nat_le 1 (kind_number kind) && nat_le (kind_number kind) 4

-- the kind of a node of this form (this project's own)
abbrev pub kind_of_form : Form → Kind
kind_of_form Root = Document
kind_of_form (Tagged tag) = Element
kind_of_form (Written text) = StrKind
kind_of_form (Noted text) = Comment

-- a node as a thing and as a value; null stands for none
abbrev pub node_thing : Forest → ℕ → Thing
node_thing f n = thing_of (kind_of_form (form_at f n)) n

abbrev pub node_value : Forest → ℕ → Value
node_value f n = ThingValue (node_thing f n)

abbrev pub node_or_null : Forest → Option ℕ → Value
node_or_null f node = option_map_or (λ n. node_value f n) node Null

abbrev pub thing_or_null : Option Thing → Value
thing_or_null thing = option_map_or (λ t. ThingValue t) thing Null
