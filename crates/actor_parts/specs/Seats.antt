-- What the cells of the heap are to the machines of their owners, and by which names they go there (ECMAScript, 6.1.7 and 9.1.1.1; that
-- scopes, met things and met objects go by the order of their cells is this project's own).
use Rattle.std.specs.Prelude.{ℕ, Bool, true, false, ◌==◌, ◌&&◌, List, Option, Some, None, slice_get, map, filter, take, length}
use Rattle.std.specs.List.{position_or_len}
use Rattle.std.specs.Option.{unwrap_or}
use Rattle.door.specs.declared.values.Actor.{Actor}
use Rattle.door.specs.declared.values.Look.{Look}
use Rattle.door.specs.declared.values.Look.TheVariants as looks
use Rattle.door.specs.declared.values.Shape.{Shape}
use Rattle.door.specs.declared.values.Shape.TheVariants as shapes
use Rattle.js_semantics.specs.Builtin.{Builtin}
use Rattle.js_semantics.specs.Machine as m
use Rattle.js_semantics.specs.Machine.{Reference}
use Rattle.js_objects.specs.declared.values.Form.{Form}
use Rattle.js_objects.specs.declared.values.Form.TheVariants as f
use Rattle.js_objects.specs.declared.cell.Cell.{Cell}
use Rattle.js_objects.specs.Naming.{Names}
use Rattle.js_objects.specs.Heaps.{Store}

-- ---- what a cell is to the machine of its owner

-- a proper cell, a scope, a thing that was met, or an object of another that was met
pub data Role : Type 0 where
  Proper : Role
  Scoped : Role
  Met : Role
  Linked : Role

abbrev pub role_of : Form → Role
role_of f.Scope = Scoped
role_of (f.Thing thing) = Met
role_of (f.Link owner c look) = Linked
role_of form = Proper

abbrev pub is_role : Role → Role → Bool
is_role Proper Proper = true
is_role Scoped Scoped = true
is_role Met Met = true
is_role Linked Linked = true
is_role role other = false

-- the shape of an object as others see it
abbrev pub shape_of : Form → Shape
shape_of f.Array = shapes.Array
shape_of (f.Function code scope) = shapes.Function
shape_of (f.Native n) = shapes.Function
shape_of (f.Error name message) = shapes.Error
shape_of (f.Link owner c look) = shapes.Function
shape_of (f.Forward owner c) = shapes.Function
shape_of form = shapes.Plain

-- ---- what a cell's name depends on: it is changed by `give_place` alone

pub record Seat : Type 0 where
  pub owner : ℕ
  pub form : Form
  pub place : Option ℕ

abbrev pub seat_of : Cell → Seat
seat_of x = record { owner = x.owner.0; form = x.form; place = x.place }

unfoldable pub seats : Store → List Seat
seats h = map seat_of h.cells

abbrev pub is_seat : Role → ℕ → Seat → Bool
is_seat role i s = s.owner == i && is_role (role_of s.form) role

-- how many cells of this role its owner has before a cell
abbrev pub rank : Role → ℕ → ℕ → List Seat → ℕ
rank role i n s = length (filter (is_seat role i) (take n s))

-- ---- names

-- an object of another that was met, and the same as its owner has it (MDN, waiving)
abbrev pub link_named : Look → ℕ → Reference
link_named looks.Waived k = m.WaivedForeign k
link_named look k = m.Foreign k

-- nothing refers to a scope, nor to a proper cell that has no place yet
abbrev pub form_named : Form → Option ℕ → ℕ → Reference
form_named (f.Thing thing) place k = m.Thing k
form_named (f.Link owner c look) place k = link_named look k
form_named form place k = m.Own (unwrap_or place 0)

abbrev pub seat_named : List Seat → ℕ → Option Seat → Reference
seat_named s n None = m.Own 0
seat_named s n (Some seat) = form_named seat.form seat.place (rank (role_of seat.form) seat.owner n s)

abbrev pub seat_place : Option Seat → ℕ
seat_place None = 0
seat_place (Some seat) = unwrap_or seat.place 0

abbrev pub seat_scope : List Seat → ℕ → Option Seat → ℕ
seat_scope s n None = 0
seat_scope s n (Some seat) = rank Scoped seat.owner n s

abbrev pub seat_shape : Option Seat → Shape
seat_shape None = shapes.Plain
seat_shape (Some seat) = shape_of seat.form

-- what a value names
unfoldable pub reference_at : List Seat → ℕ → Reference
reference_at s n = seat_named s n (slice_get s n)

-- a cell by its place
unfoldable pub place_at : List Seat → ℕ → ℕ
place_at s n = seat_place (slice_get s n)

-- a scope
unfoldable pub scope_at : List Seat → ℕ → ℕ
scope_at s n = seat_scope s n (slice_get s n)

abbrev pub is_look : Look → Look → Bool
is_look looks.Own looks.Own = true
is_look looks.Xray looks.Xray = true
is_look looks.Transparent looks.Transparent = true
is_look looks.Denied looks.Denied = true
is_look looks.Waived looks.Waived = true
is_look look other = false

abbrev pub is_link : ℕ → ℕ → Look → Form → Bool
is_link owner n look (f.Link a c l) = a.0 == owner && (c.0 == n && is_look l look)
is_link owner n look form = false

-- the reader's link to another's cell, as it sees it
unfoldable pub link_at : List Seat → Actor → Actor → ℕ → Look → Reference
link_at s reader owner n look = reference_at s (position_or_len (λ (seat : Seat). seat.owner == reader.0 && is_link owner.0 n look seat.form) s)

-- the shape of what a link stands for
unfoldable pub shape_at : List Seat → ℕ → Shape
shape_at s n = seat_shape (slice_get s n)

-- how the cells are named; the table of the built-in functions is a parameter
abbrev pub names_by : (ℕ → Builtin) → List Seat → Names
names_by builtins s = record { reference = reference_at s; place = place_at s; scope = scope_at s; builtin = builtins; link = link_at s }

abbrev pub names_of : (ℕ → Builtin) → Store → Names
names_of builtins h = names_by builtins (seats h)
