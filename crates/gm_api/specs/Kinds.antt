-- What the functions for userscripts ask of their arguments (Greasemonkey manual, `GM_*`; the kinds are this project's own).
use Rattle.std.specs.Prelude.{ℕ, suc, List, [], ◌∷◌, Bool, true, false, ◌&&◌, Option, Some, None, unwrap_or, slice_get, if◌then◌else◌}
use Rattle.door.specs.declared.members.Member.{Member}
use Rattle.door.specs.declared.members.Member.TheVariants.{GmLog, GmGetValue, GmSetValue, GmDeleteValue, GmListValues}
use Rattle.door.specs.declared.requests.ErrorKind.TheVariants.{Kind}
use Rattle.door.specs.declared.values.Value.{Value}
use Rattle.door.specs.declared.values.Value.TheVariants.{Undefined, Null, Bool as Truth, Number, Str}
use Rattle.gm_api.specs.declared.steps.GmStep.{GmStep}
use Rattle.gm_api.specs.declared.steps.GmStep.TheVariants.{Get, Set, Delete, Names, Line, Throw}

-- a primitive value (ECMAScript, Terms and Definitions), whose text is a name
abbrev pub is_primitive : Value → Bool
is_primitive Undefined = true
is_primitive Null = true
is_primitive (Truth b) = true
is_primitive (Number z) = true
is_primitive (Str t) = true
is_primitive _ = false

-- a text, a boolean or a number, which can be kept
abbrev pub is_storable : Value → Bool
is_storable (Truth b) = true
is_storable (Number z) = true
is_storable (Str t) = true
is_storable _ = false

-- the kinds of the first arguments of a function, and what it does where they are of these kinds
abbrev pub Row : Type 0
Row = List (Value → Bool) × GmStep

-- the table of kinds; other members have no row
abbrev pub row_of : Member → Option Row
row_of GmLog = Some ([], Line)
row_of GmListValues = Some ([], Names)
row_of GmGetValue = Some (is_primitive ∷ [], Get)
row_of GmDeleteValue = Some (is_primitive ∷ [], Delete)
row_of GmSetValue = Some (is_primitive ∷ is_storable ∷ [], Set)
row_of _ = None

-- the argument at a place; a missing one is undefined (ECMAScript, Function Calls)
abbrev pub argument : List Value → ℕ → Value
argument args at = unwrap_or (slice_get args at) Undefined

-- the arguments from a place on are of these kinds
abbrev pub are_of : List (Value → Bool) → ℕ → List Value → Bool
are_of [] at args = true
are_of (kind ∷ kinds) at args = kind (argument args at) && are_of kinds (suc at) args

-- what a row says of a call: a TypeError where there is none, or where an argument is of another kind
abbrev pub step_by : Option Row → List Value → GmStep
step_by None args = Throw Kind
step_by (Some row) args = if are_of row.0 0 args then row.1 else Throw Kind
