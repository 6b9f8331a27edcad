-- Model of the code, on which no claim rests: the places that a state of the reading keeps.
use Rattle.std.specs.Prelude.{ℕ, ◌≤◌, Option, Some, None}
use Rattle.dom_query.specs.declared.state.Span.{Span}
use Rattle.dom_query.specs.declared.state.State.{State}
use Rattle.dom_query.specs.declared.state.State.TheVariants.{Before, Gap, Begun, Name, Whole, Opened, Attribute, Equals, Quoted, Bare, Closing}

-- in order, and not behind this place
abbrev pub IsSpan : Span → ℕ → Type 0
IsSpan w at = (w.from ≤ w.to) × (w.to ≤ at)

abbrev pub IsPlaced : State → ℕ → Type 0
IsPlaced Before at = Unit {0}
IsPlaced Gap at = Unit {0}
IsPlaced (Begun sort) at = Unit {0}
IsPlaced (Name sort from) at = from ≤ at
IsPlaced Whole at = Unit {0}
IsPlaced Opened at = Unit {0}
IsPlaced (Attribute from) at = from ≤ at
IsPlaced (Equals name) at = IsSpan name at
IsPlaced (Quoted name quote from) at = IsSpan name at × (from ≤ at)
IsPlaced (Bare name from) at = IsSpan name at × (from ≤ at)
IsPlaced (Closing name value) at = IsSpan name at × IsSpan value at

-- the state that comes next, if one does
abbrev pub IfPlaced : Option State → ℕ → Type 0
IfPlaced None at = Unit {0}
IfPlaced (Some state) at = IsPlaced state at
