-- The errors that a rule throws, by name and message (ECMAScript, 20.5.5; Web IDL, DOMException names). The messages are this project's own.
use Rattle.std.specs.Prelude.{ℕ, List, ◌++◌, codes, nat_lt, if◌then◌else◌}
use Rattle.base_text.specs.Scalars.{utf8_len}
use Rattle.base_text.specs.declared.text.TheConstants.{TEXT_LIMIT}
use Rattle.door.specs.declared.requests.ErrorKind.{ErrorKind}
use Rattle.door.specs.declared.requests.ErrorKind.TheVariants as kind
use Rattle.js_semantics.specs.Primitives.{OpFault, Range, Kind, TooLong, NoMemory}

pub record Fault : Type 0 where
  pub name : List ℕ
  pub message : List ℕ

abbrev type_error : List ℕ → Fault
type_error message = record { name = codes "TypeError"; message = message }

abbrev range_error : List ℕ → Fault
range_error message = record { name = codes "RangeError"; message = message }

abbrev pub wrong_kind : Fault
wrong_kind = type_error (codes "wrong kind of value")

abbrev pub no_properties : Fault
no_properties = type_error (codes "no properties")

abbrev pub not_a_function : Fault
not_a_function = type_error (codes "not a function")

abbrev pub out_of_range : Fault
out_of_range = range_error (codes "out of range")

abbrev pub text_too_long : Fault
text_too_long = range_error (codes "text too long")

abbrev pub permission_denied : Fault
permission_denied = record { name = codes "Error"; message = codes "Permission denied to access property" }

abbrev pub not_defined : List ℕ → Fault
not_defined name = record { name = codes "ReferenceError"; message = name ++ codes " is not defined" }

-- an error whose message would be too long is another one
abbrev pub fitting : Fault → Fault
fitting fault = if nat_lt TEXT_LIMIT (utf8_len fault.message) then text_too_long else fault

-- why an operator gives nothing
abbrev pub operator_fault : OpFault → Fault
operator_fault Range = out_of_range
operator_fault Kind = wrong_kind
operator_fault TooLong = text_too_long
operator_fault NoMemory = text_too_long

-- why the outside refuses a request, and why a property isn't defined or removed
abbrev pub refusal_fault : ErrorKind → Fault
refusal_fault kind.Hierarchy = record { name = codes "HierarchyRequestError"; message = codes "cannot insert here" }
refusal_fault kind.NotFound = record { name = codes "NotFoundError"; message = codes "not a child" }
refusal_fault kind.InvalidState = record { name = codes "InvalidStateError"; message = codes "cannot dispatch now" }
refusal_fault kind.Syntax = record { name = codes "SyntaxError"; message = codes "bad selector" }
refusal_fault kind.InvalidCharacter = record { name = codes "InvalidCharacterError"; message = codes "bad name" }
refusal_fault kind.Limit = range_error (codes "limit reached")
refusal_fault kind.TooDeep = range_error (codes "tree too deep")
refusal_fault kind.TooLong = text_too_long
refusal_fault kind.Range = out_of_range
refusal_fault kind.Kind = wrong_kind
refusal_fault kind.Denied = permission_denied
refusal_fault (kind.Crossing message) = record { name = codes "Error"; message = message }
