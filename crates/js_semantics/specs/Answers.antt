-- Which answers a machine takes, and what it takes of them: those of the table of requests alone (this project's own in form). An own cell goes
-- by its place, so whose it is isn't looked at.
use Rattle.std.specs.Prelude.{Bool, true, false, not, ◌&&◌}
use Rattle.std.specs.List.{list_all, list_any}
use Rattle.door.specs.declared.values.TheConstants.{PAGE}
use Rattle.door.specs.declared.values.Value.{Value as DoorValue}
use Rattle.door.specs.declared.values.Value.TheVariants as door
use Rattle.door.specs.declared.members.Member.{Member}
use Rattle.door.specs.declared.requests.Answer.{Answer}
use Rattle.door.specs.declared.requests.Answer.TheVariants as answer
use Rattle.dom_semantics.specs.Fits.{Sort, Crossed, Shape, One, Each, OneOrAbsent, Signature, signature, is_error, is_of_sort, is_undefined, is_waived, is_within_limits}

-- a value that crosses to its reader
abbrev pub is_crossed : DoorValue → Bool
is_crossed (door.Cell owner place shape waived) = not waived
is_crossed value = is_within_limits value && not (is_waived value)

-- no answer has a callback, so of whom the table is asked makes no difference
abbrev pub fits_sort : Sort → DoorValue → Bool
fits_sort Crossed value = is_crossed value && not (is_undefined value)
fits_sort sort value = is_of_sort PAGE sort value

abbrev pub fits_shape : Shape → Answer → Bool
fits_shape (One sort) (answer.Value value) = fits_sort sort value
fits_shape (OneOrAbsent sort) (answer.Value value) = fits_sort sort value
fits_shape (OneOrAbsent sort) answer.Absent = true
fits_shape (Each sort) (answer.List values) = list_all (fits_sort sort) values
fits_shape shape a = false

-- a refusal that the member has, or a value of its shape
abbrev pub fits_signature : Signature → Answer → Bool
fits_signature s (answer.Throw reason) = list_any (is_error reason) s.refusals
fits_signature s a = fits_shape s.result a

-- an answer of a member
abbrev pub fits_member : Member → Answer → Bool
fits_member name a = fits_signature (signature name) a

-- what a look at a property is answered: its value as the reader gets it, or that there is none
abbrev pub fits_look : Answer → Bool
fits_look (answer.Value value) = is_crossed value
fits_look answer.Absent = true
fits_look a = false
