-- Calls and constructions (ECMAScript, 13.3.6, 13.3.5 and 10.2). Who calls has taken a level; what isn't a function is found out then.
use Rattle.std.specs.Prelude.{ℕ, List, [], Option, Some, None, codes}
use Rattle.js_semantics.specs.Places.{OBJECT_PROTOTYPE}
use Rattle.js_semantics.specs.Machine.{Machine, Cell, Form, Plain, Closure, Native, Forward, Link, Value, Primitive, Refers, Reference, Own, Foreign, WaivedForeign, undefined, cell_at}
use Rattle.js_semantics.specs.Solo.{Stuck}
use Rattle.js_semantics.specs.Faults.{not_a_function, permission_denied, wrong_kind}
use Rattle.js_semantics.specs.Evaluator.{Gives, Rest, Cont, Meaning, Evaluator, bind, choose, made, fails_by}
use Rattle.js_semantics.specs.Meetings.{misfit}
use Rattle.js_semantics.specs.Xrays.{Use, Refused, ByOwner, use_of}
use Rattle.js_semantics.specs.Members.{get_row}
use Rattle.js_semantics.specs.Functions.{closure_row}
use Rattle.js_semantics.specs.Natives.{native_row, makes_objects}

abbrev pub called_form : Evaluator → Option Form → Value → List Value → Meaning
called_form ev (Some (Closure code scope)) this arguments m f c = closure_row ev code scope this arguments m f c
called_form ev (Some (Native builtin)) this arguments m f c = native_row ev builtin this arguments m f c
called_form ev (Some (Forward owner callee)) this arguments m f c = Stuck
called_form ev (Some (Link r)) this arguments m f c = Stuck
called_form ev form this arguments m f c = fails_by not_a_function c m f

abbrev pub form_of_cell : Option Cell → Option Form
form_of_cell None = None
form_of_cell (Some cell) = Some cell.form

-- what a value is, that a call finds
abbrev pub form_of : Machine → Value → Option Form
form_of m (Refers (Own place)) = form_of_cell (cell_at m place)
form_of m value = None

-- an object of another is called by its owner alone; by an Xray it's no function
abbrev pub others_called : Use → Cont → Rest
others_called Refused c = fails_by permission_denied c
others_called ByOwner c = misfit
others_called way c = fails_by not_a_function c

-- a value is called (7.3.14); what its owner would have to do isn't built yet
abbrev pub called_row : Evaluator → Value → Value → List Value → Meaning
called_row ev (Refers (Foreign j)) this arguments m f c = others_called (use_of m (Foreign j)) c m f
called_row ev (Refers (WaivedForeign j)) this arguments m f c = Stuck
called_row ev callee this arguments m f c = called_form ev (form_of m callee) this arguments m f c

-- the prototype that `new` gives
abbrev pub new_prototype : Value → Reference
new_prototype (Refers r) = r
new_prototype (Primitive prim) = Own OBJECT_PROTOTYPE

-- what `new` gives: the call's value, where it's a reference
abbrev pub new_value : ℕ → Value → Value
new_value place (Refers r) = Refers r
new_value place (Primitive prim) = Refers (Own place)

-- a plain object is made with the function's prototype, and the function is called on it (10.2.2)
abbrev pub new_closure_row : Evaluator → Value → List Value → Meaning
new_closure_row ev callee arguments m f c =
    get_row ev callee (codes "prototype") m f (bind (λ its. made (record { form = Plain; prototype = Some (new_prototype its); slots = [] }) (λ place m f.
    called_row ev callee (Refers (Own place)) arguments m f (bind (λ value. c (Gives (new_value place value))) c)) c) c)

abbrev pub constructed_form : Evaluator → Option Form → Value → List Value → Meaning
constructed_form ev (Some (Closure code scope)) callee arguments m f c = new_closure_row ev callee arguments m f c
constructed_form ev (Some (Native builtin)) callee arguments m f c =
    choose (makes_objects builtin) (λ m f. called_row ev callee undefined arguments m f c) (fails_by wrong_kind c) m f
constructed_form ev (Some (Forward owner place)) callee arguments m f c = Stuck
constructed_form ev (Some (Link r)) callee arguments m f c = Stuck
constructed_form ev form callee arguments m f c = fails_by not_a_function c m f

-- `new`: a built-in that makes objects is only called (7.3.15)
abbrev pub constructed_row : Evaluator → Value → List Value → Meaning
constructed_row ev (Refers (Foreign j)) arguments m f c = others_called (use_of m (Foreign j)) c m f
constructed_row ev (Refers (WaivedForeign j)) arguments m f c = Stuck
constructed_row ev callee arguments m f c = constructed_form ev (form_of m callee) callee arguments m f c
