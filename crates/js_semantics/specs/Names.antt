-- Names: the innermost scope that has one, and then the global object (ECMAScript, 9.1 and 6.2.5).
use Rattle.std.specs.Prelude.{ℕ, zero, suc, ◌+◌, true, List, [], ◌∷◌, ◌++◌, Option, Some, None, length, if◌then◌else◌, is_some}
use Rattle.std.specs.Str.{bytes_eq}
use Rattle.js_semantics.specs.Machine.{Machine, Scope, Binding, Value, Refers, Property, Datum, undefined, scope_at, with_scope, global_of}
use Rattle.js_semantics.specs.Solo.{Stuck}
use Rattle.js_semantics.specs.Faults.{not_defined}
use Rattle.js_semantics.specs.Evaluator.{Gives, Ends, Meaning, Evaluator, Context, follow, fails_by}
use Rattle.js_semantics.specs.Members.{Found, Missing, Stands, Beyond, find, get_row, set_row, define_row, own_property}

-- ---- a scope's names

abbrev pub value_in : List Binding → List ℕ → Option Value
value_in [] name = None
value_in (b ∷ bindings) name = if bytes_eq b.name name then Some b.value else value_in bindings name

-- a name is given a value; one that doesn't stand is added
abbrev pub bound_in : List Binding → List ℕ → Value → List Binding
bound_in [] name value = record { name = name; value = value } ∷ []
bound_in (b ∷ bindings) name value = if bytes_eq b.name name then record { name = name; value = value } ∷ bindings else b ∷ bound_in bindings name value

-- names are declared: undefined unless they stand
abbrev pub declared_in : List Binding → List (List ℕ) → List Binding
declared_in bindings [] = bindings
declared_in bindings (name ∷ names) =
    declared_in (if is_some (value_in bindings name) then bindings else bindings ++ record { name = name; value = undefined } ∷ []) names

abbrev pub bind_in_scope : ℕ → List ℕ → Value → Option Scope → Machine → Machine
bind_in_scope s name value None m = m
bind_in_scope s name value (Some scope) m = with_scope m s (record scope { bindings = bound_in scope.bindings name value })

-- a name of a scope is given a value
abbrev pub with_name : Machine → ℕ → List ℕ → Value → Machine
with_name m s name value = bind_in_scope s name value (scope_at m s) m

-- ---- a name that is looked for

-- the scope that has it, and its value
pub record Bound : Type 0 where
  pub scope : ℕ
  pub value : Value

abbrev pub here_or_outer : Option Value → ℕ → Option ℕ → (Option ℕ → Option Bound) → Option Bound
here_or_outer (Some value) s outer rest = Some (record { scope = s; value = value })
here_or_outer None s outer rest = rest outer

abbrev pub in_scope : Option Scope → ℕ → List ℕ → (Option ℕ → Option Bound) → Option Bound
in_scope None s name rest = None
in_scope (Some scope) s name rest = here_or_outer (value_in scope.bindings name) s scope.outer rest

-- from a scope outwards, of which so many are looked at
unfoldable pub bound_within : ℕ → Machine → Option ℕ → List ℕ → Option Bound
bound_within zero m scope name = None
bound_within (suc n) m None name = None
bound_within (suc n) m (Some s) name = in_scope (scope_at m s) s name (λ outer. bound_within n m outer name)

abbrev pub bound : Machine → Option ℕ → List ℕ → Option Bound
bound m scope name = bound_within (length m.scopes + 1) m scope name

-- ---- reading and writing

-- a name that is nowhere throws (ECMAScript, 6.2.5.5)
abbrev pub missing_throws : List ℕ → Meaning
missing_throws name m f c = fails_by (not_defined name) c m f

-- .. but under `typeof`
abbrev pub missing_undefined : List ℕ → Meaning
missing_undefined name m f c = c (Gives undefined) m f

-- a name that the global object has is read by Get
abbrev pub global_name_row : Evaluator → List ℕ → Meaning → Found → Meaning
global_name_row ev name missing Missing m f c = missing m f c
global_name_row ev name missing (Stands property) m f c = get_row ev (Refers (global_of m)) name m f c
global_name_row ev name missing (Beyond r) m f c = Stuck

abbrev pub bound_name_row : Evaluator → List ℕ → Meaning → Option Bound → Meaning
bound_name_row ev name missing (Some b) m f c = c (Gives b.value) m f
bound_name_row ev name missing None m f c = find (global_of m) name (λ x m f. global_name_row ev name missing x m f c) c m f

-- a name is read (ECMAScript, 13.1.3)
abbrev pub name_row : Evaluator → (List ℕ → Meaning) → List ℕ → Context → Meaning
name_row ev missing name here m f c = bound_name_row ev name (missing name) (bound m here.scope name) m f c

abbrev pub write_global_row : Evaluator → List ℕ → Value → Found → Meaning
write_global_row ev name value Missing m f c = fails_by (not_defined name) c m f
write_global_row ev name value (Stands property) m f c = set_row ev (Refers (global_of m)) name value m f c
write_global_row ev name value (Beyond r) m f c = Stuck

abbrev pub write_bound_row : Evaluator → List ℕ → Value → Option Bound → Meaning
write_bound_row ev name value (Some b) m f c = c Ends (with_name m b.scope name value) f
write_bound_row ev name value None m f c = find (global_of m) name (λ x m f. write_global_row ev name value x m f c) c m f

-- a name is written (ECMAScript, 6.2.5.6)
abbrev pub write_name_row : Evaluator → List ℕ → Value → Context → Meaning
write_name_row ev name value here m f c = write_bound_row ev name value (bound m here.scope name) m f c

-- ---- what a body declares

-- a declared function is named in its scope, and at the top it is defined on the global object anew (ECMAScript, 9.1.1.4.18)
abbrev pub declare_row : Option ℕ → List ℕ → Value → Meaning
declare_row (Some s) name value m f c = c Ends (with_name m s name value) f
declare_row None name value m f c = define_row (global_of m) name (Datum value true true) m f c

-- at the top a `var` name is defined as undefined, unless the global object has it of its own (ECMAScript, 9.1.1.4.17)
abbrev pub declare_var_row : List ℕ → Option Property → Meaning
declare_var_row name (Some property) m f c = c Ends m f
declare_var_row name None m f c = define_row (global_of m) name (Datum undefined true true) m f c

abbrev pub declare_vars_row : List (List ℕ) → Meaning
declare_vars_row [] m f c = c Ends m f
declare_vars_row (name ∷ names) m f c = declare_var_row name (own_property m (global_of m) name) m f (follow (λ m f. declare_vars_row names m f c) c)
