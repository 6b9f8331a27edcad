-- Where the built-ins stand before anything, and what the scripts among them do, computed by the definitions alone.
use Rattle.std.specs.Prelude.{◌≡◌, ℕ, List, [], ◌∷◌, Some, true, false, codes}
use Rattle.door.specs.declared.marks.Outcome.TheVariants.{Done}
use Rattle.js_syntax.specs.declared.tree.Expr.TheVariants as ex
use Rattle.js_semantics.specs.Machine.{Own, Thing, Refers, Datum}
use Rattle.js_semantics.specs.Members.{own_property}
use Rattle.js_semantics.specs.Places.{OBJECT_PROTOTYPE, FUNCTION_PROTOTYPE, ARRAY_PROTOTYPE, STRING_PROTOTYPE, NUMBER_PROTOTYPE, BOOLEAN_PROTOTYPE, ERROR_PROTOTYPE, DOCUMENT_PROTOTYPE, ELEMENT_PROTOTYPE, CHARACTER_DATA_PROTOTYPE, WINDOW_PROTOTYPE, EVENT_PROTOTYPE}
use Rattle.js_semantics.specs.Intrinsics.{fresh}
use Rattle.js_semantics.specs.Programs.{Does, the_page, n, name, do_, say, call, member, lambda}

-- the global of this name is a function with the prototype at this place
abbrev IsPrototype : List ℕ → ℕ → Type 0
IsPrototype key place = (constructor : ℕ)
    × (own_property (fresh the_page) (Thing 0) key ≡ Some (Datum (Refers (Own constructor)) true false))
    × (own_property (fresh the_page) (Own constructor) (codes "prototype") ≡ Some (Datum (Refers (Own place)) true false))
    × (own_property (fresh the_page) (Own place) (codes "constructor") ≡ Some (Datum (Refers (Own constructor)) true false))

-- each prototype that a rule names stands at its place
pub record Beginnings : Type 0 where
  pub objects : IsPrototype (codes "Object") OBJECT_PROTOTYPE
  pub functions : IsPrototype (codes "Function") FUNCTION_PROTOTYPE
  pub arrays : IsPrototype (codes "Array") ARRAY_PROTOTYPE
  pub texts : IsPrototype (codes "String") STRING_PROTOTYPE
  pub numbers : IsPrototype (codes "Number") NUMBER_PROTOTYPE
  pub booleans : IsPrototype (codes "Boolean") BOOLEAN_PROTOTYPE
  pub errors : IsPrototype (codes "Error") ERROR_PROTOTYPE
  pub documents : IsPrototype (codes "Document") DOCUMENT_PROTOTYPE
  pub elements : IsPrototype (codes "Element") ELEMENT_PROTOTYPE
  pub character_data : IsPrototype (codes "CharacterData") CHARACTER_DATA_PROTOTYPE
  pub windows : IsPrototype (codes "Window") WINDOW_PROTOTYPE
  pub events : IsPrototype (codes "Event") EVENT_PROTOTYPE
  -- [1, 2].forEach(function (x) { console.log(x); });
  pub for_each : Does 70 14 (do_ (call (member (ex.Array (n 1 ∷ n 2 ∷ [])) (codes "forEach")) (lambda (codes "x" ∷ []) (say (name (codes "x")) ∷ []) ∷ [])) ∷ [])
      (codes "1" ∷ codes "2" ∷ []) Done 61
  -- console.log([1, 2].join("-"));
  pub join : Does 110 14 (say (call (member (ex.Array (n 1 ∷ n 2 ∷ [])) (codes "join")) (ex.Str (codes "-") ∷ [])) ∷ []) (codes "1-2" ∷ []) Done 99
