-- Scaffolding of the proof of the writing, in the order in which the code writes; no claim rests on it.
use Rattle.std.specs.Prelude.{◌==◌, ℕ, List, [], ◌∷◌, ◌++◌, map, codes, encode_utf8_all, if◌then◌else◌}
use Rattle.std.specs.FinMap.{entries, len}
use Rattle.serde_json.specs.Data.{Data, number, string, array, object, unsigned, Members, no_members, member, put}
use Rattle.serde_json.specs.View.{view, items_of}
use Rattle.serde_json.specs.declared.value.Value.{Value}
use Rattle.dom_semantics.specs.declared.kept.Kept.{Kept}
use Rattle.gm_store.specs.Maps.{Values, Names, Maps}
use Rattle.gm_store.specs.Written.{kept_data}

-- what each value stands for
abbrev pub views : List Value → List Data
views vs = map view vs

-- the members with the values put into them
abbrev pub values_members : List (List ℕ × Kept) → Members → Members
values_members [] ms = ms
values_members (e ∷ es) ms = values_members es (put (encode_utf8_all e.0) (kept_data e.1) ms)

abbrev pub script_model : List ℕ → List ℕ → Values → Data
script_model namespace name values =
    object (member (codes "name") (string (encode_utf8_all name)) (member (codes "namespace") (string (encode_utf8_all namespace)) (member (codes "values") (object (values_members (entries values) no_members)) no_members)))

-- the scripts of a namespace that keep a value
abbrev pub names_model : List ℕ → List (List ℕ × Values) → List Data
names_model namespace [] = []
names_model namespace (e ∷ es) =
    if len e.1 == 0 then names_model namespace es else script_model namespace e.0 e.1 ∷ names_model namespace es

abbrev pub scripts_model : List (List ℕ × Names) → List Data
scripts_model [] = []
scripts_model (e ∷ es) = names_model e.0 (entries e.1) ++ scripts_model es

abbrev pub stored_model : Maps → Data
stored_model m = object (member (codes "form") (number (unsigned 1)) (member (codes "stores") (array (items_of (scripts_model (entries m)))) no_members))
