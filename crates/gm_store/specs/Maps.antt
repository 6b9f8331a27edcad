-- What userscripts keep, as finite maps: from namespaces to names of scripts to names of values (this project's own).
use Rattle.std.specs.Prelude.{◌≡◌, ℕ, List, Option, unwrap_or, if◌then◌else◌}
use Rattle.std.specs.FinMap.{FinMap, empty, get, insert, remove, contains_key}
use Rattle.base_text.specs.Scalars.{text_cmp}
use Rattle.dom_semantics.specs.declared.kept.Kept.{Kept}

-- the values of one script, by their names
abbrev pub Values : Type 0
Values = FinMap text_cmp Kept

-- the values of the scripts of one namespace, by the names of the scripts
abbrev pub Names : Type 0
Names = FinMap text_cmp Values

-- the values of all scripts, by namespaces
abbrev pub Maps : Type 0
Maps = FinMap text_cmp Names

-- the scripts of a namespace
abbrev pub names_in : Maps → List ℕ → Names
names_in m namespace = unwrap_or (get m namespace) empty

-- the values of a script; none where nothing is kept for it
abbrev pub values_in : Maps → List ℕ → List ℕ → Values
values_in m namespace name = unwrap_or (get (names_in m namespace) name) empty

-- the value that a script keeps under a name
abbrev pub value_at : Maps → List ℕ → List ℕ → List ℕ → Option Kept
value_at m namespace name key = get (values_in m namespace name) key

-- these values for the script, and those of every other script as before
abbrev pub with_values : Maps → List ℕ → List ℕ → Values → Maps
with_values m namespace name values = insert m namespace (insert (names_in m namespace) name values)

-- this value under the name, and every other value as before
abbrev pub with_value : Maps → List ℕ → List ℕ → List ℕ → Kept → Maps
with_value m namespace name key v = with_values m namespace name (insert (values_in m namespace name) key v)

-- no value under the name, and every other value as before; nothing changes where there was none
abbrev pub without_value : Maps → List ℕ → List ℕ → List ℕ → Maps
without_value m namespace name key =
    if contains_key (values_in m namespace name) key then with_values m namespace name (remove (values_in m namespace name) key) else m

-- each script has the same values in both
abbrev pub KeepTheSame : Maps → Maps → Type 0
KeepTheSame m n = (namespace name : List ℕ) → values_in m namespace name ≡ values_in n namespace name
