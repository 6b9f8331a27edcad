-- The one text that maps are written as (this project's own, over RFC 8259): compact, members in byte order of their keys, the scripts
-- that keep a value by namespace and then by name in byte order.
use Rattle.std.specs.Prelude.{◌==◌, ℕ, List, [], ◌∷◌, Bool, true, false, map, codes, encode_utf8_all, if◌then◌else◌}
use Rattle.std.specs.List.{flat_map, filter}
use Rattle.std.specs.FinMap.{entries, len}
use Rattle.serde_json.specs.Data.{Data, boolean, number, string, array, object, unsigned, Members, no_members, member}
use Rattle.serde_json.specs.Find.{of_integer}
use Rattle.serde_json.specs.View.{items_of}
use Rattle.serde_json.specs.Written.{compact_text}
use Rattle.dom_semantics.specs.declared.kept.Kept.{Kept}
use Rattle.dom_semantics.specs.declared.kept.Kept.TheVariants.{Str, Bool as Truth, Number}
use Rattle.gm_store.specs.Maps.{Values, Names, Maps, KeepTheSame}
use Rattle.gm_store.specs.Stored.{Loads}

-- a value as JSON
abbrev pub kept_data : Kept → Data
kept_data (Str t) = string (encode_utf8_all t)
kept_data (Truth b) = boolean b
kept_data (Number z) = number (of_integer z)

-- the values under their names; a finite map has its entries in byte order of their keys
abbrev pub members_of : List (List ℕ × Kept) → Members
members_of [] = no_members
members_of (e ∷ es) = member (encode_utf8_all e.0) (kept_data e.1) (members_of es)

-- a script: its namespace, its name and its values
abbrev pub Script : Type 0
Script = List ℕ × List ℕ × Values

-- the scripts of the maps, by namespace and then by name in byte order
abbrev pub scripts_of : Maps → List Script
scripts_of m = flat_map (λ (e : List ℕ × Names). map (λ (f : List ℕ × Values). (e.0, f.0, f.1)) (entries e.1)) (entries m)

-- the script keeps a value
abbrev pub keeps_some : Script → Bool
keeps_some s = if len s.2 == 0 then false else true

-- a script as JSON
abbrev pub script_data : Script → Data
script_data s =
    object (member (codes "name") (string (encode_utf8_all s.1)) (member (codes "namespace") (string (encode_utf8_all s.0)) (member (codes "values") (object (members_of (entries s.2))) no_members)))

-- the maps as JSON
abbrev pub stored_data : Maps → Data
stored_data m =
    object (member (codes "form") (number (unsigned 1)) (member (codes "stores") (array (items_of (map script_data (filter keeps_some (scripts_of m))))) no_members))

-- the one text of the maps
abbrev pub stored_text : Maps → List ℕ
stored_text m = compact_text (stored_data m)

-- some maps are loaded from the bytes, and whatever is loaded keeps the same as these
pub record LoadsBack (bytes : List ℕ) (m : Maps) : Type 0 where
  pub some : (n : Maps) × Loads bytes n
  pub same : (n : Maps) → Loads bytes n → KeepTheSame n m
