-- The stored form 1 (this project's own, over RFC 8259): an object of exactly `form`, which is 1, and `stores`, an array with an
-- object of exactly `name`, `namespace` and `values` for each script.
use Rattle.std.specs.Prelude.{◌≡◌, ◌≤◌, ℕ, List, codes, Option, Some, None, false, encode_utf8_all}
use Rattle.std.specs.Str.{IsUtf8}
use Rattle.std.specs.FinMap.{empty, insert, contains_key}
use Rattle.serde_json.specs.Data.{Num, Data, null, boolean, number, string, array, object, unsigned, Items, no_items, item, Members, no_members, member}
use Rattle.serde_json.specs.Find.{get, as_integer}
use Rattle.serde_json.specs.Events.{members_len}
use Rattle.serde_json.specs.Read.{read}
use Rattle.dom_semantics.specs.declared.kept.Kept.{Kept}
use Rattle.dom_semantics.specs.declared.kept.Kept.TheVariants.{Str, Bool as Truth, Number}
use Rattle.dom_semantics.specs.declared.kept.TheConstants.{VALUE_LIMIT}
use Rattle.gm_store.specs.declared.stores.StoreKind.{StoreKind}
use Rattle.gm_store.specs.declared.stores.StoreKind.TheVariants.{NotJson, BadShape}
use Rattle.gm_store.specs.Limits.{IsShort, IsSafe}
use Rattle.gm_store.specs.Maps.{Values, Maps, names_in, with_values}

-- the bytes are a JSON text of this value, by the reading of `serde_json`: of a key that comes twice the last value counts
abbrev pub IsTextOf : List ℕ → Data → Type 0
IsTextOf bytes d = IsUtf8 bytes × (read bytes ≡ Some d)

-- a text, boolean or number that is written as a whole one, within the limits
abbrev pub IsKept : Data → Kept → Type 0
IsKept d (Str t) = (d ≡ string (encode_utf8_all t)) × IsShort t
IsKept d (Truth b) = d ≡ boolean b
IsKept d (Number z) = (n : Num) × (d ≡ number n) × (as_integer n ≡ Some z) × IsSafe z

-- the members, put into the old values one after another, give the new ones
abbrev pub PutsMembers : Members → Values → Values → Type 0
PutsMembers no_members old new = new ≡ old
PutsMembers (member k d ms) old new =
    (key : List ℕ) × (v : Kept) × (k ≡ encode_utf8_all key) × IsShort key × IsKept d v × PutsMembers ms (insert old key v) new

-- the members are the values of a script
abbrev pub AreValues : Members → Values → Type 0
AreValues ms values = (members_len ms ≤ VALUE_LIMIT) × PutsMembers ms empty values

-- the member `values` of the object is an object of the values of a script
abbrev pub HasValues : Data → Values → Type 0
HasValues d values = (kept : Members) × (get (codes "values") d ≡ Some (object kept)) × AreValues kept values

-- how many members an object has
abbrev pub member_count : Data → Option ℕ
member_count null = None
member_count (boolean b) = None
member_count (number n) = None
member_count (string s) = None
member_count (array ds) = None
member_count (object ms) = Some (members_len ms)

-- the object is a script of this namespace and name, with these values
pub record IsScript (d : Data) (namespace name : List ℕ) (values : Values) : Type 0 where
  pub count : member_count d ≡ Some 3
  pub namespace_is : get (codes "namespace") d ≡ Some (string (encode_utf8_all namespace))
  pub namespace_short : IsShort namespace
  pub name_is : get (codes "name") d ≡ Some (string (encode_utf8_all name))
  pub name_short : IsShort name
  pub values_are : HasValues d values

-- the object adds its script, of which the old maps have none
pub record AddsScript (d : Data) (old new : Maps) : Type 0 where
  pub namespace : List ℕ
  pub name : List ℕ
  pub values : Values
  pub script : IsScript d namespace name values
  pub apart : contains_key (names_in old namespace) name ≡ false
  pub new_is : new ≡ with_values old namespace name values

-- the objects add their scripts, one after another
abbrev pub AddsScripts : Items → Maps → Maps → Type 0
AddsScripts no_items old new = new ≡ old
AddsScripts (item d ds) old new = (mid : Maps) × AddsScript d old mid × AddsScripts ds mid new

-- the JSON value is of the stored form, and these are its maps
pub record IsStored (d : Data) (m : Maps) : Type 0 where
  pub count : member_count d ≡ Some 2
  pub form : get (codes "form") d ≡ Some (number (unsigned 1))
  pub stores : Items
  pub stores_is : get (codes "stores") d ≡ Some (array stores)
  pub scripts : AddsScripts stores empty m

-- the bytes are a text of the stored form, and these are its maps
abbrev pub Loads : List ℕ → Maps → Type 0
Loads bytes m = (d : Data) × IsTextOf bytes d × IsStored d m

-- why bytes aren't loaded: they are no JSON text, or that of a JSON value which isn't of the stored form
abbrev pub IsRefused : List ℕ → StoreKind → Type 0
IsRefused bytes NotJson = ¬ ((d : Data) × IsTextOf bytes d)
IsRefused bytes BadShape = (d : Data) × IsTextOf bytes d × ¬ ((m : Maps) × IsStored d m)
