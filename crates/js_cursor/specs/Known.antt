-- The names of a list as a set.
use Rattle.std.specs.Prelude.{◌≡◌, ℕ, List}
use Rattle.std.specs.BTreeSet.{BTreeSet, contains}
use Rattle.base_text.specs.Scalars.{text_cmp}
use Rattle.js_syntax.specs.Grammar.{is_known}

-- the set has the names of the list and no other
abbrev pub AreKnown : List (List ℕ) → BTreeSet (List ℕ) → Type 0
AreKnown found set = (name : List ℕ) → contains text_cmp set name ≡ is_known name found
