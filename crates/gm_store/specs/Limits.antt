-- The limits of what is kept (this project's own).
use Rattle.std.specs.Prelude.{◌≤◌, ◌≤ℤ◌, neg_ℤ, ℕ, ℤ, List, [], ◌∷◌, ⊤}
use Rattle.std.specs.FinMap.{entries, len}
use Rattle.base_text.specs.Scalars.{utf8_len}
use Rattle.base_text.specs.declared.number.TheConstants.{MAX_SAFE_INTEGER}
use Rattle.base_text.specs.declared.text.TheConstants.{TEXT_LIMIT}
use Rattle.dom_semantics.specs.declared.kept.Kept.{Kept}
use Rattle.dom_semantics.specs.declared.kept.Kept.TheVariants.{Str, Bool as Truth, Number}
use Rattle.dom_semantics.specs.declared.kept.TheConstants.{VALUE_LIMIT}
use Rattle.gm_store.specs.Maps.{Values, Names}

-- a text within the limit of texts
abbrev pub IsShort : List ℕ → Type 0
IsShort t = utf8_len t ≤ TEXT_LIMIT

-- from -(2^53 - 1) to 2^53 - 1, the safe integers (ECMAScript, Number.MAX_SAFE_INTEGER)
abbrev pub IsSafe : ℤ → Type 0
IsSafe z = (neg_ℤ MAX_SAFE_INTEGER ≤ℤ z) × (z ≤ℤ MAX_SAFE_INTEGER)

-- a value within the limits
abbrev pub KeptFits : Kept → Type 0
KeptFits (Str t) = IsShort t
KeptFits (Truth b) = ⊤
KeptFits (Number z) = IsSafe z

-- names and values within the limits
abbrev pub ValuesFit : List (List ℕ × Kept) → Type 0
ValuesFit [] = ⊤
ValuesFit (e ∷ es) = IsShort e.0 × KeptFits e.1 × ValuesFit es

-- names of scripts, and what each script keeps, within the limits
abbrev pub NamesFit : List (List ℕ × Values) → Type 0
NamesFit [] = ⊤
NamesFit (e ∷ es) = IsShort e.0 × ValuesFit (entries e.1) × (len e.1 ≤ VALUE_LIMIT) × NamesFit es

-- namespaces, and what is kept in each, within the limits
abbrev pub MapsFit : List (List ℕ × Names) → Type 0
MapsFit [] = ⊤
MapsFit (e ∷ es) = IsShort e.0 × NamesFit (entries e.1) × MapsFit es
