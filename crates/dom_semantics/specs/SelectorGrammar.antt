-- How a selector is spelled (this project's own, after Selectors Level 4, 18 Grammar: lists of complex selectors with the descendant
-- combinator alone). In each relation the first text begins with what is spelled, and the second is what follows it.
use Rattle.std.specs.Prelude.{◌≡◌, ℕ, true, false, ◌==◌, List, [], ◌∷◌, Option, Some, None}
use Rattle.dom_semantics.specs.declared.selectors.Compound.{Compound}
use Rattle.dom_semantics.specs.declared.selectors.Part.{Part}
use Rattle.dom_semantics.specs.declared.selectors.Part.TheVariants.{Id, Class, Has, Is}
use Rattle.dom_semantics.specs.declared.selectors.TagTest.{TagTest}
use Rattle.dom_semantics.specs.declared.selectors.TagTest.TheVariants.{Any, Named}
use Rattle.dom_semantics.specs.SelectorNames.{Scalars, NotNext, is_name_scalar}
use Rattle.dom_semantics.specs.Whitespace.{is_white_space}

-- white space, or none
pub data Blanks : Scalars → Scalars → Type 0 where
  no_blank : (rest : Scalars) → Blanks rest rest
  blank : (c : ℕ) (text rest : Scalars) → is_white_space c ≡ true → Blanks text rest → Blanks (c ∷ text) rest

-- a name: one or more scalars of names, as many as stand there
pub data Name : Scalars → Scalars → Scalars → Type 0 where
  last_scalar : (c : ℕ) (rest : Scalars) → is_name_scalar c ≡ true → NotNext is_name_scalar rest → Name (c ∷ []) (c ∷ rest) rest
  scalar : (c : ℕ) (name text rest : Scalars) → is_name_scalar c ≡ true → Name name text rest → Name (c ∷ name) (c ∷ text) rest

-- scalars other than the quote, and the quote
pub data UpToQuote (quote : ℕ) : Scalars → Scalars → Scalars → Type 0 where
  closed : (rest : Scalars) → UpToQuote quote [] (quote ∷ rest) rest
  inside : (c : ℕ) (value text rest : Scalars) → (c == quote) ≡ false → UpToQuote quote value text rest → UpToQuote quote (c ∷ value) (c ∷ text) rest

-- the value of an attribute: `name`, `"v"` or `'v'`
pub data Value : Scalars → Scalars → Scalars → Type 0 where
  bare : (value text rest : Scalars) → Name value text rest → Value value text rest
  double_quoted : (value text rest : Scalars) → UpToQuote 34 value text rest → Value value (34 ∷ text) rest
  single_quoted : (value text rest : Scalars) → UpToQuote 39 value text rest → Value value (39 ∷ text) rest

-- `#name`, `.name`, `[name]` and `[name=value]`
pub data IsPart : Part → Scalars → Scalars → Type 0 where
  id : (name text rest : Scalars) → Name name text rest → IsPart (Id name) (35 ∷ text) rest
  class : (name text rest : Scalars) → Name name text rest → IsPart (Class name) (46 ∷ text) rest
  has : (name text rest : Scalars) → Name name text (93 ∷ rest) → IsPart (Has name) (91 ∷ text) rest
  equals : (name value text after rest : Scalars) → Name name text (61 ∷ after) → Value value after (93 ∷ rest) → IsPart (Is name value) (91 ∷ text) rest

-- any number of parts
pub data AreParts : List Part → Scalars → Scalars → Type 0 where
  no_part : (rest : Scalars) → AreParts [] rest rest
  part : (p : Part) (ps : List Part) (text mid rest : Scalars) → IsPart p text mid → AreParts ps mid rest → AreParts (p ∷ ps) text rest

abbrev pub compound_of : Option TagTest → List Part → Compound
compound_of tag parts = record { tag = tag; parts = parts }

-- `*` or a tag and then any number of parts, or one part and more
pub data IsCompound : Compound → Scalars → Scalars → Type 0 where
  any_tag : (ps : List Part) (text rest : Scalars) → AreParts ps text rest → IsCompound (compound_of (Some Any) ps) (42 ∷ text) rest
  tagged : (name : Scalars) (ps : List Part) (text mid rest : Scalars) → Name name text mid → AreParts ps mid rest → IsCompound (compound_of (Some (Named name)) ps) text rest
  untagged : (p : Part) (ps : List Part) (text mid rest : Scalars) → IsPart p text mid → AreParts ps mid rest → IsCompound (compound_of None (p ∷ ps)) text rest

-- compounds with white space between
pub data IsChain : List Compound → Scalars → Scalars → Type 0 where
  compound : (c : Compound) (text rest : Scalars) → IsCompound c text rest → IsChain (c ∷ []) text rest
  descendant : (c : Compound) (cs : List Compound) (gap : ℕ) (text mid next rest : Scalars) → IsCompound c text (gap ∷ mid) → is_white_space gap ≡ true
      → Blanks mid next → IsChain cs next rest → IsChain (c ∷ cs) text rest

-- chains with `,` between, and white space or none around each
pub data IsSelector : List (List Compound) → Scalars → Type 0 where
  chain : (c : List Compound) (text start end : Scalars) → Blanks text start → IsChain c start end → Blanks end [] → IsSelector (c ∷ []) text
  either : (c : List Compound) (cs : List (List Compound)) (text start end rest : Scalars) → Blanks text start → IsChain c start end → Blanks end (44 ∷ rest)
      → IsSelector cs rest → IsSelector (c ∷ cs) text
