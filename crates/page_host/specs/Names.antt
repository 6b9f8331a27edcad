-- The names of a folder's files; this project's own.
use Rattle.std.specs.Prelude.{◌↔◌, ◌-◌, ◌^◌, ℕ, Bool, IsTrue, List, codes, nat_eq, min, length, Contains, IsSome}
use Rattle.std.specs.List.{ends_with}
use Rattle.std.specs.List.Sorted.{IsStrictlySortedBy}
use Rattle.std.specs.Cmp.Lexicographic.{slice_cmp}
use Rattle.std.specs.Ordering.{nat_cmp}
use Rattle.std.specs.Str.{bytes_eq}
use Rattle.outside.specs.Contents.{Files, content}

-- a userscript's name ends in `.user.js` (Greasemonkey manual)
abbrev pub is_userscript : List ℕ → Bool
is_userscript name = ends_with nat_eq name (codes ".user.js")

-- the list of user events
abbrev pub is_events : List ℕ → Bool
is_events name = bytes_eq name (codes "events.txt")

-- in byte order, each once
abbrev pub AreInOrder : List (List ℕ) → Type 0
AreInOrder names = IsStrictlySortedBy (slice_cmp nat_cmp) names

-- these are the names of userscripts among all names, in byte order
pub record AreScriptsOf (names scripts : List (List ℕ)) : Type 0 where
  pub order : AreInOrder scripts
  pub exact : (name : List ℕ) → (Contains scripts name ↔ (Contains names name × IsTrue (is_userscript name)))

-- these are the names of a folder's userscripts, in byte order
pub record IsScriptNames (files : Files) (scripts : List (List ℕ)) : Type 0 where
  pub order : AreInOrder scripts
  pub exact : (name : List ℕ) → (Contains scripts name ↔ (IsSome (content files name) × IsTrue (is_userscript name)))

-- the number of userscripts that a fault tells
abbrev pub counted : List (List ℕ) → ℕ
counted scripts = min (length scripts) (2 ^ 32 - 1)
