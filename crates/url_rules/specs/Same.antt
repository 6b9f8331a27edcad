-- When two rules are one: this project's own words.
use Rattle.std.specs.Prelude.{◌≡◌, ℕ, List}
use Rattle.url_rules.specs.Patterns.{IsBuilt}
use Rattle.url_rules.specs.declared.rules.Rule.{Rule}
use Rattle.url_rules.specs.declared.rules.Rule.TheVariants.{Glob, Regular, AllUrls, Match}

-- Two regular expressions are one rule where `regex` read both in one text; it may hold what it read in more than one way.
abbrev pub SameRule : Rule → Rule → Type 0
SameRule (Regular r) (Regular q) = (source : List ℕ) × IsBuilt source r × IsBuilt source q
SameRule (Regular r) (Glob t) = ⊥
SameRule (Regular r) AllUrls = ⊥
SameRule (Regular r) (Match p) = ⊥
SameRule (Glob t) q = Glob t ≡ q
SameRule AllUrls q = AllUrls ≡ q
SameRule (Match p) q = Match p ≡ q
