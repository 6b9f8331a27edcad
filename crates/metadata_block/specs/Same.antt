-- When two blocks say the same: this project's own words. Rules are compared as `url_rules` does, which may hold one regular
-- expression in more than one way.
use Rattle.std.specs.Prelude.{◌≡◌, List, [], ◌∷◌, ⊤}
use Rattle.metadata_block.specs.declared.meta.Meta.{Meta}
use Rattle.url_rules.specs.Same.{SameRule}
use Rattle.url_rules.specs.declared.rules.Rule.{Rule}

-- the lists have the same rules at the same places
abbrev pub SameRules : List Rule → List Rule → Type 0
SameRules [] [] = ⊤
SameRules [] (q ∷ qs) = ⊥
SameRules (r ∷ rs) [] = ⊥
SameRules (r ∷ rs) (q ∷ qs) = SameRule r q × SameRules rs qs

-- the blocks say the same
pub record SameMeta (m n : Meta) : Type 0 where
  pub name : m.name ≡ n.name
  pub namespace : m.namespace ≡ n.namespace
  pub run_at : m.run_at ≡ n.run_at
  pub grants : m.grants ≡ n.grants
  pub includes : SameRules m.includes n.includes
  pub excludes : SameRules m.excludes n.excludes
  pub matches : SameRules m.matches n.matches
  pub others : m.others ≡ n.others
