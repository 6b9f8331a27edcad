-- Blocks that say the same select the same addresses.
use Rattle.std.specs.Prelude.{◌≡◌, List, [], ◌∷◌, refl}
use Rattle.std.proofs.Common.{subst, inl, inr}
use Rattle.metadata_block.specs.Same.{SameRules, SameMeta}
use Rattle.metadata_block.specs.Selection.{AnyFits, IsIncluded, IsSelected}
use Rattle.metadata_block.specs.declared.meta.Meta.{Meta}
use Rattle.url_rules.specs.Address.{Address}
use Rattle.url_rules.specs.Rules.{RuleFits}
use Rattle.url_rules.specs.Same.{SameRule}
use Rattle.url_rules.specs.declared.rules.Rule.{Rule}
use Rattle.url_rules.specs.declared.rules.Rule.TheVariants.{Glob, Regular, AllUrls, Match}

-- rules that are one rule fit alike
abbrev pub FitsAlike : Address → Type 0
FitsAlike address = (r q : Rule) → SameRule r q → RuleFits r address → RuleFits q address

rule_back : (r q : Rule) → SameRule r q → SameRule q r
rule_back (Regular r) (Regular q) h = (h.0, h.2, h.1)
rule_back (Regular r) (Glob t) h = absurd h
rule_back (Regular r) AllUrls h = absurd h
rule_back (Regular r) (Match p) h = absurd h
rule_back (Glob t) q h = subst (λ (x : Rule). SameRule x (Glob t)) h refl
rule_back AllUrls q h = subst (λ (x : Rule). SameRule x AllUrls) h refl
rule_back (Match p) q h = subst (λ (x : Rule). SameRule x (Match p)) h refl

rules_back : (rs qs : List Rule) → SameRules rs qs → SameRules qs rs
rules_back [] [] h = tt
rules_back [] (q ∷ qs) h = absurd h
rules_back (r ∷ rs) [] h = absurd h
rules_back (r ∷ rs) (q ∷ qs) h = (rule_back r q h.0, rules_back rs qs h.1)

any_alike : (address : Address) → FitsAlike address → (rs qs : List Rule) → SameRules rs qs → AnyFits rs address → AnyFits qs address
any_alike address alike [] qs h fits = absurd fits
any_alike address alike (r ∷ rs) [] h fits = absurd h
any_alike address alike (r ∷ rs) (q ∷ qs) h fits = elim fits [
  | inl here ↦ inl (alike r q h.0 here)
  | inr later ↦ inr (any_alike address alike rs qs h.1 later)
]

none_alike : (rs qs : List Rule) → SameRules rs qs → rs ≡ [] → qs ≡ []
none_alike rs [] h e = refl
none_alike [] (q ∷ qs) h e = absurd h
none_alike (r ∷ rs) (q ∷ qs) h e = cc e

included_alike : (address : Address) → FitsAlike address → (m n : Meta) → SameMeta m n → IsIncluded m address → IsIncluded n address
included_alike address alike m n same h = elim h [
  | inl none ↦ inl (none_alike m.includes n.includes same.includes none.0, none_alike m.matches n.matches same.matches none.1)
  | inr some ↦ elim some [
    | inl one ↦ inr (inl (any_alike address alike m.includes n.includes same.includes one))
    | inr one ↦ inr (inr (any_alike address alike m.matches n.matches same.matches one))
  ]
]

pub select_alike : (address : Address) → FitsAlike address → (m n : Meta) → SameMeta m n → IsSelected m address → IsSelected n address
select_alike address alike m n same h =
    record {
      not_excluded = λ fits. h.not_excluded (any_alike address alike n.excludes m.excludes (rules_back m.excludes n.excludes same.excludes) fits);
      included = included_alike address alike m n same h.included;
    }
