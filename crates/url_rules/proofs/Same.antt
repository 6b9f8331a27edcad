-- Rules that are one rule fit alike.
use Rattle.std.specs.Str.{IsAscii}
use Rattle.std.proofs.Common.{subst}
use Rattle.url_rules.specs.Address.{Address, address_text}
use Rattle.url_rules.specs.Rules.{RuleFits}
use Rattle.url_rules.specs.Same.{SameRule}
use Rattle.url_rules.specs.declared.rules.Rule.{Rule}
use Rattle.url_rules.specs.declared.rules.Rule.TheVariants.{Glob, Regular, AllUrls, Match}
use Rattle.url_rules.proofs.Built.{found_alike}

pub fit_alike : (r q : Rule) (address : Address) → IsAscii (address_text address) → SameRule r q → RuleFits r address → RuleFits q address
fit_alike (Regular r) (Regular q) address ascii same fits = found_alike same.0 (address_text address) r q ascii same.1 same.2 fits
fit_alike (Regular r) (Glob t) address ascii same fits = absurd same
fit_alike (Regular r) AllUrls address ascii same fits = absurd same
fit_alike (Regular r) (Match p) address ascii same fits = absurd same
fit_alike (Glob t) q address ascii same fits = subst (λ (x : Rule). RuleFits x address) same fits
fit_alike AllUrls q address ascii same fits = subst (λ (x : Rule). RuleFits x address) same fits
fit_alike (Match p) q address ascii same fits = subst (λ (x : Rule). RuleFits x address) same fits
