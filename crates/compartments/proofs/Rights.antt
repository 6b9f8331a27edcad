-- The order of principals.
use Rattle.std.proofs.Common.{◌≡◌, ◌∙◌, refl, subst, Contains}
use Rattle.std.proofs.lemmas.List.Elements.{All-contains, All-contains_itself, All-weaker}
use Rattle.compartments.specs.Principals.{Subsumes}
use Rattle.compartments.specs.declared.principals.Principal.{Principal}
use Rattle.compartments.specs.declared.principals.Principal.TheVariants.{Origin, Expanded, Null}

-- each has its own rights
pub has_its_own : (p : Principal) → Subsumes p p
has_its_own (Origin o) = refl
has_its_own (Expanded os) = All-contains_itself os
has_its_own (Null n) = refl

-- what has the rights of a second has those of each whose rights the second has
pub has_theirs : (p q r : Principal) → Subsumes p q → Subsumes q r → Subsumes p r
has_theirs (Origin o) (Origin p) (Origin q) h k = h ∙ k
has_theirs (Origin o) (Origin p) (Expanded qs) h k = absurd k
has_theirs (Origin o) (Origin p) (Null n) h k = absurd k
has_theirs (Origin o) (Expanded ps) r h k = absurd h
has_theirs (Origin o) (Null n) r h k = absurd h
has_theirs (Expanded os) (Origin p) (Origin q) h k = subst (Contains os) k h
has_theirs (Expanded os) (Origin p) (Expanded qs) h k = absurd k
has_theirs (Expanded os) (Origin p) (Null n) h k = absurd k
has_theirs (Expanded os) (Expanded ps) (Origin q) h k = All-contains (Contains os) ps q h k
has_theirs (Expanded os) (Expanded ps) (Expanded qs) h k = All-weaker (Contains ps) (Contains os) (λ x. All-contains (Contains os) ps x h) qs k
has_theirs (Expanded os) (Expanded ps) (Null n) h k = absurd k
has_theirs (Expanded os) (Null n) r h k = absurd h
has_theirs (Null n) (Origin p) r h k = absurd h
has_theirs (Null n) (Expanded ps) r h k = absurd h
has_theirs (Null n) (Null m) (Origin q) h k = absurd k
has_theirs (Null n) (Null m) (Expanded qs) h k = absurd k
has_theirs (Null n) (Null m) (Null l) h k = h ∙ k
