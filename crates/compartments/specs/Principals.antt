-- Principals, and the order of their rights (MDN, Script security; Components.utils.Sandbox).
use Rattle.std.specs.Prelude.{◌≡◌, ◌↔◌, ℕ, List, [], ◌∷◌, Contains, All}
use Rattle.door.specs.declared.values.Look.{Look}
use Rattle.door.specs.declared.values.Look.TheVariants.{Xray, Transparent, Denied}
use Rattle.compartments.specs.declared.principals.Principal.{Principal}
use Rattle.compartments.specs.declared.principals.Principal.TheVariants.{Origin, Expanded, Null}

-- the first has all rights of the second (MDN, Script security, principals and relationships between them)
abbrev pub Subsumes : Principal → Principal → Type 0
Subsumes (Origin o) (Origin p) = o ≡ p
Subsumes (Expanded os) (Origin p) = Contains os p
Subsumes (Expanded os) (Expanded ps) = All (Contains os) ps
Subsumes (Null n) (Null k) = n ≡ k
Subsumes p q = ⊥

-- the look of one that acts under the first principal at what one under the second owns (MDN, Script security: who has more rights sees through
-- an Xray, who has the same sees all, who has less sees nothing)
pub record FollowsRights (p q : Principal) (look : Look) : Type 0 where
  pub xray : look ≡ Xray ↔ (Subsumes p q × (Subsumes q p → ⊥))
  pub transparent : look ≡ Transparent ↔ (Subsumes p q × Subsumes q p)
  pub denied : look ≡ Denied ↔ (Subsumes p q → ⊥)

-- the principal of a userscript with Xrays, on a page of this origin; one without Xrays acts as the page (Greasemonkey manual, @grant)
abbrev pub script_principal : List ℕ → Principal
script_principal origin = Expanded (origin ∷ [])

abbrev pub page_principal : List ℕ → Principal
page_principal origin = Origin origin
