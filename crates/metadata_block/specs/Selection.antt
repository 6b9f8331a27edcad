-- Which addresses select a userscript, and what it is granted (this project's own, after the Greasemonkey manual, Metadata Block and
-- Include and exclude rules).
use Rattle.std.specs.Prelude.{◌≡◌, ◌⊎◌, List, [], ◌∷◌, Bool, true, false}
use Rattle.std.specs.List.{list_any}
use Rattle.door.specs.declared.grants.GrantSet.{GrantSet}
use Rattle.metadata_block.specs.declared.meta.Grant.{Grant}
use Rattle.metadata_block.specs.declared.meta.Grant.TheVariants as grant
use Rattle.metadata_block.specs.declared.meta.Meta.{Meta}
use Rattle.url_rules.specs.Address.{Address}
use Rattle.url_rules.specs.Rules.{RuleFits}
use Rattle.url_rules.specs.declared.rules.Rule.{Rule}

-- ---- selection

-- some rule of the list fits
abbrev pub AnyFits : List Rule → Address → Type 0
AnyFits [] address = ⊥
AnyFits (rule ∷ rules) address = RuleFits rule address ⊎ AnyFits rules address

-- there is neither include nor match, or one of them fits
abbrev pub IsIncluded : Meta → Address → Type 0
IsIncluded meta address = ((meta.includes ≡ []) × (meta.matches ≡ [])) ⊎ (AnyFits meta.includes address ⊎ AnyFits meta.matches address)

-- exclude wins
pub record IsSelected (meta : Meta) (address : Address) : Type 0 where
  pub not_excluded : AnyFits meta.excludes address → ⊥
  pub included : IsIncluded meta address

-- ---- grants

abbrev pub same_grant : Grant → Grant → Bool
same_grant grant.NoGrant grant.NoGrant = true
same_grant grant.UnsafeWindow grant.UnsafeWindow = true
same_grant grant.GetValue grant.GetValue = true
same_grant grant.SetValue grant.SetValue = true
same_grant grant.DeleteValue grant.DeleteValue = true
same_grant grant.ListValues grant.ListValues = true
same_grant grant.Log grant.Log = true
same_grant _ _ = false

abbrev pub has_grant : List Grant → Grant → Bool
has_grant grants g = list_any (λ h. same_grant h g) grants

-- one flag for each grant, and one for `none`
abbrev pub grant_set : List Grant → GrantSet
grant_set grants = record {
  no_grant = has_grant grants grant.NoGrant;
  unsafe_window = has_grant grants grant.UnsafeWindow;
  get_value = has_grant grants grant.GetValue;
  set_value = has_grant grants grant.SetValue;
  delete_value = has_grant grants grant.DeleteValue;
  list_values = has_grant grants grant.ListValues;
  log = has_grant grants grant.Log;
}
