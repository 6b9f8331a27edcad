-- The names of the attributes that are found.
use Rattle.std.proofs.Common.{◌≡◌, ◌∙◌, ap, refl, sym, ℕ, Bool, true, false, cond, List, [], ◌∷◌, ◌++◌}
use Rattle.std.specs.Prelude.{◌||◌}
use Rattle.std.specs.List.{list_any}
use Rattle.std.specs.Str.{bytes_eq}
use Rattle.std.specs.BTreeSet.{BTreeSet, contains}
use Rattle.std.specs.BTreeMap.{is_at}
use Rattle.base_text.specs.Scalars.{text_cmp, text_ties}
use Rattle.page_text.specs.declared.tags.Attribute.{Attribute}
use Rattle.page_text.specs.TagsModel.{AreNamed}

alone : (b : Bool) → cond b true false ≡ (b || false)
alone true = refl
alone false = refl

past : (b x y z : Bool) → cond b true y ≡ z → cond b true (x || y) ≡ (x || z)
past true true y z e = refl
past true false y z e = e
past false true y z e = refl
past false false y z e = e

any_last : (p : Attribute → Bool) (xs : List Attribute) (a : Attribute) → cond (p a) true (list_any p xs) ≡ list_any p (xs ++ a ∷ [])
any_last p [] a = alone (p a)
any_last p (x ∷ xs) a = past (p a) (p x) (list_any p xs) (list_any p (xs ++ a ∷ [])) (any_last p xs a)

-- one attribute more, and its name
pub named_more : (found : List Attribute) (a : Attribute) (old new : BTreeSet (List ℕ)) → AreNamed found old → ((name : List ℕ) → contains text_cmp new name ≡ cond (is_at (text_cmp a.name) name) true (contains text_cmp old name)) → AreNamed (found ++ a ∷ []) new
named_more found a old new are updates name =
    updates name ∙ ap (λ b. cond b true (contains text_cmp old name)) (sym (text_ties a.name name)) ∙ ap (λ b. cond (bytes_eq a.name name) true b) (are name)
    ∙ any_last (λ b. bytes_eq b.name name) found a
