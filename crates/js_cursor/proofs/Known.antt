-- The names of a list as a set, where one is added.
use Rattle.std.proofs.Common.{◌≡◌, ◌∙◌, ap, refl, sym, ℕ, Bool, true, false, cond, List, [], ◌∷◌, ◌++◌}
use Rattle.std.specs.Prelude.{◌||◌}
use Rattle.std.specs.Bool.{Decides}
use Rattle.std.specs.Str.{bytes_eq}
use Rattle.std.specs.BTreeSet.{BTreeSet, contains}
use Rattle.std.specs.BTreeMap.{is_at}
use Rattle.std.proofs.lemmas.Bool.Decides.{same_from_decides}
use Rattle.std.proofs.lemmas.Slice.Eq.{bytes_eq-Decides}
use Rattle.base_text.specs.Scalars.{text_cmp, text_ties}
use Rattle.js_syntax.specs.Grammar.{is_known}
use Rattle.js_cursor.specs.Known.{AreKnown}

turned : (r : Bool) (x y : List ℕ) → Decides r (y ≡ x) → Decides r (x ≡ y)
turned r x y d = (λ h. sym (d.0 h), λ e. d.1 (sym e))

bytes_symm : (x y : List ℕ) → bytes_eq x y ≡ bytes_eq y x
bytes_symm x y = same_from_decides (bytes_eq x y) (bytes_eq y x) (bytes_eq-Decides x y) (turned (bytes_eq y x) x y (bytes_eq-Decides y x))

alone : (b : Bool) → cond b true false ≡ (b || false)
alone true = refl
alone false = refl

past : (b x y z : Bool) → cond b true y ≡ z → cond b true (x || y) ≡ (x || z)
past true true y z e = refl
past true false y z e = e
past false true y z e = refl
past false false y z e = e

known_last : (key name : List ℕ) (found : List (List ℕ)) → cond (bytes_eq key name) true (is_known key found) ≡ is_known key (found ++ name ∷ [])
known_last key name [] = alone (bytes_eq key name)
known_last key name (n ∷ ns) = past (bytes_eq key name) (bytes_eq key n) (is_known key ns) (is_known key (ns ++ name ∷ [])) (known_last key name ns)

-- one name more
pub known_more : (found : List (List ℕ)) (name : List ℕ) (old new : BTreeSet (List ℕ)) → AreKnown found old → ((key : List ℕ) → contains text_cmp new key ≡ cond (is_at (text_cmp name) key) true (contains text_cmp old key)) → AreKnown (found ++ name ∷ []) new
known_more found name old new are updates key =
    updates key ∙ ap (λ b. cond b true (contains text_cmp old key)) (sym (text_ties name key) ∙ bytes_symm name key) ∙ ap (λ b. cond (bytes_eq key name) true b) (are key)
    ∙ known_last key name found
