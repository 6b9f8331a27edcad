-- A node's children are nodes.
use Rattle.std.proofs.Common.{◌≡◌, ◌<◌, subst, ℕ, true, false, arith, List, [], ◌∷◌, length, slice_index_or}
use Rattle.dom_semantics.specs.Forest.{Forest, IsForest, children_of, is_among}
use Rattle.dom_tree.proofs.LevelLemmas.{is_among-at}

pub children_known : (f : Forest) (n : ℕ) (cs : List ℕ) → IsForest f → cs ≡ children_of f n → (k d : ℕ) → k < length cs → slice_index_or cs k d < length f
children_known f n cs is e k d h =
    let P : List ℕ → Type 0 = λ xs. is_among (slice_index_or cs k d) xs ≡ true in
    is.known n (slice_index_or cs k d) (subst P e (is_among-at cs k d h))

-- there is the document at least
pub forest_some : (f : Forest) → IsForest f → 0 < length f
forest_some [] is = absurd (no_document is.document)
  where
    no_document : false ≡ true → ⊥
    no_document e = cc
forest_some (node ∷ f) is = omega arith
