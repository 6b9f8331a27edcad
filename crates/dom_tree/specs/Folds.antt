-- A fold over nodes in an order, by a step that is given, and the first node that passes a test that is given; own words. Calls are at nodes
-- of the tree only.
use Rattle.std.specs.Prelude.{◌≡◌, ◌<◌, ◌⊎◌, ℕ, Bool, true, false, List, [], ◌∷◌, length, Option, Some, None, Result, Ok, Err}
use Rattle.dom_semantics.specs.Forest.{Forest}
use Rattle.dom_tree.specs.declared.form.NodeId.{NodeId}
use Rattle.dom_tree.specs.Ids.{node_id}

-- the step may be called at each node, with whatever the steps before it give
abbrev pub MayFold : {B E : Type 0} → (B → NodeId → Type 0) → (B → NodeId → Result B E → Type 0) → Forest → B → List ℕ → Type 0
MayFold pre post f b [] = Unit {0}
MayFold {B} {E} pre post f b (n ∷ ns) = (n < length f → pre b (node_id n)) × ((c : B) → n < length f → post b (node_id n) (Ok c) → MayFold pre post f c ns)

-- the steps follow one another from the first node on, and the first fault is the answer
abbrev pub TryFolds : {B E : Type 0} → (B → NodeId → Result B E → Type 0) → Forest → B → List ℕ → Result B E → Type 0
TryFolds post f b [] result = result ≡ Ok b
TryFolds {B} {E} post f b (n ∷ ns) result =
    (n < length f) × (((c : B) × post b (node_id n) (Ok c) × TryFolds post f c ns result) ⊎ ((e : E) × post b (node_id n) (Err e) × (result ≡ Err e)))

-- the first node that passes is the answer, if one does
abbrev pub Finds : (NodeId → Bool → Type 0) → Forest → List ℕ → Option ℕ → Type 0
Finds post f [] result = result ≡ None
Finds post f (n ∷ ns) result = (n < length f) × ((post (node_id n) true × (result ≡ Some n)) ⊎ (post (node_id n) false × Finds post f ns result))
