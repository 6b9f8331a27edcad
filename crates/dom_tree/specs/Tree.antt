-- What holds of a tree as it is kept: its nodes are a forest, and parents and counts are those of the nodes.
use Rattle.std.specs.Prelude.{◌≡◌, ◌<◌, ◌^◌, ℕ, List, Option, None, length, slice_index_or}
use Rattle.door.specs.declared.values.Actor.{Actor}
use Rattle.dom_semantics.specs.Forest.{Node, IsForest, parent_of, made_by}
use Rattle.dom_tree.specs.Counts.{count_in}

pub record IsTree (f : List Node) (above : List (Option ℕ)) (tally : List (Actor × ℕ)) : Type 0 where
  pub forest : IsForest f
  pub parents : (n : ℕ) → slice_index_or above n None ≡ parent_of f n
  pub rows : length above ≡ length f
  pub counts : (maker : Actor) → count_in tally maker ≡ made_by f maker
  pub small : length f < 2 ^ 32

-- the rows are the nodes' parents
pub record AreParents (f : List Node) (above : List (Option ℕ)) : Type 0 where
  pub parents : (n : ℕ) → slice_index_or above n None ≡ parent_of f n
  pub rows : length above ≡ length f
