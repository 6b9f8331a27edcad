-- The parents of copies, as the tree keeps them.
use Rattle.std.specs.Prelude.{◌+◌, ℕ, List, [], ◌∷◌, ◌++◌, length, Option, Some}
use Prim.Native.Nat.{zero, suc}
use Rattle.dom_semantics.specs.Forest.{Forest, children_of}

-- the parents of what is laid for each of these numbers, one after another from a place on
abbrev pub parents_laid : (ℕ → ℕ → List (Option ℕ)) → ℕ → List ℕ → List (Option ℕ)
parents_laid lay at [] = []
parents_laid lay at (n ∷ ns) = lay at n ++ parents_laid lay (at + length (lay at n)) ns

-- the parents of the copies of a node and of all below it, for so many levels, in tree order from a number on
abbrev pub parents_of_copies : ℕ → Forest → Option ℕ → ℕ → ℕ → List (Option ℕ)
parents_of_copies zero f parent at n = []
parents_of_copies (suc levels) f parent at n =
    parent ∷ parents_laid (parents_of_copies levels f (Some at)) (at + 1) (children_of f n)
