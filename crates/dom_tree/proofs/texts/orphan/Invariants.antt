use Rattle.std.proofs.Common.{◌≡◌, ℕ, cond, get_or, take, None}
use Rattle.dom_semantics.specs.Forest.{is_among}
use Rattle.dom_tree.proofs.texts.orphan.Given as goal

-- the numbers so far have no parent, and the others the one that they had
abbrev pub invariant-loop-n : goal.invariant-loop-n
invariant-loop-n l = (m : ℕ) → get_or l.parents m None ≡ cond (is_among m (take l.n-index l.numbers)) None (get_or l.initial.parents m None)
