use Rattle.std.proofs.Common.{◌≡◌, ◌<◌, ℕ, drop, None}
use Rattle.std.specs.Prelude.{All, IfSome}
use Rattle.dom_semantics.specs.NodeReplies as node
use Rattle.dom_stage.proofs.moves.before_in.Given as goal

-- what is left is looked through behind what was come to, which is one of these
abbrev pub invariant-loop-c : goal.invariant-loop-c
invariant-loop-c l = record {
  same : node.before_in l.n l.before (drop l.c-index l.numbers) ≡ node.before_in l.n None l.numbers;
  known : (limit : ℕ) → All (λ n. n < limit) l.numbers → IfSome l.before (λ n. n < limit);
}
