use Rattle.std.proofs.Common.{◌≡◌, ℕ, drop}
use Rattle.metadata_block.specs.declared.meta.Meta.{Meta}
use Rattle.metadata_block.specs.declared.block.MetaFault.{MetaFault}
use Rattle.metadata_block.specs.Block.{TakesAll, Fails}
use Rattle.metadata_block.specs.BlockModel.{AreAlike}
use Rattle.metadata_block.proofs.block.take_pairs.Given as goal

-- what the lines that are left make of what is so far is what all make of the start
abbrev pub invariant-loop-pair : goal.invariant-loop-pair
invariant-loop-pair g l = record {
  on : (n : Meta) → TakesAll (drop l.pair-index l.pairs) l.meta n → TakesAll l.pairs l.fn.meta n;
  bad : (after : ℕ) (f : MetaFault) → Fails (g.P.Patterns.refusals l.fn.patterns) after (drop l.pair-index l.pairs) l.meta f → Fails (g.P.Patterns.refusals l.fn.patterns) after l.pairs l.fn.meta f;
  same : g.P.Patterns.refusals l.fn.patterns ≡ g.P.Patterns.refusals l.patterns;
  alike : AreAlike l.meta.grants;
}
