use Rattle.std.proofs.Common.{drop, ◌↔◌}
use Rattle.metadata_block.specs.Selection.{AnyFits}
use Rattle.metadata_block.proofs.meta.any_fits.Given as goal

-- none so far fits
abbrev pub invariant-loop-rule : goal.invariant-loop-rule
invariant-loop-rule l = AnyFits l.rules l.address ↔ AnyFits (drop l.rule-index l.rules) l.address
