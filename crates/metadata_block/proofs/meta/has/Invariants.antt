use Rattle.std.proofs.Common.{◌≡◌, drop}
use Rattle.metadata_block.specs.Selection.{has_grant}
use Rattle.metadata_block.proofs.meta.has.Given as goal

abbrev pub invariant-loop-g : goal.invariant-loop-g
invariant-loop-g l = has_grant l.grants l.grant ≡ has_grant (drop l.g-index l.grants) l.grant
