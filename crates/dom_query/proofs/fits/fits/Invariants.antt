use Rattle.std.proofs.Common.{◌≡◌, drop}
use Rattle.std.specs.List.{list_any}
use Rattle.dom_semantics.specs.SelectorFits.{fits_chain, fits}
use Rattle.dom_query.proofs.fits.fits.Given as goal

abbrev pub invariant-loop-chain : goal.invariant-loop-chain
invariant-loop-chain l = list_any (λ c. fits_chain l.tree c l.n.0) (drop l.chain-index l.chain-items) ≡ fits l.tree l.fn.s l.n.0
