use Rattle.std.proofs.Common.{◌≡◌, drop}
use Rattle.dom_query.specs.declared.state.State.TheVariants.{Before}
use Rattle.dom_query.specs.PlacesModel.{IsPlaced}
use Rattle.dom_query.specs.ReadingModel.{run, no_chains}
use Rattle.dom_query.proofs.parse.read.Given as goal

-- what is left, read from this state on, tells what the whole text does
abbrev pub invariant-loop-at : goal.invariant-loop-at
invariant-loop-at l = record {
  placed : IsPlaced l.state l.at;
  read : run l.s l.state l.at l.built (drop l.at l.s) ≡ run l.s Before 0 no_chains l.s;
}
