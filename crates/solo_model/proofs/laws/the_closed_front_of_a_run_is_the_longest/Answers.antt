use Rattle.std.proofs.Common.{not}
use Rattle.solo_model.specs.Acts.{closed_front, zones_of}
use Rattle.solo_model.specs.Openings.{opens}
use Rattle.solo_model.proofs.Fronts.{all_before, front_first, none_before}
use Rattle.solo_model.proofs.laws.the_closed_front_of_a_run_is_the_longest.Goals as goal

pub returns-clause-front : goal.returns-clause-front
returns-clause-front c = λ setups i marks. front_first (λ mark. not (opens (zones_of setups) i mark)) marks

pub returns-clause-closed : goal.returns-clause-closed
returns-clause-closed c = λ setups i marks. none_before (opens (zones_of setups) i) marks

pub returns-clause-longest : goal.returns-clause-longest
returns-clause-longest c = λ setups i front rest closed. (closed_front setups i rest, all_before (opens (zones_of setups) i) front rest closed)
