use Rattle.solo_model.proofs.Clocks.{is_setting}
use Rattle.solo_model.proofs.laws.no_line_sets_the_clock_back.Goals as goal

pub returns : goal.returns
returns c = λ given marks is lawful. is_setting given marks is lawful
