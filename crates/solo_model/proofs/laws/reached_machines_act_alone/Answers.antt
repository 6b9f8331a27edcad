use Rattle.js_semantics.specs.Entries.{enters}
use Rattle.solo_model.proofs.Alone.{reached-alone}
use Rattle.solo_model.proofs.laws.reached_machines_act_alone.Goals as goal

pub returns : goal.returns
returns c = λ from levels m back seen reached. reached-alone enters from levels m back seen reached
