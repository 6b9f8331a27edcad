use Rattle.dom_query.proofs.Readings.{reading, reading_right}
use Rattle.dom_query.proofs.laws.selectors_have_a_reading.Goals as goal

pub returns : goal.returns
returns c = (reading, reading_right)
