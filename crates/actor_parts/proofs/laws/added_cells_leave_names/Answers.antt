use Rattle.actor_parts.proofs.PartAdds.{keeps_names}
use Rattle.actor_parts.proofs.laws.added_cells_leave_names.Goals as goal

pub returns : goal.returns
returns c = keeps_names
