use Rattle.actor_parts.proofs.PartReads.{reads_cells, reads_scopes, reads_things, reads_objects, room_read}
use Rattle.actor_parts.proofs.laws.parts_are_read.Goals as goal

pub returns : goal.returns
returns c = record { cells = reads_cells; scopes = reads_scopes; things = reads_things; objects = reads_objects; room = room_read }
