use Rattle.actor_parts.proofs.PartCalls.{writes, defines, removes, protos, binds}
use Rattle.actor_parts.proofs.laws.parts_are_written.Goals as goal

pub returns : goal.returns
returns c = record { writes = writes; defines = defines; removes = removes; protos = protos; binds = binds }
