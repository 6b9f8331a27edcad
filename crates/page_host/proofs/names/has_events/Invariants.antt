use Rattle.std.proofs.Common.{◌≡◌, map, drop}
use Rattle.std.specs.List.{list_any}
use Rattle.std.specs.String.{string_bytes}
use Rattle.page_host.specs.Names.{is_events}
use Rattle.page_host.proofs.names.has_events.Given as goal

abbrev pub invariant-loop-name : goal.invariant-loop-name
invariant-loop-name l = list_any is_events (map string_bytes l.names) ≡ list_any is_events (map string_bytes (drop l.name-index l.names))
