use Rattle.std.proofs.Common.{arith, length, ◌≤◌}
use Rattle.std.proofs.lemmas.List.{map-append}
use Rattle.std.proofs.lemmas.List.Elements.{All-push}
use Rattle.std.specs.String.{string_bytes}
use Rattle.outside.specs.declared.traits.TheConstants.{NAME_LIMIT}
use Rattle.outside.proofs.host.list_names.Goals as goal

pub loop-entry-preserved : goal.loop-entry-preserved
loop-entry-preserved g c =
    let short : length (string_bytes c.in_ok-from_str.field-0) ≤ NAME_LIMIT = rw c.in_ok-from_str.ensures.ok (omega arith) in
    rw (c.in_ok-push.ensures.items, map-append string_bytes c.loop-entry.names.items)
    (All-push (λ name. length name ≤ NAME_LIMIT) _ _ c.loop-entry.invariant short)
