-- A chain of prototypes as the code goes along it, which its proofs need; no claim rests on it.
use Rattle.std.specs.Prelude.{ℕ, zero, suc, Bool, true, false, ◌==◌, List, Option, Some, None, slice_get, if◌then◌else◌}
use Rattle.js_objects.specs.declared.values.CellId.{CellId}
use Rattle.js_objects.specs.declared.cell.Cell.{Cell}
use Rattle.js_objects.specs.Heaps.{proto_by}

-- whether a chain comes to a cell, of which so many are looked at
unfoldable pub comes_to : ℕ → List Cell → ℕ → Option CellId → Bool
comes_to zero cells n next = false
comes_to (suc left) cells n None = false
comes_to (suc left) cells n (Some c) = if c.0 == n then true else comes_to left cells n (proto_by (slice_get cells c.0))
