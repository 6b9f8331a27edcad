use Rattle.std.proofs.Common.{◌≡◌, ◌≤◌, ◌<◌, ◌^◌, length, take}
use Rattle.std.specs.Fmt.{decimal}
use Rattle.std.specs.Str.{bytes_eq}
use Rattle.js_objects.proofs.key.is_spelled.Given as goal

abbrev pub invariant-loop-left : goal.invariant-loop-left
invariant-loop-left l = (bytes_eq (decimal l.number) l.key ≡ bytes_eq (decimal l.rest) (take l.left l.key)) × (l.left ≤ length l.key) × (l.rest < 2 ^ 64)

abbrev pub decreases-loop-left : goal.decreases-loop-left
decreases-loop-left l = l.left
