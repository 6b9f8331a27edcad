use Rattle.base_text.specs.declared.text.TheConstants.{SOURCE_LIMIT}
use Rattle.std.proofs.Common.{◌≡◌, ◌≤◌, ◌++◌, List, ℕ, length, IsTrue}
use Rattle.std.specs.List.{flat_map}
use Rattle.small_forms.specs.declared.limits.TheConstants.{ADDED_LIMIT}
use Rattle.small_forms.specs.declared.script.Sum.{Sum}
use Rattle.small_forms.specs.Readers.{ends_sum}
use Rattle.small_forms.specs.Scripts.{AreParts, IsPart, IsSum, added_text, part_text, sum_text}
use Rattle.small_forms.proofs.SumFronts.{AreLeft}
use Rattle.small_forms.proofs.sums.sum_in.Given as goal

abbrev pub invariant-loop-added : goal.invariant-loop-added
invariant-loop-added l =
    record {
      front : l.bytes ≡ part_text l.first ++ (flat_map added_text l.more ++ l.rest);
      first : IsPart l.first;
      more : AreParts l.more;
      few : length l.more ≤ ADDED_LIMIT;
      only : (sum : Sum) (end : List ℕ) → IsSum sum → IsTrue (ends_sum end) → l.bytes ≡ sum_text sum ++ end → AreLeft (length l.more) l.rest;
      short : length l.rest ≤ SOURCE_LIMIT;
    }

abbrev pub decreases-loop-added : goal.decreases-loop-added
decreases-loop-added l = length l.rest
