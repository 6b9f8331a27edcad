use Rattle.std.proofs.Common.{◌≡◌, filter, map, take, codes, ◌∷◌, [], if◌then◌else◌}
use Rattle.std.specs.String.{string_bytes}
use Rattle.page_host.specs.Words.{begins_with_dash}
use Rattle.page_host.proofs.words.trace_in.Given as goal

abbrev pub invariant-loop-word : goal.invariant-loop-word
invariant-loop-word l = filter begins_with_dash (map string_bytes (take l.word-index l.options)) ≡ (if l.trace then codes "--trace" ∷ [] else [])
