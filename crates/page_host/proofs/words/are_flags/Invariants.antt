use Rattle.std.proofs.Common.{◌≡◌, filter, map, take, []}
use Rattle.std.specs.String.{string_bytes}
use Rattle.page_host.specs.Words.{is_plain}
use Rattle.page_host.proofs.words.are_flags.Given as goal

abbrev pub invariant-loop-word : goal.invariant-loop-word
invariant-loop-word l = filter is_plain (map string_bytes (take l.word-index l.options)) ≡ []
