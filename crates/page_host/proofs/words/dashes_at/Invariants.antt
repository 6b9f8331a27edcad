use Rattle.std.proofs.Common.{◌≡◌, ◌+◌, map, drop}
use Rattle.std.specs.List.{position_or_len}
use Rattle.std.specs.String.{string_bytes}
use Rattle.page_host.specs.Words.{is_dashes}
use Rattle.page_host.proofs.words.dashes_at.Given as goal

abbrev pub invariant-loop-at : goal.invariant-loop-at
invariant-loop-at l = position_or_len is_dashes (map string_bytes l.words) ≡ l.at + position_or_len is_dashes (map string_bytes (drop l.at l.words))
