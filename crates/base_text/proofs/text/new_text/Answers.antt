use Rattle.std.proofs.Common.{rules}
use Rattle.std.proofs.lemmas.Str.{encodes-chars, IsUtf8-string_bytes}
use Rattle.base_text.proofs.text.new_text.Goals as goal

pub returns-clause-bytes : goal.returns-clause-bytes
returns-clause-bytes c = rw (encodes-chars _ (IsUtf8-string_bytes c.in_ok-shared.shared.value.text)) (grind rules)
