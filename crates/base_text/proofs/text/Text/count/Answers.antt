use Rattle.std.proofs.Common.{arith}
use Rattle.std.proofs.lemmas.Str.{IsUtf8-string_bytes}
use Rattle.base_text.proofs.Utf8.{length-chars-le}
use Rattle.base_text.proofs.text.Text.count.Goals as goal

pub returns-clause-limit : goal.returns-clause-limit
returns-clause-limit c =
    let content = c.as_ref.result.now in
    omega (arith, content.counted, content.within, length-chars-le _ (IsUtf8-string_bytes content.text))
