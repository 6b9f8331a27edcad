use Rattle.std.proofs.Common.{arith, ap, length}
use Rattle.std.proofs.lemmas.Bool.Decides.{nat_tests}
use Rattle.base_text.proofs.Utf8.{IsAscii-from_count, count-from_ascii}
use Rattle.base_text.proofs.text.Text.is_ascii.Goals as goal

pub returns : goal.returns
returns c =
    let bytes = ap length c.as_str.ensures.bytes in (
      λ e. IsAscii-from_count c.args.self.now (grind (arith, nat_tests)),
      λ ascii.
          let same = count-from_ascii c.args.self.now ascii in grind (arith, nat_tests),
    )
