use Rattle.std.proofs.Common.{arith, ap, length}
use Rattle.std.proofs.lemmas.Str.{length-le-encodes}
use Rattle.base_text.proofs.Utf8.{part_within}
use Rattle.base_text.proofs.text.Text.piece.Goals as goal

pub bytes_between-requires-clause-within : goal.bytes_between-requires-clause-within
bytes_between-requires-clause-within c =
    omega (arith, ap length c.as_str-whole.ensures.bytes, length-le-encodes c.args.self.now)

pub returns-then-is_ascii-clause-limit : goal.returns-then-is_ascii-clause-limit
returns-then-is_ascii-clause-limit c =
    part_within c.bytes_between.result _ c.args.from c.args.to _ c.as_str-whole.utf8 c.as_str-whole.ensures.limit c.bytes_between.ensures

pub returns-else-is_ascii-clause-limit : goal.returns-else-is_ascii-clause-limit
returns-else-is_ascii-clause-limit c =
    part_within c.scalars_between.result _ c.args.from c.args.to _ c.as_str-whole.utf8 c.as_str-whole.ensures.limit c.scalars_between.ensures
