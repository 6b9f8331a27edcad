use Rattle.std.proofs.Common.{rules, arith, ap, length, ◌≤◌, to_z-of_z}
use Rattle.std.proofs.lemmas.Fmt.{length_signed_le, IsAscii-signed}
use Rattle.std.proofs.lemmas.Str.{chars-IsAscii}
use Rattle.std.specs.Fmt.{signed_decimal}
use Rattle.base_text.proofs.text.Text.decimal.Goals as goal

pub overflow_cast-count : goal.overflow_cast-count
overflow_cast-count c =
    let digits : length (signed_decimal c.args.n) ≤ 21 = length_signed_le 20 c.args.n (omega arith) c.ranges.n.sfits in
    let same = rw (to_z-of_z c.ranges.n) at c.in_ok-digits.ensures in
    omega (arith, ap length same)

pub new_text-requires-clause-counted : goal.new_text-requires-clause-counted
new_text-requires-clause-counted c = search (rules, chars-IsAscii, IsAscii-signed)

pub new_text-requires-clause-within : goal.new_text-requires-clause-within
new_text-requires-clause-within c =
    let digits : length (signed_decimal c.args.n) ≤ 21 = length_signed_le 20 c.args.n (omega arith) c.ranges.n.sfits in
    let same = rw (to_z-of_z c.ranges.n) at c.in_ok-digits.ensures in
    omega (arith, ap length same)

pub returns : goal.returns
returns c = search (rules, chars-IsAscii, IsAscii-signed)
