use Rattle.std.proofs.Common.{rules, arith, ap, length, ℕ}
use Rattle.std.proofs.lemmas.Option.{slice_get_past, slice_get-get_or}
use Rattle.std.proofs.lemmas.Str.{chars-IsAscii}
use Rattle.base_text.proofs.text.byte_at.Goals as goal

pub returns-in_err-byte : goal.returns-in_err-byte
returns-in_err-byte c =
    let past = c.in_err-byte.ensures.lookup in
    let none = slice_get_past c.args.s.now c.args.at (omega (arith, ap length c.as_bytes.ensures.value)) in
    rw (chars-IsAscii _ c.requires, none) (search rules)

pub returns : goal.returns
returns c =
    let found = c.in_ok-byte.ensures.lookup in
    let some = slice_get-get_or {X = ℕ} c.args.s.now c.args.at 0 (omega (arith, ap length c.as_bytes.ensures.value)) in
    rw (chars-IsAscii _ c.requires, some) (search rules)
