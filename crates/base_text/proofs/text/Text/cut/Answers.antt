use Rattle.std.proofs.Common.{rules, arith, drop, ◌-◌}
use Rattle.std.proofs.lemmas.List.{length-drop, length-take-le}
use Rattle.std.proofs.lemmas.Str.{IsUtf8-string_bytes, encodes_same}
use Rattle.base_text.proofs.Utf8.{length-chars-encoded}
use Rattle.base_text.proofs.text.Text.cut.Goals as goal

pub new_text-requires-clause-counted : goal.new_text-requires-clause-counted
new_text-requires-clause-counted c =
    let rest = length-drop c.args.from c.args.self.now in
    let part = length-take-le (c.args.to - c.args.from) (drop c.args.from c.args.self.now) (omega arith) in
    let whole = length-chars-encoded _ _ (IsUtf8-string_bytes c.in_ok-piece.piece) c.in_ok-piece.ensures.exact in
    omega arith

pub returns : goal.returns
returns c = search (rules, encodes_same)
