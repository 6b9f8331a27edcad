use Rattle.std.proofs.Common.{rules, ◌-◌}
use Rattle.std.proofs.lemmas.Str.{chars-IsAscii, encodes-IsAscii, IsAscii-take, IsAscii-drop}
use Rattle.base_text.proofs.text.bytes_between.Goals as goal

pub returns : goal.returns
returns c =
    let part = IsAscii-take _ (c.args.to - c.args.from) (IsAscii-drop c.args.s.now c.args.from c.requires.ascii) in
    rw (chars-IsAscii _ c.requires.ascii, encodes-IsAscii _ part) (search rules)
