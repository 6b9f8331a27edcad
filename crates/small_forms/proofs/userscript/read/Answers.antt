use Rattle.std.specs.List.{flat_map}
use Rattle.small_forms.specs.Scripts.{userscript_line}
use Rattle.small_forms.proofs.Userscripts.{body_of}
use Rattle.small_forms.proofs.userscript.read.Goals as goal

pub returns-in_default-clause-none : goal.returns-in_default-clause-none
returns-in_default-clause-none c name lines is = c.in_default.ensures.none name (flat_map userscript_line lines) is.named is.whole

pub returns-in_default-2-clause-none : goal.returns-in_default-2-clause-none
returns-in_default-2-clause-none c name lines is =
    let none = rw c.in_default-2.is at c.in_ok-lines.ensures.none in
    none lines is.adds (body_of c.args.bytes.now c.in-Some.name.now c.in-Some.body.now name lines c.in-Some.ensures.some.1 c.in-Some.ensures.some.0 is).1
