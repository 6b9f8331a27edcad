use Rattle.std.proofs.Common.{◌≡◌, ◌++◌, take}
use Rattle.js_semantics.specs.Bodies.{names_of}
use Rattle.js_code.proofs.declared.named.Given as goal

abbrev pub invariant-loop-declaration : goal.invariant-loop-declaration
invariant-loop-declaration l = l.names ≡ l.fn.names ++ names_of (take l.declaration-index l.declarations)
