-- What holds of both sides of a match or a test.
use Rattle.std.proofs.lemmas.Bool.Decides.{nat_tests}
use Rattle.std.proofs.Common.{◌≡◌, ◌<◌, ℕ, Bool, true, false, nat_eq, arith, IsTrue, Option, Some, None, MatchOption, IfSome, IfNone}

pub split_option : {T : Type 0} (P : Type 0) (Q : T → Type 0) (o : Option T) → MatchOption o P Q → IfSome o Q × IfNone o P
split_option P Q None h = (tt, h)
split_option P Q (Some x) h = (h, tt)

pub false_true : (b : Bool) → b ≡ false → IsTrue b → ⊥
false_true b e h = cc

pub nonempty : (n : ℕ) → false ≡ nat_eq n 0 → 0 < n
nonempty n e = grind (arith, nat_tests)

pub empty : (n : ℕ) → true ≡ nat_eq n 0 → n ≡ 0
empty n e = grind (arith, nat_tests)
