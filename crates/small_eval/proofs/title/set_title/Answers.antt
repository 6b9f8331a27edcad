use Rattle.std.proofs.Common.{◌≡◌, ◌∙◌, ℕ, ◌<◌, arith, Option, Some, None}
use Rattle.small_eval.proofs.Heads.{headed_title}
use Rattle.small_eval.proofs.title.set_title.Goals as goal

is_three : (n : ℕ) (o : Option ℕ) → o ≡ Some n → o ≡ Some 3 → 0 < n
is_three n o e f = let same : n ≡ 3 = cc in omega (arith, same)

not_none : (o : Option ℕ) → o ≡ None → o ≡ Some 3 → ⊥
not_none o e f = cc

pub replace_text-requires-clause-plain : goal.replace_text-requires-clause-plain
replace_text-requires-clause-plain c = is_three c.in-Some.node c.title_element.result c.in-Some.is (c.title_element.ensures.found ∙ headed_title _ c.requires.headed)

pub unreachable-requires : goal.unreachable-requires
unreachable-requires c = not_none c.title_element.result c.in-None.is (c.title_element.ensures.found ∙ headed_title _ c.requires.headed)
