use Rattle.std.proofs.Common.{sym, ◌∙◌}
use Rattle.scenario.proofs.Spaces.{empty_list, split_of_two}
use Rattle.scenario.proofs.fields.two_fields.Goals as goal

pub returns-then-is_empty : goal.returns-then-is_empty
returns-then-is_empty c = λ first second two.
    two.some (sym (split_of_two c.args.s.now c.in-Some.first.now c.in-Some.second.now first second c.in-Some.ensures two).0 ∙ empty_list _ _ c.is_empty.ensures c.if-is_empty.true)
