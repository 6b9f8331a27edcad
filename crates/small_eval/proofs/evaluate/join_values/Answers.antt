use Rattle.std.proofs.Common.{◌∙◌, ap, sym, ◌++◌}
use Rattle.small_meaning.specs.Rows.{joined_row, text_of}
use Rattle.small_eval.proofs.Rows.{stands_at, texts_joined}
use Rattle.small_eval.proofs.evaluate.join_values.Goals as goal

pub returns-clause-own : goal.returns-clause-own
returns-clause-own c = λ s i marks c' h.
    c.join.ensures.own s i marks c' (stands_at _ _ _ _ _ (texts_joined c.args.left.now c.args.right.now c' c.args.fuel.now c.requires.text ∙ ap (λ t. joined_row (t ++ text_of c.args.right.now) c' c.args.fuel.now) (sym c.in_ok-left.ensures) ∙ ap (λ t. joined_row (c.in_ok-left.left ++ t) c' c.args.fuel.now) (sym c.in_ok-right.ensures)) h)
