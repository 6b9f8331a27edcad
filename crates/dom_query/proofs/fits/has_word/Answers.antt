use Rattle.std.proofs.Common.{ap, sym, ◌∙◌, ◌-◌, take, length}
use Rattle.dom_query.proofs.Words.{word_here, word_end, word_next, left_shorter, left_within}
use Rattle.dom_query.proofs.fits.has_word.Goals as goal

pub overflow_sub-left : goal.overflow_sub-left
overflow_sub-left c = left_within c.loop-word.left.now c.after_word-rest.result.now c.after_word-rest.ensures

pub returns-then-eq : goal.returns-then-eq
returns-then-eq c =
    sym (word_here c.args.word.now c.loop-word.left.now c.split_at.result.0.now (c.split_at.ensures.front ∙ ap (λ r. take (length c.loop-word.left.now - length r) c.loop-word.left.now) c.after_word-rest.ensures)
    (sym c.eq.ensures ∙ c.if-eq.true))
    ∙ c.loop-word.invariant

pub returns-in-empty : goal.returns-in-empty
returns-in-empty c =
    word_end c.args.word.now c.loop-word.left.now c.split_at.result.0.now c.after_word-rest.result.now c.split_at.ensures.front
    (sym c.eq.ensures ∙ c.if-eq.false) c.after_word-rest.ensures c.in-empty.len_below
    ∙ c.loop-word.invariant

pub loop-word-smaller : goal.loop-word-smaller
loop-word-smaller c = left_shorter c.loop-word.left.now c.after_word-rest.result.now c.after_word-rest.ensures c.in-len1-up.len_at_least

pub loop-word-preserved : goal.loop-word-preserved
loop-word-preserved c =
    word_next c.args.word.now c.loop-word.left.now c.split_at.result.0.now c.after_word-rest.result.now c.split_at.ensures.front
    (sym c.eq.ensures ∙ c.if-eq.false) c.after_word-rest.ensures c.in-len1-up.len_at_least
    ∙ c.loop-word.invariant
