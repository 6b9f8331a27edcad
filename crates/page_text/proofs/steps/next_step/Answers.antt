use Rattle.page_text.specs.StepsModel.{Steps, over_end, over_text, over_comment, over_doctype, over_end_tag, over_bad, state_of, step_of, at_end, at_text, comment_step, at_doctype, end_step, next_of, innermost}
use Rattle.page_text.proofs.Reading.{given_answers}
use Rattle.page_text.proofs.steps.next_step.Goals as goal

pub returns-in-End-clause-value : goal.returns-in-End-clause-value
returns-in-End-clause-value c =
    let s = state_of c.args.s in
    given_answers step_of (Steps s) (at_end s (innermost s.open_elements)) c.at_end.result c.at_end.ensures (rw c.in-End.ensures over_end)

pub returns-in-Text-clause-value : goal.returns-in-Text-clause-value
returns-in-Text-clause-value c =
    let s = state_of c.args.s in
    given_answers step_of (Steps s) (at_text s) c.at_text.result c.at_text.ensures.value (rw c.in-Text.ensures over_text)

pub returns-in-Comment-clause-value : goal.returns-in-Comment-clause-value
returns-in-Comment-clause-value c =
    let s = state_of c.args.s in
    given_answers step_of (Steps s) (next_of (comment_step s)) c.at_comment.result c.at_comment.ensures.value (rw c.in-Comment.ensures.0 over_comment)

pub returns-in-Doctype-clause-value : goal.returns-in-Doctype-clause-value
returns-in-Doctype-clause-value c =
    let s = state_of c.args.s in
    given_answers step_of (Steps s) (at_doctype s) c.at_doctype.result c.at_doctype.ensures.value (rw c.in-Doctype.ensures over_doctype)

pub returns-in-EndTag-clause-value : goal.returns-in-EndTag-clause-value
returns-in-EndTag-clause-value c =
    let s = state_of c.args.s in
    given_answers step_of (Steps s) (next_of (end_step s)) c.at_end_tag.result c.at_end_tag.ensures.value (rw c.in-EndTag.ensures over_end_tag)

pub returns-in-Bad-clause-value : goal.returns-in-Bad-clause-value
returns-in-Bad-clause-value c = rw c.in-Bad.ensures over_bad
