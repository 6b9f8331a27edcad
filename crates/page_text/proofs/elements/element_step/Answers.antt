use Rattle.page_text.specs.TagsModel.{StartTag, tag_of}
use Rattle.page_text.specs.StepsModel.{ElementStep, no_room, no_tag, element, room, state_of, step_of, tag_step}
use Rattle.page_text.proofs.Reading.{handed_on, passed_on, given_answers}
use Rattle.page_text.proofs.elements.element_step.Goals as goal

pub returns-in-Err-clause-value : goal.returns-in-Err-clause-value
returns-in-Err-clause-value c =
    let s = state_of c.args.s in
    handed_on step_of (ElementStep s) (room s) c.in-Err.failed c.in-Err.ensures.value (λ x e. no_room x e)

pub returns-in-Err-start_tag-clause-value : goal.returns-in-Err-start_tag-clause-value
returns-in-Err-start_tag-clause-value c =
    let s = state_of c.args.s in
    passed_on step_of (ElementStep s) tag_of (StartTag s.rest) c.in-Err-start_tag.failed c.in-Err-start_tag.ensures.value (λ x h. no_tag x c.in-Ok.ensures.value h)

pub returns-clause-value : goal.returns-clause-value
returns-clause-value c =
    let s = state_of c.args.s in
    given_answers step_of (ElementStep s) (tag_step s (tag_of c.in-Ok-start_tag.t)) c.tag_step.result c.tag_step.ensures.value (element (tag_of c.in-Ok-start_tag.t) c.in-Ok.ensures.value c.in-Ok-start_tag.ensures.value)
