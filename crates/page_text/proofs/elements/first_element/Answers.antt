use Rattle.std.proofs.Common.{◌∙◌, sym}
use Rattle.page_text.specs.StepsModel.{ElementStep, StepsAt, over_second, over_element, start_tag, state_of, step_of}
use Rattle.page_text.proofs.Reading.{mapped}
use Rattle.page_text.proofs.elements.first_element.Goals as goal

pub returns-then-is_second-clause-value : goal.returns-then-is_second-clause-value
returns-then-is_second-clause-value c = over_second (sym c.is_second.ensures ∙ c.if-is_second.true)

pub returns-clause-value : goal.returns-clause-value
returns-clause-value c =
    let s = state_of c.args.s in
    mapped step_of (ElementStep s) (StepsAt s start_tag) c.element_step.result (λ o h. over_element o (sym c.is_second.ensures ∙ c.if-is_second.false) h) c.element_step.ensures.value
