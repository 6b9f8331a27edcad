use Rattle.std.proofs.Common.{sym, subst}
use Rattle.small_forms.specs.Scripts.{IsPageScript}
use Rattle.small_forms.specs.declared.bytes.Class.TheVariants.{RawText}
use Rattle.small_forms.proofs.AsciiTexts.{inside_ascii}
use Rattle.small_forms.proofs.PageFronts.{script_front}
use Rattle.small_forms.proofs.page.script_in.Goals as goal

pub returns-in_default-clause-none : goal.returns-in_default-clause-none
returns-in_default-clause-none c text rest lines is e =
    let same = script_front c.args.inside.now c.front.result.0.now c.front.result.1.now text rest lines c.front.ensures.whole c.front.ensures.inside c.front.ensures.stops is e in
    c.in_default.ensures.none rest same.1

pub returns-in_default-2-clause-none : goal.returns-in_default-2-clause-none
returns-in_default-2-clause-none c text rest lines is e =
    let same = script_front c.args.inside.now c.front.result.0.now c.front.result.1.now text rest lines c.front.ensures.whole c.front.ensures.inside c.front.ensures.stops is e in
    let none = rw c.in_default-2.is at c.in_ok-lines.ensures.none in
    none lines (subst (λ t. IsPageScript t lines) (sym same.0) is)

pub text_of-requires-clause-ascii : goal.text_of-requires-clause-ascii
text_of-requires-clause-ascii c = inside_ascii RawText c.front.result.0.now c.front.ensures.inside
