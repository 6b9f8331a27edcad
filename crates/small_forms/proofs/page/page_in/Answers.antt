use Rattle.std.proofs.Common.{IsTrue, List, ℕ, sym, subst, ◌++◌}
use Rattle.std.specs.List.{flat_map, list_all}
use Rattle.std.specs.Char.{is_ascii}
use Rattle.small_forms.specs.Pages.{blocks_text, element_text}
use Rattle.small_forms.proofs.PageFronts.{blocks_front, page_end, scripts_ascii, title_ascii, title_rest}
use Rattle.small_forms.proofs.page.page_in.Goals as goal

pub returns-in_default-clause-none : goal.returns-in_default-clause-none
returns-in_default-clause-none c page is = c.in_default.ensures.none page.title (blocks_text page.blocks ++ (flat_map element_text page.scripts ++ page_end)) is.titled is.whole

pub returns-in_default-2-clause-none : goal.returns-in_default-2-clause-none
returns-in_default-2-clause-none c page is =
    let none = rw c.in_default-2.is at c.in_ok-scripts.ensures.none in
    let body = title_rest c.args.bytes.now c.in-Some.title.now c.in-Some.body.now page c.in-Some.ensures.some.0 c.in-Some.ensures.some.1 is in
    let blocks = blocks_front c.in-Some.body.now c.blocks_in-blocks.result.0 c.blocks_in-blocks.result.1.now page.blocks page.scripts c.blocks_in-blocks.ensures.whole c.blocks_in-blocks.ensures.only body in
    none page.scripts is.scripted is.few blocks.1

pub text_of-requires-clause-ascii : goal.text_of-requires-clause-ascii
text_of-requires-clause-ascii c = title_ascii c.in-Some.title.now c.in-Some.ensures.some.0

pub returns-clause-ascii : goal.returns-clause-ascii
returns-clause-ascii c =
    let fact = rw c.in-Some-2.is at c.in_ok-scripts.ensures.some in
    let P : List ℕ → Type 0 = λ xs. IsTrue (list_all is_ascii xs) in
    (subst P (sym c.in_ok-title.ensures) (title_ascii c.in-Some.title.now c.in-Some.ensures.some.0), scripts_ascii c.in-Some-2.scripts fact.1)
